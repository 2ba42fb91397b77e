use Rattle.ts_geometry.specs.declared.direction.Dir.TheVariants.{Yoko}
use Rattle.packaging.specs.Packing.{IsSoundIn}
use Rattle.packaging.proofs.tests.a_box_of_too_much_depth_is_refused.Given as goal

abbrev pub invariant-loop : goal.invariant-loop
invariant-loop g l = IsSoundIn Yoko l.node
