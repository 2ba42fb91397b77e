use Rattle.ts_geometry.specs.declared.direction.Dir.TheVariants.{Yoko}
use Rattle.packaging.specs.Packing.{IsSoundIn}
use Rattle.packaging.proofs.tests.a_box_of_too_much_weight_is_refused_after_its_measures.Given as goal

abbrev pub invariant-loop : goal.invariant-loop
invariant-loop g l = IsSoundIn Yoko l.node
