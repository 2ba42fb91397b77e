use Rattle.std.proofs.Common.{rules, w32}
use Rattle.std.proofs.lemmas.Int.{to_z-of_z}
use mir.Val.{SFits}
use Rattle.dvi_structure.specs.Outline.{outlined}
use Rattle.dvi_structure.proofs.Walking.{placed_fault}
use Rattle.dvi_structure.proofs.structure.obey.Goals as goal

pub returns-in-Err-clause-exact : goal.returns-in-Err-clause-exact
unfolding outlined
returns-in-Err-clause-exact c =
    let fits : SFits w32 c.in-FontDef.number = search rules in
    let back = to_z-of_z w32 c.in-FontDef.number fits in
    let fault = rw back at c.in-Err.ensures in
    rw c.in-FontDef.is (placed_fault c.in-Err.fault c.args.at _ _ fault)
