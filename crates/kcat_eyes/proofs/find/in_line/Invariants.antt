use Rattle.std.proofs.Common.{◌≡◌, drop}
use Rattle.kcat_eyes.specs.Eyes.{in_line}
use Rattle.kcat_eyes.proofs.find.in_line.Given as goal

abbrev pub invariant-loop-place : goal.invariant-loop-place
invariant-loop-place g l =
    let codes = g.C.CodeTable.codes l.codes in
    in_line codes l.state (drop l.at l.line) ≡ in_line codes l.state (drop l.place l.line)
