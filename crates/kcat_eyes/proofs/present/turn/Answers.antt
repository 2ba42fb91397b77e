use Rattle.std.proofs.Common.{◌≡◌, true, arith}
use Rattle.input_codings.specs.Reading.{unread}
use Rattle.kcat_eyes.specs.Eyes.{next}
use Rattle.kcat_eyes.proofs.Turns.{turn_some}
use Rattle.kcat_eyes.proofs.present.turn.Goals.{else-ends-via-then-ends+else-line_no-gt0, else-ends-via-else-ends}
use Rattle.kcat_eyes.proofs.present.turn.Goals as goal

pub returns-clause-exact : goal.returns-clause-exact
unfolding next
returns-clause-exact g c = λ told codes names.
    let lines = unread c.args.lines.now ((g.F.Files.state c.args.files.now).left c.args.lines.now.file) in
    let after = unread c.next_line.new.self ((g.F.Files.state c.next_line.new.files).left c.args.lines.now.file) in
    let start : c.args.ends ≡ true → c.args.lines.now.line_no ≡ 0 =
    λ over. elim c.else-ends.branch [ else-ends-via-then-ends+else-line_no-gt0 w ↦ grind arith | else-ends-via-else-ends w ↦ grind arith ] in
    turn_some codes names c.args.ends lines after c.in-Some.line start (rw c.in-Some.is at (c.in_ok-line.ensures.exact told))
