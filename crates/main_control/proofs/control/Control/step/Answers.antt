use Rattle.std.proofs.Common.{◌≡◌, ◌∙◌, ap}
use Rattle.assignments.specs.Commands.{meant}
use Rattle.open_lists.specs.Standing.{entries_in_all}
use Rattle.main_control.specs.Commands.{command_of}
use Rattle.main_control.specs.Worlds.{world, scene_of}
use Rattle.main_control.specs.Lists.{cut_by}
use Rattle.main_control.specs.Turn.{acted, turn_of}
use Rattle.main_control.specs.Standing.{Holds}
use Rattle.main_control.proofs.Joins.{turn_acts, turn_refused, ok_same}
use Rattle.main_control.proofs.control.Control.step.Goals as goal

pub returns-in_err-token-clause-exact : goal.returns-in_err-token-clause-exact
returns-in_err-token-clause-exact g c told held met entries stand boxes holds =
    turn_refused (Holds (g.P.Shipper.stands c.args.shipper.now) held) c.take.new.self (g.F.Files.state c.take.new.files) boxes c.in_err-token.field-0.0 (scene_of c.args.self.now (g.F.Files.state c.args.files.now) entries) c.from_residual.result c.from_residual.ensures
    (c.in_err-token.ensures.exact told) holds

pub returns-clause-exact : goal.returns-clause-exact
returns-clause-exact g c told held met entries stand boxes holds =
    let before = g.F.Files.state c.args.files.now in
    let after = g.F.Files.state c.take.new.files in
    let command = c.command_of-command.result in
    let cuts = c.cut_before.ensures.exact after entries (rw c.take.ensures.apart.lists stand) in
    let left = entries_in_all (cut_by command (scene_of c.take.new.self after entries)).lists.inner in
    let does : command ≡ command_of (meant c.take.new.self.nest c.in_ok-token.token) = rw (← c.self.view_is) (c.command_of-command.ensures ∙ ap command_of c.meant.ensures) in
    let turn : turn_of (world (scene_of c.args.self.now before entries) boxes) ≡ acted command (scene_of c.cut_before.new.self after left) boxes =
    turn_acts c.args.self.now c.take.new.self c.cut_before.new.self before after entries left boxes c.in_ok-token.token command (c.in_ok-token.ensures.exact told) c.take.ensures.apart does
    (ok_same (cut_by command (scene_of c.take.new.self after entries)) (scene_of c.cut_before.new.self after left) cuts.0) in
    rw turn (c.act.ensures.exact (rw c.cut_before.ensures.gullet (c.take.ensures.goes.told told)) held (rw (c.cut_before.ensures.kept.fonts, c.take.ensures.apart.fonts) met) left cuts.1 boxes holds)
