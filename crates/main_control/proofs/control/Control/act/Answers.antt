use Rattle.std.proofs.Common.{◌≡◌, refl}
use Rattle.main_control.specs.Worlds.{scene_of}
use Rattle.main_control.specs.Turn.{quiet_done, acted}
use Rattle.main_control.specs.Standing.{Holds}
use Rattle.main_control.proofs.Joins.{quiet_refused}
use Rattle.main_control.proofs.control.Control.act.Goals as goal

pub returns-in_err-do_quiet-in-Quiet-clause-exact : goal.returns-in_err-do_quiet-in-Quiet-clause-exact
returns-in_err-do_quiet-in-Quiet-clause-exact g c told held met entries stand boxes holds =
    let s = scene_of c.args.self.now (g.F.Files.state c.args.files.now) entries in
    quiet_refused (Holds (g.P.Shipper.stands c.args.shipper.now) held) c.do_quiet.new.self (g.F.Files.state c.do_quiet.new.files) boxes c.in_err-do_quiet-in-Quiet.field-0.0 (quiet_done c.in-Quiet.command s) (acted c.args.command s boxes) c.from_residual.result
    c.from_residual.ensures (c.in_err-do_quiet-in-Quiet.ensures.exact told entries stand) (rw c.in-Quiet.is refl) holds
