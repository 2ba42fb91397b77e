use Rattle.std.proofs.Common.{◌≡◌, refl}
use Rattle.ts_outside.specs.States.{FilesState}
use Rattle.mouth.specs.Keeping.{reading}
use Rattle.main_control.specs.Worlds.{scene_of}
use Rattle.main_control.specs.Standing.{Holds}
use Rattle.main_control.proofs.Boxing.{box_refused}
use Rattle.main_control.proofs.control.Control.end_box.Goals as goal

pub returns-in_err-ended-clause-exact : goal.returns-in_err-ended-clause-exact
returns-in_err-ended-clause-exact g c =
    rw (← c.self.view_is) (λ state held met entries stand boxes holds.
    box_refused (Holds (g.P.Shipper.stands c.args.shipper.now) held) (record { gullet = c.self.inside.gullet; nest = c.end_hbox.new.env; fonts = c.self.inside.fonts; table = c.self.inside.table; lists = c.end_hbox.new.lists }) state boxes c.in_err-ended.field-0.0 _ c.from_residual.result c.from_residual.ensures
    (c.in_err-ended.ensures.exact (reading c.self.inside.gullet state) entries stand) holds)
