use Rattle.std.proofs.Common.{◌≡◌, ◌∙◌, sym, Some}
use Rattle.mouth.specs.Keeping.{place_in}
use Rattle.main_control.specs.Worlds.{world, scene_of}
use Rattle.main_control.specs.Turn.{turn_of}
use Rattle.main_control.specs.Standing.{Holds}
use Rattle.main_control.proofs.Growth.{turn_grows}
use Rattle.main_control.proofs.Closing.{step_ends}
use Rattle.main_control.proofs.stomach.Stomach.turn.Goals as goal

pub returns-in-Ok-clause-exact : goal.returns-in-Ok-clause-exact
returns-in-Ok-clause-exact g c =
    let now : c.args.self.now ≡ Some c.in-Some.control = rw (← c.self.view_is) (sym c.take.ensures.value ∙ c.in-Some.is) in
    rw now (λ told held met entries stand boxes holds. c.in-Ok.ensures.exact told held met entries stand boxes holds)

pub returns-in-Err-clause-exact : goal.returns-in-Err-clause-exact
returns-in-Err-clause-exact g c =
    let now : c.args.self.now ≡ Some c.in-Some.control = rw (← c.self.view_is) (sym c.take.ensures.value ∙ c.in-Some.is) in
    let state = g.F.Files.state c.args.files.now in
    rw now (λ told held met entries stand boxes holds.
    let given = turn_of (world (scene_of c.in-Some.control state entries) boxes) in
    step_ends (Holds (g.P.Shipper.stands c.step.new.shipper) held) boxes (place_in c.step.new.self.gullet) c.in-Err.halt c.end.result given
    (turn_grows (world (scene_of c.in-Some.control state entries) boxes)) (c.in-Err.ensures.exact told held met entries stand boxes holds) c.end.ensures.ending)
