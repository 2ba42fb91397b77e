use Rattle.std.proofs.Common.{◌∙◌}
use Rattle.mouth.proofs.Leaving.{leaves_then}
use Rattle.mouth.specs.Keeping.{numbers, place_in}
use Rattle.main_control.specs.Endings.{ending_of}
use Rattle.main_control.specs.Worlds.{world, scene_of}
use Rattle.main_control.specs.Standing.{Holds}
use Rattle.main_control.proofs.Runs.{going_on, going_last}
use Rattle.main_control.proofs.control.Control.turns.Goals as goal

pub loop-halt-preserved : goal.loop-halt-preserved
loop-halt-preserved g c =
    let keep = c.loop-halt.invariant in
    let step = c.in-Ok.ensures in
    let first = g.F.Files.state c.args.files.now in
    let before = g.F.Files.state c.loop-halt.files in
    let after = g.F.Files.state c.step.new.files in
    record {
      run = λ told held is met entries listed boxes taken. going_on (Holds (g.P.Shipper.stands c.loop-halt.shipper) held) (Holds (g.P.Shipper.stands c.step.new.shipper) held)
          (world (scene_of c.args.self.now first entries) boxes) c.loop-halt.self before c.step.new.self after
          (keep.run told held is met entries listed boxes taken) (λ e stand b stands. step.exact (keep.told told) held (keep.held held is met).1 e stand b stands) step.size;
      held = λ held is met. let was = keep.held held is met in (step.goes.others.0 ∙ was.0, step.held held was.0 was.1);
      told = λ told. step.goes.told (keep.told told);
      opened = step.goes.opened;
      going = step.going;
      ships = step.ships;
      others = leaves_then (numbers c.args.self.now.gullet) (numbers c.loop-halt.self.gullet) (numbers c.step.new.self.gullet) first before after keep.others step.goes.others;
      whole = λ was. step.breaks (keep.whole was);
      origin = step.origin ∙ keep.origin;
      read = step.read ∙ keep.read;
      shipped = step.shipped ∙ keep.shipped;
    }

pub returns-in-Err-clause-exact : goal.returns-in-Err-clause-exact
returns-in-Err-clause-exact g c told held is met entries listed boxes taken =
    let keep = c.loop-halt.invariant in
    let first = g.F.Files.state c.args.files.now in
    let before = g.F.Files.state c.loop-halt.files in
    going_last (Holds (g.P.Shipper.stands c.loop-halt.shipper) held) (Holds (g.P.Shipper.stands c.step.new.shipper) held)
    (world (scene_of c.args.self.now first entries) boxes) c.loop-halt.self before (ending_of (place_in c.step.new.self.gullet) c.in-Err.halt)
    (keep.run told held is met entries listed boxes taken) (λ e stand b stands. c.in-Err.ensures.exact (keep.told told) held (keep.held held is met).1 e stand b stands)
