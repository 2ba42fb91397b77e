use Rattle.std.proofs.Common.{◌≡◌, ◌∙◌, [], Ok, refl}
use Rattle.std.proofs.lemmas.List.Elements.{All-nil}
use Rattle.ts_base.specs.Agreement.{with_fault, AgreesFault}
use Rattle.mouth.specs.Keeping.{place_in}
use Rattle.known_fonts.specs.Shipped.{HasMeasuresHeld}
use Rattle.main_control.specs.Endings.{stopped_as, ending_read}
use Rattle.main_control.specs.Worlds.{scene_of}
use Rattle.main_control.specs.Run.{first_scene, meaning}
use Rattle.main_control.specs.Standing.{Runs, Holds}
use Rattle.main_control.proofs.Joins.{ending_counts}
use Rattle.main_control.proofs.Closing.{if_some, run_whole, start_whole}
use Rattle.main_control.proofs.stomach.Stomach.run.Goals as goal

pub returns-in-Ok-clause-exact : goal.returns-in-Ok-clause-exact
returns-in-Ok-clause-exact g c =
    let before = g.F.Files.state c.args.files.now in
    let scene = scene_of c.in-Ok.control (g.F.Files.state c.start.new.files) [] in
    if_some before.held (λ held. with_fault stopped_as (first_scene held c.args.coding c.args.budget c.args.name.now) ≡ Ok scene)
    (λ held. Runs (Holds (g.P.Shipper.stands c.turns-halt.new.shipper) held) [] c.end.result (meaning held c.args.coding c.args.budget c.args.name.now)) c.in-Ok.ensures.exact
    (λ held told is. run_whole (Holds (g.P.Shipper.stands c.turns-halt.new.shipper) held) held c.args.coding c.args.budget c.args.name.now scene (place_in c.turns-halt.new.self.gullet) c.turns-halt.result c.end.result is
    (c.turns-halt.ensures.exact (c.in-Ok.ensures.told (rw told refl)) held (c.in-Ok.ensures.others.0 ∙ told) (rw c.in-Ok.ensures.begun.fonts (c.fonts_begin_so.ensures.as_held held)) [] c.in-Ok.ensures.begun.lists []
    (c.requires.none, All-nil (HasMeasuresHeld held))) c.end.ensures.ending)

pub returns-in-Err-clause-exact : goal.returns-in-Err-clause-exact
returns-in-Err-clause-exact g c =
    if_some (g.F.Files.state c.args.files.now).held (λ held. AgreesFault (ending_read c.in-Err.ending) c.in-Err.ending (with_fault stopped_as (first_scene held c.args.coding c.args.budget c.args.name.now)))
    (λ held. Runs (Holds (g.P.Shipper.stands c.args.shipper.now) held) [] c.in-Err.ending (meaning held c.args.coding c.args.budget c.args.name.now)) c.in-Err.ensures.exact
    (λ held told agrees. start_whole (Holds (g.P.Shipper.stands c.args.shipper.now) held) held c.args.coding c.args.budget c.args.name.now c.in-Err.ending agrees (c.requires.none, All-nil (HasMeasuresHeld held)))

pub returns-in-Err-clause-shipped : goal.returns-in-Err-clause-shipped
returns-in-Err-clause-shipped g c = ending_counts c.in-Err.ending _ c.in-Err.ensures.unshipped
