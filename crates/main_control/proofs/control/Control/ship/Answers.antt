use Rattle.std.proofs.Common.{◌≡◌, List, [], ◌∷◌, ◌++◌, Ok, refl}
use Rattle.ts_outside.specs.States.{FilesState}
use Rattle.jlist_builder.specs.Entries.{Entry}
use Rattle.mouth.specs.Reading.{at_place}
use Rattle.mouth.specs.Keeping.{place_in}
use Rattle.control_faults.specs.TurnFaults.{read_cause}
use Rattle.dvi_writer.specs.Reading.{Asked, asked_for}
use Rattle.known_fonts.specs.Shipped.{HasMeasuresHeld}
use Rattle.main_control.specs.Worlds.{Quiet, in_scene, text_of, scene_of, with_text}
use Rattle.main_control.specs.Boxes.{asked_in, revived, box_shipped}
use Rattle.main_control.specs.Standing.{Holds}
use Rattle.main_control.proofs.Sets.{text_stands, later_ends}
use Rattle.main_control.proofs.Joins.{calm_goes, quiet_refused, steps_before}
use Rattle.main_control.proofs.Shipping.{holds_more, ships_more, ship_ends, shipped_is}
use Rattle.main_control.proofs.control.Control.ship.Goals as goal

pub returns-in-Err-clause-exact : goal.returns-in-Err-clause-exact
returns-in-Err-clause-exact g c state held met entries stand boxes holds =
    let was = rw (← c.self.view_is) at c.requires.going in
    let same : asked_for c.page_counts.result c.self.inside.table c.args.node.now ≡ asked_in (scene_of c.args.self.now state entries) c.args.node.now =
    rw (← c.self.view_is) (rw (c.page_counts.ensures, was.defined) refl) in
    rw c.from.ensures (ship_ends (Holds (g.P.Shipper.stands c.ship.new.self) held) c.args.self.now state entries c.args.node.now boxes c.in-Err.fault
    (rw (← same) (c.in-Err.ensures.exact boxes holds.0)) (c.in-Err.ensures.kept boxes holds.0, holds.1))

pub returns-in_err-revive-clause-exact : goal.returns-in_err-revive-clause-exact
returns-in_err-revive-clause-exact g c state held met entries stand boxes holds =
    let was = rw (← c.self.view_is) at c.requires.going in
    let asked : Asked = asked_for c.page_counts.result c.self.inside.table c.args.node.now in
    let same : asked ≡ asked_in (scene_of c.args.self.now state entries) c.args.node.now =
    rw (← c.self.view_is) (rw (c.page_counts.ensures, was.defined) refl) in
    let s = scene_of c.args.self.now state entries in
    let more = boxes ++ asked ∷ [] in
    let stands = Holds (g.P.Shipper.stands c.ship.new.self) held in
    let measured : HasMeasuresHeld held asked = c.shipped_glyphs_are_as_held.ensures.measures held c.self.inside.fonts asked (rw (← c.self.view_is) at met) was.defined (rw (← c.self.view_is) at c.requires.fonts) in
    let taken = holds_more (g.P.Shipper.stands c.args.shipper.now) (g.P.Shipper.stands c.ship.new.self) held asked boxes c.in_default.ensures.took measured holds in
    let quiet : Quiet = in_scene s (revived s.text) in
    let agrees = later_ends (read_cause c.in_err-revive.field-0.0) (at_place (place_in c.revive.new.self.gullet) c.in_err-revive.field-0.0) (revived s.text) (λ w. Ok (with_text s w)) (c.in_err-revive.ensures.exact state) in
    steps_before stands c.revive.new.self state boxes more c.from_residual.result (box_shipped s c.args.node.now boxes) (asked ∷ [], refl)
    (quiet_refused stands c.revive.new.self state more c.in_err-revive.field-0.0 quiet (box_shipped s c.args.node.now boxes) c.from_residual.result c.from_residual.ensures agrees
    (shipped_is s c.args.node.now boxes more (rw (← same) (c.in_default.ensures.exact boxes holds.0))) taken)

pub returns-clause-exact : goal.returns-clause-exact
returns-clause-exact g c state held met entries stand boxes holds =
    let was = rw (← c.self.view_is) at c.requires.going in
    let asked : Asked = asked_for c.page_counts.result c.self.inside.table c.args.node.now in
    let same : asked ≡ asked_in (scene_of c.args.self.now state entries) c.args.node.now =
    rw (← c.self.view_is) (rw (c.page_counts.ensures, was.defined) refl) in
    let s = scene_of c.args.self.now state entries in
    let more = boxes ++ asked ∷ [] in
    let stands = Holds (g.P.Shipper.stands c.ship.new.self) held in
    let measured : HasMeasuresHeld held asked = c.shipped_glyphs_are_as_held.ensures.measures held c.self.inside.fonts asked (rw (← c.self.view_is) at met) was.defined (rw (← c.self.view_is) at c.requires.fonts) in
    let taken = holds_more (g.P.Shipper.stands c.args.shipper.now) (g.P.Shipper.stands c.ship.new.self) held asked boxes c.in_default.ensures.took measured holds in
    let quiet : Quiet = in_scene s (revived s.text) in
    let now = text_stands c.args.self.now c.revive.new.self state state entries (revived s.text) (c.in_ok-revive.ensures.exact state) c.in_ok-revive.ensures.apart stand in
    rw (shipped_is s c.args.node.now boxes more (rw (← same) (c.in_default.ensures.exact boxes holds.0))) (calm_goes stands c.revive.new.self state more quiet now taken)

pub returns-clause-ships : goal.returns-clause-ships
returns-clause-ships g c =
    let asked : Asked = asked_for c.page_counts.result c.self.inside.table c.args.node.now in
    rw c.in_ok-revive.ensures.apart.table (rw (← c.self.view_is) (ships_more (g.P.Shipper.stands c.args.shipper.now) (g.P.Shipper.stands c.ship.new.self) c.self.inside.table asked c.in_default.ensures.took refl (rw (← c.self.view_is) at c.requires.ships)))
