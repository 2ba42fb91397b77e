-- A box that is shipped.
use Rattle.std.proofs.Common.{◌≡◌, ◌∙◌, List, [], ◌∷◌, ◌++◌, All, Result, Ok, Err, refl, sym, ap}
use Rattle.std.proofs.lemmas.List.Elements.{All-nil, All-cons, All-append}
use Rattle.std.specs.Result.{IsErr, IsErrAnd}
use Rattle.ts_base.specs.Agreement.{Cause, Determined, Counted, Free, ◌>>=◌, with_fault, Agrees, AgreesFault}
use Rattle.ts_outside.specs.States.{Held, FilesState}
use Rattle.mouth.specs.Reading.{at_place, place_of}
use Rattle.mouth.specs.Keeping.{place_in}
use Rattle.box_tree.specs.Trees.{BoxTree}
use Rattle.jlist_builder.specs.Entries.{Entry}
use Rattle.dvi_commands.specs.declared.font.FontDef.{FontDef}
use Rattle.dvi_writer.specs.Reading.{Asked}
use Rattle.shipping.specs.declared.fault.ShipFault.{ShipFault}
use Rattle.shipping.specs.declared.fault.ShipFault.TheVariants as faults
use Rattle.shipping.specs.Boxes.{BeginsWith, last_table, shipped}
use Rattle.shipping.specs.Faults.{ship_cause}
use Rattle.known_fonts.specs.Shipped.{HasMeasuresHeld}
use Rattle.control_faults.specs.TurnFaults.{of_ship}
use Rattle.main_control.specs.declared.ending.Halt.{Halt}
use Rattle.main_control.specs.declared.ending.Halt.TheVariants as halts
use Rattle.main_control.specs.Endings.{ending_of}
use Rattle.main_control.specs.Bodies.{Body}
use Rattle.main_control.specs.Worlds.{Scene, Step, boxes_of, in_scene, calm, scene_of}
use Rattle.main_control.specs.Boxes.{asked_in, revived, after_shipping, box_shipped}
use Rattle.main_control.specs.Standing.{Holds, Ships, EndsSo, Partly}
use Rattle.main_control.proofs.Growth.{begins_same, shipped_grows}

pub last_is : (boxes : List Asked) (a : Asked) → last_table (boxes ++ a ∷ []) ≡ a.fonts
last_is [] a = refl
last_is (b ∷ []) a = refl
last_is (b ∷ (c ∷ boxes)) a = last_is (c ∷ boxes) a

-- The box is taken: the shipper stands for it after the others.
pub holds_more : (old new : List Asked → Type 0) (held : List Held) (a : Asked) (boxes : List Asked) → ((bs : List Asked) → old bs → new (bs ++ a ∷ [])) → HasMeasuresHeld held a → Holds old held boxes → Holds new held (boxes ++ a ∷ [])
holds_more old new held a boxes took measured was = (took boxes was.0, All-append (HasMeasuresHeld held) boxes (a ∷ []) was.1 (All-cons (HasMeasuresHeld held) a [] measured (All-nil (HasMeasuresHeld held))))

pub ships_more : (old new : List Asked → Type 0) (table : List FontDef) (a : Asked) → ((bs : List Asked) → old bs → new (bs ++ a ∷ [])) → a.fonts ≡ table → Ships old table → Ships new table
ships_more old new table a took fonts was = (was.0 ++ a ∷ [], took was.0 was.1, rw (last_is was.0 a, fonts) (begins_same table))

-- It isn't.
pub ship_ends : (stands : List Asked → Type 0) (b : Body) (state : FilesState) (entries : List (List Entry)) (tree : BoxTree) (boxes : List Asked) (e : ShipFault)
    → AgreesFault (ship_cause e) e (shipped boxes (asked_in (scene_of b state entries) tree)) → stands boxes → EndsSo stands boxes (ending_of (place_in b.gullet) (halts.Refused (of_ship e))) (box_shipped (scene_of b state entries) tree boxes)
unfolding box_shipped
ship_ends stands b state entries tree boxes faults.PagesFull agrees kept = rw agrees (refl, kept)
ship_ends stands b state entries tree boxes faults.JobTooLarge agrees kept = rw agrees (refl, kept)
ship_ends stands b state entries tree boxes faults.PlaceRange agrees kept = rw agrees (refl, kept)
ship_ends stands b state entries tree boxes faults.SinkFault agrees kept = record { boxes = boxes; taken = kept; begun = begins_same boxes; meant = shipped_grows (scene_of b state entries) tree boxes }
ship_ends stands b state entries tree boxes faults.NoMemory agrees kept = record { boxes = boxes; taken = kept; begun = begins_same boxes; meant = shipped_grows (scene_of b state entries) tree boxes }

-- After the box nothing is dead any more.
pub shipped_is : (s : Scene) (tree : BoxTree) (boxes more : List Asked) → shipped boxes (asked_in s tree) ≡ Ok more → box_shipped s tree boxes ≡ calm more (in_scene s (revived s.text))
unfolding box_shipped
shipped_is s tree boxes more is = rw is refl
