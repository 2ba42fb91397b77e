-- What a step of main control has done to what it and its shipper stand for.
use Rattle.std.specs.Prelude.{◌≡◌, ◌⊎◌, ℕ, Bool, List, [], All, Option, Some, None, IfSome, Result, Ok, Err}
use Rattle.ts_base.specs.Agreement.{Cause, AgreesFault, CountsFault}
use Rattle.ts_outside.specs.States.{Held, FilesState}
use Rattle.mouth.specs.Reading.{at_place}
use Rattle.mouth.specs.Keeping.{numbers, reading, place_in, AreOpen, AreTold, IsReadable}
use Rattle.mouth.specs.Sizes.{size}
use Rattle.expander.specs.Holding.{AreFit}
use Rattle.dvi_writer.specs.Reading.{Asked}
use Rattle.dvi_commands.specs.declared.font.FontDef.{FontDef}
use Rattle.jlist_builder.specs.Entries.{Entry}
use Rattle.open_lists.specs.Standing.{StandFor, entries_in_all, kept_situation}
use Rattle.font_store.specs.Measures.{AreWhole}
use Rattle.known_fonts.specs.Standing.{AreNumbered, AreDefined, AreDefinable, AreAsHeld}
use Rattle.known_fonts.specs.Shipped.{HasMeasuresHeld}
use Rattle.list_commands.specs.Standing.{AreKeptOf}
use Rattle.control_faults.specs.TurnFaults.{read_cause}
use Rattle.shipping.specs.Boxes.{BeginsWith, last_table}
use Rattle.shipping.specs.Faults.{StaysWhole}
use Rattle.control_faults.specs.declared.turn_fault.TurnFault.{TurnFault}
use Rattle.control_faults.specs.declared.turn_fault.TurnFault.TheVariants as faults
use Rattle.main_control.specs.declared.ending.Ending.{Ending}
use Rattle.main_control.specs.declared.ending.Ending.TheVariants as endings
use Rattle.main_control.specs.declared.ending.Halt.{Halt}
use Rattle.main_control.specs.declared.ending.Halt.TheVariants as halts
use Rattle.main_control.specs.declared.ending.Turn.{Turn}
use Rattle.main_control.specs.declared.ending.Turn.TheVariants as turns
use Rattle.main_control.specs.Endings.{ending_of, HasPlace}
use Rattle.main_control.specs.Bodies.{Body}
use Rattle.main_control.specs.Worlds.{world, scene_of, Stopped, stopped, Quiet, Step, boxes_of}

-- ---- what is true between commands

-- Tokens can be taken on with this environment, whose situation is that of the innermost list; store, environment and table
-- number the fonts alike; and each glyph of the open lists is one of these fonts.
pub record IsGoing (b : Body) : Type 0 where
  pub readable : IsReadable b.gullet
  pub fit : AreFit b.gullet.names b.nest
  pub situation : b.nest.situation ≡ kept_situation b.lists
  pub numbered : AreNumbered b.nest b.fonts
  pub defined : AreDefined b.table b.fonts
  pub definable : AreDefinable b.fonts
  pub whole : AreWhole b.fonts
  pub listed : AreKeptOf b.fonts b.lists

-- at the start, where nothing is loaded or shipped, and no list but the main one is open
pub record IsBegun (b : Body) : Type 0 where
  pub fonts : b.fonts ≡ []
  pub table : b.table ≡ []
  pub lists : StandFor b.lists []

-- what a command leaves that reads or changes what is read and the environments alone
pub record IsApart (old new : Body) : Type 0 where
  pub fonts : new.fonts ≡ old.fonts
  pub table : new.table ≡ old.table
  pub lists : new.lists ≡ old.lists

-- what one leaves that loads no font
pub record KeepsFonts (old new : Body) : Type 0 where
  pub fonts : new.fonts ≡ old.fonts
  pub table : new.table ≡ old.table

-- Fonts whose metrics are those of the files of their names stay so.
abbrev pub StayHeld : FilesState → Body → Body → Type 0
StayHeld state old new =
    (held : List Held) → state.held ≡ Some held → AreAsHeld held old.fonts → AreAsHeld held new.fonts

-- The shipper stands for boxes whose glyphs have the measures that metrics give them, as these files have them.
abbrev pub Holds : (List Asked → Type 0) → List Held → List Asked → Type 0
Holds stands held boxes = stands boxes × All (HasMeasuresHeld held) boxes

-- The shipper stands for some boxes, and the table of the fonts begins with that of the last one.
abbrev pub Ships : (List Asked → Type 0) → List FontDef → Type 0
Ships stands table = (boxes : List Asked) × stands boxes × BeginsWith table (last_table boxes)

abbrev pub ShipsIn : (List Asked → Type 0) → Option Body → Type 0
ShipsIn stands body = IfSome body (λ b. Ships stands b.table)

-- ---- what a stomach has: something to go on from, or nothing after its last turn

abbrev pub numbers_in : Option Body → List ℕ
numbers_in None = []
numbers_in (Some b) = numbers b.gullet

-- what is unread and pending, and the units left
abbrev pub size_in : Option Body → FilesState → ℕ
size_in None state = 0
size_in (Some b) state = size (reading b.gullet state)

-- It has something to go on from, and the files are open that it reads.
abbrev pub IsOpen : Option Body → FilesState → Type 0
IsOpen None state = ⊥
IsOpen (Some b) state = AreOpen b.gullet state

abbrev pub IsTold : Option Body → FilesState → Type 0
IsTold None state = ⊥
IsTold (Some b) state = AreTold b.gullet state

-- ---- what the shipper stands for

-- the boxes before, and then the first of those that are shipped
pub record Partly (stands : List Asked → Type 0) (before all : List Asked) : Type 0 where
  pub boxes : List Asked
  pub taken : stands boxes
  pub begun : BeginsWith boxes before
  pub meant : BeginsWith all boxes

-- The step ends the run so, and the shipper stands for all boxes up to there.
abbrev pub EndsWith : (List Asked → Type 0) → Ending → Step → Type 0
EndsWith stands ending given = (given ≡ Err (stopped ending (boxes_of given))) × stands (boxes_of given)

abbrev pub EndsSo : (List Asked → Type 0) → List Asked → Ending → Step → Type 0
EndsSo stands before endings.Ended given = EndsWith stands endings.Ended given
EndsSo stands before (endings.Fault fault) given = EndsWith stands (endings.Fault fault) given
EndsSo stands before (endings.Budget place) given = EndsWith stands (endings.Budget place) given
EndsSo stands before endings.ReadFault given = Partly stands before (boxes_of given)
EndsSo stands before endings.SinkFault given = Partly stands before (boxes_of given)
EndsSo stands before endings.NoMemory given = Partly stands before (boxes_of given)

-- the entries of the lists that are open after a step
abbrev pub entries_after : Quiet → List (List Entry)
entries_after (Ok s) = entries_in_all s.lists.inner
entries_after (Err stop) = []

abbrev pub entries_of : Step → List (List Entry)
entries_of (Ok w) = entries_in_all w.scene.lists.inner
entries_of (Err s) = []

-- Main control stands for the scene that is given.
abbrev pub Stands : Body → FilesState → Quiet → Type 0
Stands b state given = (given ≡ Ok (scene_of b state (entries_after given))) × StandFor b.lists (entries_after given)

-- It does; or the step is refused so.
abbrev pub Sets : {X : Type 0} → Body → FilesState → Result X TurnFault → Quiet → Type 0
Sets b state (Ok x) given = Stands b state given
Sets b state (Err fault) given = AgreesFault (read_cause fault) (at_place (place_in b.gullet) fault) given

-- Main control stands for the world that is given, and the shipper for the boxes shipped in it.
abbrev pub GoesTo : (List Asked → Type 0) → Body → FilesState → Step → Type 0
GoesTo stands b state given =
    (given ≡ Ok (world (scene_of b state (entries_of given)) (boxes_of given)))
    × (StandFor b.lists (entries_of given) × stands (boxes_of given))

-- the same of a step, whose fault has the place at which main control then is
abbrev pub Steps : {X : Type 0} → (List Asked → Type 0) → Body → FilesState → List Asked → Result X Halt → Step → Type 0
Steps stands b state before (Ok x) given = GoesTo stands b state given
Steps stands b state before (Err halt) given = EndsSo stands before (ending_of (place_in b.gullet) halt) given

-- ---- turns

-- The turn has had its whole effect, and there is something to go on from; or the run has ended.
abbrev pub Turns : (List Asked → Type 0) → Option Body → FilesState → List Asked → Turn → Step → Type 0
Turns stands body state before turns.More given = IfSome body (λ b. GoesTo stands b state given)
Turns stands body state before (turns.Last ending) given = EndsSo stands before ending given

abbrev pub GoesOn : Turn → Type 0 → Type 0
GoesOn turns.More fact = fact
GoesOn (turns.Last ending) fact = Unit {0}

abbrev pub IsLast : Turn → Type 0 → Type 0
IsLast turns.More fact = Unit {0}
IsLast (turns.Last ending) fact = fact

abbrev pub CountsTurn : (Ending → Cause) → Turn → ℕ → ℕ → Type 0
CountsTurn cause turns.More old new = new ≡ old
CountsTurn cause (turns.Last ending) old new = CountsFault (cause ending) old new

-- ---- what breaks a shipper: a failed sink, or want of memory

abbrev pub BreaksAt : Ending → Bool → Bool → Type 0
BreaksAt endings.Ended old new = StaysWhole old new
BreaksAt (endings.Fault fault) old new = StaysWhole old new
BreaksAt (endings.Budget place) old new = StaysWhole old new
BreaksAt endings.ReadFault old new = StaysWhole old new
BreaksAt endings.SinkFault old new = Unit {0}
BreaksAt endings.NoMemory old new = Unit {0}

abbrev pub BreaksTurn : Turn → Bool → Bool → Type 0
BreaksTurn turns.More old new = StaysWhole old new
BreaksTurn (turns.Last ending) old new = BreaksAt ending old new

abbrev pub BreaksBy : TurnFault → Bool → Bool → Type 0
BreaksBy (faults.Kind kind) old new = StaysWhole old new
BreaksBy faults.Budget old new = StaysWhole old new
BreaksBy faults.ReadFault old new = StaysWhole old new
BreaksBy faults.SinkFault old new = Unit {0}
BreaksBy faults.NoMemory old new = Unit {0}

abbrev pub BreaksHalt : Halt → Bool → Bool → Type 0
BreaksHalt halts.Ended old new = StaysWhole old new
BreaksHalt (halts.Refused fault) old new = BreaksBy fault old new

abbrev pub BreaksStep : {X : Type 0} → Result X Halt → Bool → Bool → Type 0
BreaksStep (Ok x) old new = StaysWhole old new
BreaksStep (Err halt) old new = BreaksHalt halt old new

-- ---- a whole run

abbrev pub RunsWith : (List Asked → Type 0) → Ending → Stopped → Type 0
RunsWith stands ending given = (given.ending ≡ ending) × stands given.boxes

-- A run ends as it is given, with all of its boxes taken; where a counted fault or want of memory ends it, with some first
-- ones.
abbrev pub Runs : (List Asked → Type 0) → List Asked → Ending → Stopped → Type 0
Runs stands before endings.Ended given = RunsWith stands endings.Ended given
Runs stands before (endings.Fault fault) given = RunsWith stands (endings.Fault fault) given
Runs stands before (endings.Budget place) given = RunsWith stands (endings.Budget place) given
Runs stands before endings.ReadFault given = Partly stands before given.boxes
Runs stands before endings.SinkFault given = Partly stands before given.boxes
Runs stands before endings.NoMemory given = Partly stands before given.boxes

-- The ending is this one; or it has a place, for which memory ran out.
abbrev pub IsEnding : Ending → Ending → Type 0
IsEnding meant ending = (ending ≡ meant) ⊎ (HasPlace meant × (ending ≡ endings.NoMemory))
