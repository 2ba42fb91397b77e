-- What is so after the files are closed.
use Rattle.std.proofs.Common.{◌≡◌, ℕ, List, [], Bool, true, false, Option, Some, None, IfSome, IsSome, Result, Ok, Err, refl, sym, inl, inr}
use Rattle.ts_base.specs.Agreement.{with_fault, AgreesFault, CountsFault}
use Rattle.input_codings.specs.declared.coding.Coding.{Coding}
use Rattle.ts_outside.specs.States.{Held, FilesState, Keeps, KeepsAll}
use Rattle.mouth.specs.declared.place.Place.{Place}
use Rattle.mouth.specs.Keeping.{LeavesOther, LeavesOthers}
use Rattle.dvi_writer.specs.Reading.{Asked}
use Rattle.shipping.specs.Boxes.{BeginsWith}
use Rattle.control_faults.specs.declared.turn_fault.TurnFault.TheVariants as faults
use Rattle.main_control.specs.declared.ending.Ending.{Ending}
use Rattle.main_control.specs.declared.ending.Halt.{Halt}
use Rattle.main_control.specs.declared.ending.Halt.TheVariants as halts
use Rattle.main_control.specs.Endings.{ending_of, stopped_as, ending_read, ending_shipped, halt_read, halt_shipped}
use Rattle.main_control.specs.Worlds.{Scene, world, Stopped, Step, boxes_of}
use Rattle.main_control.specs.Run.{run_of, first_scene, meaning}
use Rattle.main_control.specs.Standing.{EndsSo, BreaksAt, BreaksHalt, Runs, IsEnding}
use Rattle.main_control.proofs.Growth.{begins_same}
use Rattle.main_control.proofs.Runs.{start_ends}

-- ---- where no file of ours is left, every file is kept

open_same : (a b : Bool) → (a ≡ true → b ≡ true) → (b ≡ true → a ≡ true) → b ≡ a
open_same true b there back = there refl
open_same false true there back = sym (back refl)
open_same false false there back = refl

file_kept : (n : ℕ) (old new : FilesState) → LeavesOther n [] old [] new → Keeps n old new
file_kept n old new leaves = (
  open_same (old.is_open n) (new.is_open n) (λ was. (leaves.0 (was, tt)).0.0) (λ now. (leaves.1 (now, tt)).0),
  λ was. (leaves.0 (was, tt)).1,
)

pub all_kept : (old new : FilesState) → LeavesOthers [] old [] new → KeepsAll old new
all_kept old new leaves = (leaves.0, λ n. file_kept n old new (leaves.1 n))

-- ---- an ending whose place found no memory

module _ (stands : List Asked → Type 0) (before : List Asked) where
  pub step_ends : (place : Place) (halt : Halt) (e : Ending) (given : Step) → BeginsWith (boxes_of given) before → EndsSo stands before (ending_of place halt) given → IsEnding (ending_of place halt) e → EndsSo stands before e given
  step_ends place halt e given grows ends (inl is) = rw is ends
  step_ends place halts.Ended e given grows ends (inr lost) = absurd lost.0
  step_ends place (halts.Refused (faults.Kind kind)) e given grows ends (inr lost) = rw lost.1 (record { boxes = boxes_of given; taken = ends.1; begun = grows; meant = begins_same (boxes_of given) })
  step_ends place (halts.Refused faults.Budget) e given grows ends (inr lost) = rw lost.1 (record { boxes = boxes_of given; taken = ends.1; begun = grows; meant = begins_same (boxes_of given) })
  step_ends place (halts.Refused faults.ReadFault) e given grows ends (inr lost) = absurd lost.0
  step_ends place (halts.Refused faults.SinkFault) e given grows ends (inr lost) = absurd lost.0
  step_ends place (halts.Refused faults.NoMemory) e given grows ends (inr lost) = absurd lost.0

  pub run_ends : (place : Place) (halt : Halt) (e : Ending) (given : Stopped) → BeginsWith given.boxes before → Runs stands before (ending_of place halt) given → IsEnding (ending_of place halt) e → Runs stands before e given
  run_ends place halt e given grows ends (inl is) = rw is ends
  run_ends place halts.Ended e given grows ends (inr lost) = absurd lost.0
  run_ends place (halts.Refused (faults.Kind kind)) e given grows ends (inr lost) = rw lost.1 (record { boxes = given.boxes; taken = ends.1; begun = grows; meant = begins_same given.boxes })
  run_ends place (halts.Refused faults.Budget) e given grows ends (inr lost) = rw lost.1 (record { boxes = given.boxes; taken = ends.1; begun = grows; meant = begins_same given.boxes })
  run_ends place (halts.Refused faults.ReadFault) e given grows ends (inr lost) = absurd lost.0
  run_ends place (halts.Refused faults.SinkFault) e given grows ends (inr lost) = absurd lost.0
  run_ends place (halts.Refused faults.NoMemory) e given grows ends (inr lost) = absurd lost.0

pub ending_breaks : (place : Place) (halt : Halt) (e : Ending) (old new : Bool) → BreaksHalt halt old new → IsEnding (ending_of place halt) e → BreaksAt e old new
ending_breaks place halts.Ended e old new breaks (inl is) = rw is breaks
ending_breaks place (halts.Refused (faults.Kind kind)) e old new breaks (inl is) = rw is breaks
ending_breaks place (halts.Refused faults.Budget) e old new breaks (inl is) = rw is breaks
ending_breaks place (halts.Refused faults.ReadFault) e old new breaks (inl is) = rw is breaks
ending_breaks place (halts.Refused faults.SinkFault) e old new breaks (inl is) = rw is breaks
ending_breaks place (halts.Refused faults.NoMemory) e old new breaks (inl is) = rw is breaks
ending_breaks place halt e old new breaks (inr lost) = rw lost.1 tt

pub ending_reads : (place : Place) (halt : Halt) (e : Ending) (old new : ℕ) → CountsFault (halt_read halt) old new → IsEnding (ending_of place halt) e → CountsFault (ending_read e) old new
ending_reads place halts.Ended e old new counts (inl is) = rw is counts
ending_reads place (halts.Refused (faults.Kind kind)) e old new counts (inl is) = rw is counts
ending_reads place (halts.Refused faults.Budget) e old new counts (inl is) = rw is counts
ending_reads place (halts.Refused faults.ReadFault) e old new counts (inl is) = rw is counts
ending_reads place (halts.Refused faults.SinkFault) e old new counts (inl is) = rw is counts
ending_reads place (halts.Refused faults.NoMemory) e old new counts (inl is) = rw is counts
ending_reads place halts.Ended e old new counts (inr lost) = absurd lost.0
ending_reads place (halts.Refused (faults.Kind kind)) e old new counts (inr lost) = rw lost.1 counts
ending_reads place (halts.Refused faults.Budget) e old new counts (inr lost) = rw lost.1 counts
ending_reads place (halts.Refused faults.ReadFault) e old new counts (inr lost) = absurd lost.0
ending_reads place (halts.Refused faults.SinkFault) e old new counts (inr lost) = absurd lost.0
ending_reads place (halts.Refused faults.NoMemory) e old new counts (inr lost) = absurd lost.0

pub ending_ships : (place : Place) (halt : Halt) (e : Ending) (old new : ℕ) → CountsFault (halt_shipped halt) old new → IsEnding (ending_of place halt) e → CountsFault (ending_shipped e) old new
ending_ships place halts.Ended e old new counts (inl is) = rw is counts
ending_ships place (halts.Refused (faults.Kind kind)) e old new counts (inl is) = rw is counts
ending_ships place (halts.Refused faults.Budget) e old new counts (inl is) = rw is counts
ending_ships place (halts.Refused faults.ReadFault) e old new counts (inl is) = rw is counts
ending_ships place (halts.Refused faults.SinkFault) e old new counts (inl is) = rw is counts
ending_ships place (halts.Refused faults.NoMemory) e old new counts (inl is) = rw is counts
ending_ships place halts.Ended e old new counts (inr lost) = absurd lost.0
ending_ships place (halts.Refused (faults.Kind kind)) e old new counts (inr lost) = rw lost.1 counts
ending_ships place (halts.Refused faults.Budget) e old new counts (inr lost) = rw lost.1 counts
ending_ships place (halts.Refused faults.ReadFault) e old new counts (inr lost) = absurd lost.0
ending_ships place (halts.Refused faults.SinkFault) e old new counts (inr lost) = absurd lost.0
ending_ships place (halts.Refused faults.NoMemory) e old new counts (inr lost) = absurd lost.0

-- ---- a whole run

was_ok : {X E D : Type 0} (becomes : E → D) (r : Result X E) (x : X) → with_fault becomes r ≡ Ok x → r ≡ Ok x
was_ok becomes (Ok y) x is = let same : y ≡ x = cc in rw same refl
was_ok becomes (Err e) x is = let never : ⊥ = cc in absurd never

pub if_some : {A : Type 0} (o : Option A) (P Q : A → Type 0) → IfSome o P → ((a : A) → o ≡ Some a → P a → Q a) → IfSome o Q
if_some None P Q given so = tt
if_some (Some a) P Q given so = so a refl given

pub run_whole : (stands : List Asked → Type 0) (held : List Held) (coding : Coding) (budget : ℕ) (name : List ℕ) (scene : Scene) (place : Place) (halt : Halt) (e : Ending)
    → with_fault stopped_as (first_scene held coding budget name) ≡ Ok scene → Runs stands [] (ending_of place halt) (run_of (world scene [])) → IsEnding (ending_of place halt) e → Runs stands [] e (meaning held coding budget name)
unfolding meaning
run_whole stands held coding budget name scene place halt e is runs ends =
    let first = was_ok stopped_as (first_scene held coding budget name) scene is in
    rw first (run_ends stands [] place halt e (run_of (world scene [])) (_, refl) runs ends)

pub start_whole : (stands : List Asked → Type 0) (held : List Held) (coding : Coding) (budget : ℕ) (name : List ℕ) (e : Ending) → AgreesFault (ending_read e) e (with_fault stopped_as (first_scene held coding budget name)) → stands []
    → Runs stands [] e (meaning held coding budget name)
unfolding meaning
start_whole stands held coding budget name e agrees none = start_ends stands e (first_scene held coding budget name) agrees none
