-- One turn of a run.
use Rattle.std.proofs.Common.{◌≡◌, ℕ, zero, suc, ◌+◌, ◌<◌, List, [], nat_lt, if◌then◌else◌, cond, Bool, true, false, Ok, Err, refl, ◌∙◌, arith}
use Rattle.std.proofs.lemmas.Bool.{lt-ltb, ltb-true}
use Rattle.ts_base.specs.Agreement.{AgreesFault, with_fault}
use Rattle.ts_outside.specs.States.{FilesState}
use Rattle.jlist_builder.specs.Entries.{Entry}
use Rattle.mouth.specs.Sizes.{size}
use Rattle.mouth.specs.Keeping.{reading}
use Rattle.open_lists.specs.Standing.{StandFor}
use Rattle.dvi_writer.specs.Reading.{Asked}
use Rattle.shipping.specs.Boxes.{BeginsWith}
use Rattle.main_control.specs.declared.ending.Ending.{Ending}
use Rattle.main_control.specs.declared.ending.Ending.TheVariants as endings
use Rattle.main_control.specs.Endings.{stopped_as, ending_read}
use Rattle.main_control.specs.Bodies.{Body}
use Rattle.main_control.specs.Worlds.{World, world, Stopped, Step, Quiet, scene_of, boxes_of}
use Rattle.main_control.specs.Turn.{turn_of}
use Rattle.main_control.specs.Run.{rank, after_turn, no_run, run_step, run_of, run_first}
use Rattle.main_control.specs.Standing.{Partly, EndsWith, EndsSo, GoesTo, RunsWith, Runs, entries_of}
use Rattle.main_control.proofs.Growth.{begins_same, begins_then, turn_grows}
use Rattle.main_control.proofs.Recursion.{fix-is}

guarded : World → World → Stopped
guarded w next = if nat_lt (rank next) (rank w) then run_of next else no_run next

run_near : (w : World) → run_of w ≡ after_turn (guarded w) (turn_of w)
unfolding run_of guarded
run_near w = fix-is rank no_run run_step w

-- A turn that doesn't end the run leaves the rest of it.
pub run_more : (w next : World) → turn_of w ≡ Ok next → rank next < rank w → run_of w ≡ run_of next
unfolding guarded
run_more w next is less =
    let test = lt-ltb (rank next) (rank w) less in
    run_near w ∙ rw (is, test) refl

pub run_last : (w : World) (s : Stopped) → turn_of w ≡ Err s → run_of w ≡ s
run_last w s is = run_near w ∙ rw is refl

-- ---- a run takes no box back

guard_grows : (next : World) (b : Bool) → (b ≡ true → BeginsWith ((run_of next).boxes) next.boxes) → BeginsWith ((cond b (run_of next) (no_run next)).boxes) next.boxes
guard_grows next true grows = grows refl
guard_grows next false grows = begins_same next.boxes

after_grows : (given : Step) (boxes : List Asked) (go : World → Stopped) → BeginsWith (boxes_of given) boxes → ((next : World) → BeginsWith ((go next).boxes) next.boxes) → BeginsWith ((after_turn go given).boxes) boxes
after_grows (Ok next) boxes go first rest = begins_then boxes next.boxes ((go next).boxes) first (rest next)
after_grows (Err s) boxes go first rest = first

grows_below : (n : ℕ) (w : World) → rank w < n → BeginsWith ((run_of w).boxes) w.boxes
unfolding guarded
grows_below zero w less = absurd (omega arith)
grows_below (suc n) w less =
    rw (run_near w) (after_grows (turn_of w) w.boxes (guarded w) (turn_grows w)
    (λ next. guard_grows next (nat_lt (rank next) (rank w)) (λ is. let h = ltb-true (rank next) (rank w) is in grows_below n next (omega arith))))

pub run_grows : (w : World) → BeginsWith ((run_of w).boxes) w.boxes
run_grows w = grows_below (rank w + 1) w (omega arith)

-- ---- where a run has come

-- The run from the start is the run from here, with entries for which the lists stand, and boxes for which the shipper does.
pub record Going (stands : List Asked → Type 0) (start : World) (b : Body) (state : FilesState) : Type 0 where
  pub entries : List (List Entry)
  pub listed : StandFor b.lists entries
  pub boxes : List Asked
  pub taken : stands boxes
  pub begun : BeginsWith boxes start.boxes
  pub same : run_of start ≡ run_of (world (scene_of b state entries) boxes)

pub going_first : (stands : List Asked → Type 0) (b : Body) (state : FilesState) (entries : List (List Entry)) (boxes : List Asked) → StandFor b.lists entries → stands boxes
    → Going stands (world (scene_of b state entries) boxes) b state
going_first stands b state entries boxes listed taken = record { entries = entries; listed = listed; boxes = boxes; taken = taken; begun = begins_same boxes; same = refl }

module _ (stands stands' : List Asked → Type 0) (start : World) (b : Body) (state : FilesState) where
  pub going_on : (b' : Body) (state' : FilesState) → Going stands start b state → ((e : List (List Entry)) → StandFor b.lists e → (bs : List Asked) → stands bs → GoesTo stands' b' state' (turn_of (world (scene_of b state e) bs)))
      → size (reading b'.gullet state') < size (reading b.gullet state) → Going stands' start b' state'
  going_on b' state' now goes less =
      let given = turn_of (world (scene_of b state now.entries) now.boxes) in
      let turn = goes now.entries now.listed now.boxes now.taken in
      record {
        entries = entries_of given;
        listed = turn.1.0;
        boxes = boxes_of given;
        taken = turn.1.1;
        begun = begins_then start.boxes now.boxes (boxes_of given) now.begun (turn_grows (world (scene_of b state now.entries) now.boxes));
        same = now.same ∙ run_more (world (scene_of b state now.entries) now.boxes) (world (scene_of b' state' (entries_of given)) (boxes_of given)) turn.0 less;
      }

  run_with : (e : Ending) (now : Going stands start b state) → EndsWith stands' e (turn_of (world (scene_of b state now.entries) now.boxes)) → RunsWith stands' e (run_of start)
  run_with e now ends =
      let whole = now.same ∙ run_last (world (scene_of b state now.entries) now.boxes) _ ends.0 in
      rw whole (refl, ends.1)

  -- what a turn ships, the run ships
  turn_first : (w : World) → BeginsWith ((run_of w).boxes) (boxes_of (turn_of w))
  unfolding guarded
  turn_first w = rw (run_near w) (first (turn_of w))
    where
      first : (given : Step) → BeginsWith ((after_turn (guarded w) given).boxes) (boxes_of given)
      first (Ok next) = guard_grows next (nat_lt (rank next) (rank w)) (λ is. run_grows next)
      first (Err s) = begins_same s.boxes

  run_partly : (now : Going stands start b state) → Partly stands' now.boxes (boxes_of (turn_of (world (scene_of b state now.entries) now.boxes))) → Partly stands' start.boxes ((run_of start).boxes)
  run_partly now partly =
      let w = world (scene_of b state now.entries) now.boxes in
      let whole : BeginsWith ((run_of w).boxes) partly.boxes = begins_then partly.boxes _ _ partly.meant (turn_first w) in
      record { boxes = partly.boxes; taken = partly.taken; begun = begins_then start.boxes now.boxes partly.boxes now.begun partly.begun; meant = rw now.same whole }

  pub going_last : (e : Ending) → Going stands start b state → ((es : List (List Entry)) → StandFor b.lists es → (bs : List Asked) → stands bs → EndsSo stands' bs e (turn_of (world (scene_of b state es) bs))) → Runs stands' start.boxes e (run_of start)
  going_last endings.Ended now ends = run_with endings.Ended now (ends now.entries now.listed now.boxes now.taken)
  going_last (endings.Fault fault) now ends = run_with (endings.Fault fault) now (ends now.entries now.listed now.boxes now.taken)
  going_last (endings.Budget place) now ends = run_with (endings.Budget place) now (ends now.entries now.listed now.boxes now.taken)
  going_last endings.ReadFault now ends = run_partly now (ends now.entries now.listed now.boxes now.taken)
  going_last endings.SinkFault now ends = run_partly now (ends now.entries now.listed now.boxes now.taken)
  going_last endings.NoMemory now ends = run_partly now (ends now.entries now.listed now.boxes now.taken)

-- ---- a start that is refused

pub start_ends : (stands : List Asked → Type 0) (e : Ending) (first : Quiet) → AgreesFault (ending_read e) e (with_fault stopped_as first) → stands [] → Runs stands [] e (run_first first)
start_ends stands endings.Ended first agrees none = ends first agrees
  where
    ends : (first : Quiet) → with_fault stopped_as first ≡ Err endings.Ended → RunsWith stands endings.Ended (run_first first)
    ends (Ok s) is = let never : ⊥ = cc in absurd never
    ends (Err stop) is = (cc, none)
start_ends stands (endings.Fault fault) first agrees none = ends first agrees
  where
    ends : (first : Quiet) → with_fault stopped_as first ≡ Err (endings.Fault fault) → RunsWith stands (endings.Fault fault) (run_first first)
    ends (Ok s) is = let never : ⊥ = cc in absurd never
    ends (Err stop) is = (cc, none)
start_ends stands (endings.Budget place) first agrees none = ends first agrees
  where
    ends : (first : Quiet) → with_fault stopped_as first ≡ Err (endings.Budget place) → RunsWith stands (endings.Budget place) (run_first first)
    ends (Ok s) is = let never : ⊥ = cc in absurd never
    ends (Err stop) is = (cc, none)
start_ends stands endings.ReadFault first agrees none = record { boxes = []; taken = none; begun = begins_same []; meant = (_, refl) }
start_ends stands endings.SinkFault first agrees none = record { boxes = []; taken = none; begun = begins_same []; meant = (_, refl) }
start_ends stands endings.NoMemory first agrees none = record { boxes = []; taken = none; begun = begins_same []; meant = (_, refl) }
