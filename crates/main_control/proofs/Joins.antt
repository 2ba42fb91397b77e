-- Steps that ship nothing, and what the shipper stands for after them.
use Rattle.std.proofs.Common.{◌≡◌, ℕ, List, true, false, Result, Ok, Err, refl, sym, ap, ◌∙◌}
use Rattle.std.specs.Result.{IsErr, IsErrAnd}
use Rattle.ts_base.specs.Agreement.{Cause, Determined, Counted, Free, AgreesFault, IsUncounted, CountsFault, Counts}
use Rattle.ts_outside.specs.States.{FilesState}
use Rattle.tok_lists.specs.declared.token.Token.{Token}
use Rattle.mouth.specs.declared.place.Place.{Place}
use Rattle.mouth.specs.Reading.{Stop, at_place}
use Rattle.mouth.specs.Keeping.{place_in}
use Rattle.expander.specs.declared.gullet_fault.GulletFault.{GulletFault}
use Rattle.expander.specs.declared.gullet_fault.GulletFault.TheVariants as gullet_faults
use Rattle.expander.specs.Worlds.{World as Text}
use Rattle.jlist_builder.specs.Entries.{Entry}
use Rattle.dvi_writer.specs.Reading.{Asked}
use Rattle.shipping.specs.Boxes.{BeginsWith}
use Rattle.control_faults.specs.declared.turn_fault.TurnFault.{TurnFault}
use Rattle.control_faults.specs.declared.turn_fault.TurnFault.TheVariants as faults
use Rattle.control_faults.specs.TurnFaults.{read_cause, sink_cause, of_gullet}
use Rattle.control_faults.specs.declared.kind.FaultKind.TheVariants as kinds
use Rattle.assignments.specs.Worlds.{Outcome, refused}
use Rattle.assignments.specs.Commands.{meant}
use Rattle.assignments.specs.Reads.{next_token}
use Rattle.main_control.specs.declared.command.Command.{Command}
use Rattle.main_control.specs.declared.ending.Ending.{Ending}
use Rattle.main_control.specs.declared.ending.Ending.TheVariants as endings
use Rattle.main_control.specs.declared.ending.Halt.{Halt}
use Rattle.main_control.specs.declared.ending.Halt.TheVariants as halts
use Rattle.main_control.specs.Endings.{ending_at, ending_of, ending_shipped, halt_shipped}
use Rattle.main_control.specs.Bodies.{Body}
use Rattle.main_control.specs.Commands.{command_of}
use Rattle.main_control.specs.Worlds.{Scene, world, stopped, Step, Quiet, with_text, calm, text_of, scene_of, boxes_of}
use Rattle.main_control.specs.Lists.{is_in_hbox, cut_by}
use Rattle.main_control.specs.Turn.{is_idle, ended, acted, commanded, on_next, turn_of}
use Rattle.main_control.specs.Standing.{EndsSo, GoesTo, Steps, Stands, IsApart, entries_after}
use Rattle.main_control.proofs.Growth.{begins_same, begins_then, calm_grows, next_grows}

-- A step that ships nothing is refused.
pub calm_ends : (stands : List Asked → Type 0) (boxes : List Asked) (place : Place) (fault : TurnFault) (quiet : Quiet) → AgreesFault (read_cause fault) (at_place place fault) quiet → stands boxes
    → EndsSo stands boxes (ending_at place fault) (calm boxes quiet)
calm_ends stands boxes place (faults.Kind kind) quiet agrees kept = rw agrees (refl, kept)
calm_ends stands boxes place faults.Budget quiet agrees kept = rw agrees (refl, kept)
calm_ends stands boxes place faults.ReadFault quiet agrees kept = record { boxes = boxes; taken = kept; begun = begins_same boxes; meant = calm_grows boxes quiet }
calm_ends stands boxes place faults.SinkFault quiet agrees kept = record { boxes = boxes; taken = kept; begun = begins_same boxes; meant = calm_grows boxes quiet }
calm_ends stands boxes place faults.NoMemory quiet agrees kept = record { boxes = boxes; taken = kept; begun = begins_same boxes; meant = calm_grows boxes quiet }

-- ---- faults

-- No fault of the gullet is the shipper's.
pub gullet_unshipped : (e : GulletFault) → IsUncounted (sink_cause (of_gullet e))
gullet_unshipped gullet_faults.Undefined = tt
gullet_unshipped gullet_faults.UseMismatch = tt
gullet_unshipped gullet_faults.ArgParagraph = tt
gullet_unshipped gullet_faults.FileEnded = tt
gullet_unshipped gullet_faults.BadParameter = tt
gullet_unshipped gullet_faults.ExtraCond = tt
gullet_unshipped gullet_faults.CsnameEnd = tt
gullet_unshipped gullet_faults.NoBrace = tt
gullet_unshipped gullet_faults.NoName = tt
gullet_unshipped gullet_faults.FileMissing = tt
gullet_unshipped gullet_faults.InputsFull = tt
gullet_unshipped gullet_faults.TokensFull = tt
gullet_unshipped gullet_faults.NoEnd = tt
gullet_unshipped gullet_faults.DepthFull = tt
gullet_unshipped gullet_faults.Budget = tt
gullet_unshipped gullet_faults.BadChar = tt
gullet_unshipped gullet_faults.NamesFull = tt
gullet_unshipped gullet_faults.TooManyLines = tt
gullet_unshipped gullet_faults.LineTooLong = tt
gullet_unshipped (gullet_faults.BadByte place) = tt
gullet_unshipped gullet_faults.NoNumber = tt
gullet_unshipped gullet_faults.NumberRange = tt
gullet_unshipped gullet_faults.NoUnit = tt
gullet_unshipped gullet_faults.DimenRange = tt
gullet_unshipped gullet_faults.RegisterRange = tt
gullet_unshipped gullet_faults.CodeRange = tt
gullet_unshipped gullet_faults.ReadFault = tt
gullet_unshipped gullet_faults.NoMemory = tt

fault_unshipped : (place : Place) (fault : TurnFault) → IsUncounted (sink_cause fault) → IsUncounted (ending_shipped (ending_at place fault))
fault_unshipped place (faults.Kind kind) is = tt
fault_unshipped place faults.Budget is = tt
fault_unshipped place faults.ReadFault is = tt
fault_unshipped place faults.SinkFault is = is
fault_unshipped place faults.NoMemory is = tt

pub start_unshipped : (place : Place) (e : GulletFault) → IsUncounted (ending_shipped (ending_at place (of_gullet e)))
start_unshipped place e = fault_unshipped place (of_gullet e) (gullet_unshipped e)

-- What isn't counted leaves the count.
same_count : (cause : Cause) (n : ℕ) → IsUncounted cause → CountsFault cause n n
same_count Determined n quiet = refl
same_count Counted n quiet = absurd quiet
same_count Free n quiet = refl

pub halt_counts : {X : Type 0} (r : Result X Halt) (fault : TurnFault) (n : ℕ) → IsErr r × IsErrAnd r (λ halt. halt ≡ halts.Refused fault) → IsUncounted (sink_cause fault) → Counts halt_shipped r n n
halt_counts (Ok x) fault n made quiet = let never : ⊥ = cc in absurd never
halt_counts (Err halt) fault n made quiet = rw made.1 (same_count (sink_cause fault) n quiet)

pub ending_counts : (ending : Ending) (n : ℕ) → IsUncounted (ending_shipped ending) → CountsFault (ending_shipped ending) n n
ending_counts ending n quiet = same_count (ending_shipped ending) n quiet

-- No token is taken.
pub next_ends : (stands : List Asked → Type 0) (boxes : List Asked) (place : Place) (fault : TurnFault) (s : Scene) (r : Outcome (Token × Text)) → AgreesFault (read_cause fault) (at_place place fault) r → stands boxes
    → EndsSo stands boxes (ending_at place fault) (on_next s boxes r)
next_ends stands boxes place (faults.Kind kind) s r agrees kept = rw agrees (refl, kept)
next_ends stands boxes place faults.Budget s r agrees kept = rw agrees (refl, kept)
next_ends stands boxes place faults.ReadFault s r agrees kept = record { boxes = boxes; taken = kept; begun = begins_same boxes; meant = next_grows s boxes r }
next_ends stands boxes place faults.SinkFault s r agrees kept = record { boxes = boxes; taken = kept; begun = begins_same boxes; meant = next_grows s boxes r }
next_ends stands boxes place faults.NoMemory s r agrees kept = record { boxes = boxes; taken = kept; begun = begins_same boxes; meant = next_grows s boxes r }

pub turn_next : (s : Scene) (boxes : List Asked) (token : Token) (w : Text) → next_token s.text ≡ Ok (token, w) → turn_of (world s boxes) ≡ commanded (command_of (meant w.nest token)) (with_text s w) boxes
unfolding turn_of
turn_next s boxes token w is = rw is refl

-- the scene with what was read anew
pub text_scene : (old new : Body) (before after : FilesState) (entries : List (List Entry)) → IsApart old new → with_text (scene_of old before entries) (text_of new after) ≡ scene_of new after entries
text_scene old new before after entries apart = rw (apart.fonts, apart.lists) refl

pub ok_same : {X E : Type 0} (x y : X) → ◌≡◌ {A = Result X E} (Ok x) (Ok y) → x ≡ y
ok_same x y same = cc

-- A turn is the command of its token, after the cut.
pub turn_acts : (old new cut : Body) (before after : FilesState) (entries cut_entries : List (List Entry)) (boxes : List Asked) (token : Token) (command : Command)
    → next_token (scene_of old before entries).text ≡ Ok (token, text_of new after) → IsApart old new → command ≡ command_of (meant new.nest token) → cut_by command (scene_of new after entries) ≡ scene_of cut after cut_entries
    → turn_of (world (scene_of old before entries) boxes) ≡ acted command (scene_of cut after cut_entries) boxes
turn_acts old new cut before after entries cut_entries boxes token command is apart does cuts =
    turn_next (scene_of old before entries) boxes token (text_of new after) is
    ∙ ap (λ (c : Command). commanded c (with_text (scene_of old before entries) (text_of new after)) boxes) (sym does)
    ∙ ap (λ (s : Scene). commanded command s boxes) (text_scene old new before after entries apart)
    ∙ ap (λ (s : Scene). acted command s boxes) cuts

-- ---- steps that go on

pub calm_goes : (stands : List Asked → Type 0) (b : Body) (state : FilesState) (boxes : List Asked) (quiet : Quiet) → Stands b state quiet → stands boxes → GoesTo stands b state (calm boxes quiet)
calm_goes stands b state boxes (Ok s) now kept = (ap (λ (q : Quiet). calm boxes q) now.0, (now.1, kept))
calm_goes stands b state boxes (Err stop) now kept = let never : ⊥ = cc in absurd never

-- ---- steps that began with fewer boxes

pub ends_before : (stands : List Asked → Type 0) (before more : List Asked) (e : Ending) (given : Step) → BeginsWith more before → EndsSo stands more e given → EndsSo stands before e given
ends_before stands before more endings.Ended given grown ends = ends
ends_before stands before more (endings.Fault fault) given grown ends = ends
ends_before stands before more (endings.Budget place) given grown ends = ends
ends_before stands before more endings.ReadFault given grown ends = record { boxes = ends.boxes; taken = ends.taken; begun = begins_then before more ends.boxes grown ends.begun; meant = ends.meant }
ends_before stands before more endings.SinkFault given grown ends = record { boxes = ends.boxes; taken = ends.taken; begun = begins_then before more ends.boxes grown ends.begun; meant = ends.meant }
ends_before stands before more endings.NoMemory given grown ends = record { boxes = ends.boxes; taken = ends.taken; begun = begins_then before more ends.boxes grown ends.begun; meant = ends.meant }

pub steps_before : {X : Type 0} (stands : List Asked → Type 0) (b : Body) (state : FilesState) (before more : List Asked) (r : Result X Halt) (given : Step) → BeginsWith more before → Steps stands b state more r given → Steps stands b state before r given
steps_before stands b state before more (Ok x) given grown steps = steps
steps_before stands b state before more (Err halt) given grown steps = ends_before stands before more (ending_of (place_in b.gullet) halt) given grown steps

-- A refusal agrees with itself.
pub agrees_itself : (cause : Cause) (stop : Stop TurnFault) (quiet : Quiet) → quiet ≡ Err stop → AgreesFault cause stop quiet
agrees_itself Determined stop quiet is = is
agrees_itself Counted stop quiet is = tt
agrees_itself Free stop quiet is = tt

-- ---- \end

pub ended_in_box : (s : Scene) (boxes : List Asked) → true ≡ is_in_hbox s → ended s boxes ≡ calm boxes (Err (refused kinds.NotInMode s.text))
unfolding ended
ended_in_box s boxes is = rw (← is) refl

pub ended_idle : (s : Scene) (boxes : List Asked) → false ≡ is_in_hbox s → true ≡ is_idle s.text.nest → ended s boxes ≡ Err (stopped endings.Ended boxes)
unfolding ended
ended_idle s boxes not idle = rw (← not, ← idle) refl

pub ended_busy : (s : Scene) (boxes : List Asked) → false ≡ is_in_hbox s → false ≡ is_idle s.text.nest → ended s boxes ≡ calm boxes (Err (refused kinds.NotBuilt s.text))
unfolding ended
ended_busy s boxes not busy = rw (← not, ← busy) refl

-- ---- faults that `?` hands on

pub quiet_refused : {X : Type 0} (stands : List Asked → Type 0) (b : Body) (state : FilesState) (boxes : List Asked) (fault : TurnFault) (quiet : Quiet) (given : Step) (r : Result X Halt) → IsErr r × IsErrAnd r (λ halt. halt ≡ halts.Refused fault)
    → AgreesFault (read_cause fault) (at_place (place_in b.gullet) fault) quiet → given ≡ calm boxes quiet → stands boxes → Steps stands b state boxes r given
quiet_refused stands b state boxes fault quiet given (Ok x) made agrees same kept = let never : ⊥ = cc in absurd never
quiet_refused stands b state boxes fault quiet given (Err halt) made agrees same kept = rw (made.1, same) (calm_ends stands boxes (place_in b.gullet) fault quiet agrees kept)

pub turn_refused : {X : Type 0} (stands : List Asked → Type 0) (b : Body) (state : FilesState) (boxes : List Asked) (fault : TurnFault) (s : Scene) (r : Result X Halt) → IsErr r × IsErrAnd r (λ halt. halt ≡ halts.Refused fault)
    → AgreesFault (read_cause fault) (at_place (place_in b.gullet) fault) (next_token s.text) → stands boxes → Steps stands b state boxes r (turn_of (world s boxes))
unfolding turn_of
turn_refused stands b state boxes fault s (Ok x) made agrees kept = let never : ⊥ = cc in absurd never
turn_refused stands b state boxes fault s (Err halt) made agrees kept = rw made.1 (next_ends stands boxes (place_in b.gullet) fault s (next_token s.text) agrees kept)
