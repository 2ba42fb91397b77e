-- What is answered where a call of a layer below is, and what is made of it.
use Rattle.std.proofs.Common.{◌≡◌, ℕ, List, Result, Ok, Err, refl}
use Rattle.std.specs.Result.{IsErr, IsErrAnd}
use mathlib.Core.Bool.{false≢true}
use Rattle.ts_base.specs.Agreement.{Cause, Determined, Counted, Free, ◌>>=◌, with_fault, AgreesFault, Agrees, CountsFault, Counts, IsUncounted, Uncounted}
use Rattle.ts_base.proofs.Composing.{fault_agrees}
use Rattle.ts_outside.specs.States.{FilesState, KeepsAll}
use Rattle.env_groups.specs.declared.fault.EnvFault.{EnvFault}
use Rattle.env_groups.specs.declared.fault.EnvFault.TheVariants as env_faults
use Rattle.env_groups.specs.Environments.{Nest, env_cause}
use Rattle.mouth.specs.Reading.{Reading, at_place, stop_cause, place_of}
use Rattle.mouth.specs.Keeping.{MouthView, reading, AreOpen, AgreesAt}
use Rattle.font_store.specs.declared.fonts.Font.{Font}
use Rattle.expander.specs.Worlds.{World, world}
use Rattle.control_faults.specs.declared.kind.FaultKind.{FaultKind}
use Rattle.control_faults.specs.declared.turn_fault.TurnFault.{TurnFault}
use Rattle.control_faults.specs.declared.turn_fault.TurnFault.TheVariants as faults
use Rattle.control_faults.specs.TurnFaults.{read_cause, sink_cause, of_env}
use Rattle.assignments.specs.Worlds.{Outcome, world_of, stopped, refused, checked, in_env}
use Rattle.font_commands.proofs.Standing.{reading_kept}

-- ---- what is checked

checked_by : {X Y : Type 0} (view : X → Y) (r : Reading) (nest : Nest) (result : Result X TurnFault) (given : Result Y FaultKind) → Agrees view read_cause result (with_fault faults.Kind given)
    → Agrees {Y = Y × World} (λ x. (view x, world r nest)) (stop_cause read_cause) (with_fault (at_place (place_of r)) result) (with_fault (λ kind. refused kind (world r nest)) given >>= λ y. Ok (y, world r nest))
checked_by view r nest (Ok x) (Ok y) agrees = let same : y ≡ view x = cc in rw same refl
checked_by view r nest (Ok x) (Err e) agrees = cc
checked_by view r nest (Err (faults.Kind kind)) (Ok y) agrees = cc
checked_by view r nest (Err (faults.Kind kind)) (Err e) agrees = let same : e ≡ kind = cc in rw same refl
checked_by view r nest (Err faults.Budget) (Ok y) agrees = cc
checked_by view r nest (Err faults.Budget) (Err e) agrees = cc
checked_by view r nest (Err faults.ReadFault) given agrees = tt
checked_by view r nest (Err faults.SinkFault) (Ok y) agrees = cc
checked_by view r nest (Err faults.SinkFault) (Err e) agrees = cc
checked_by view r nest (Err faults.NoMemory) given agrees = tt

-- What is checked of something that was read, with nothing further read.
pub checked_agrees : {X Y Z : Type 0} (view : X → Y) (test : Z → Result Y FaultKind) (r : Reading) (nest : Nest) (z : Z) (result : Result X TurnFault) → Agrees view read_cause result (with_fault faults.Kind (test z))
    → Agrees {Y = Y × World} (λ x. (view x, world r nest)) (stop_cause read_cause) (with_fault (at_place (place_of r)) result) (checked test (z, world r nest))
checked_agrees view test r nest z result agrees = checked_by view r nest result (test z) agrees

-- ---- what counts nothing

none_counted : (cause : Cause) (n : ℕ) → IsUncounted cause → CountsFault cause n n
none_counted Determined n quiet = refl
none_counted Counted n quiet = absurd quiet
none_counted Free n quiet = refl

pub counts_none : {X : Type 0} (result : Result X TurnFault) (old new : ℕ) → new ≡ old → Uncounted read_cause result → Counts read_cause result old new
counts_none (Ok x) old new same quiet = same
counts_none (Err e) old new same quiet = rw same (none_counted (read_cause e) old quiet)

-- ---- the environment

pub env_comes_so : (e : EnvFault) → read_cause (of_env e) ≡ env_cause e
env_comes_so env_faults.RegisterRange = refl
env_comes_so env_faults.CodeRange = refl
env_comes_so env_faults.FontsFull = refl
env_comes_so env_faults.GroupsFull = refl
env_comes_so env_faults.GroupEnd = refl
env_comes_so env_faults.NoMemory = refl

abbrev pub settled : {Y : Type 0} → Y → Result Y EnvFault
settled y = Ok y

env_refuses_by : {X Y : Type 0} (view : X → Y) (result : Result X TurnFault) (e : EnvFault) (given : Result Y EnvFault)
    → IsErr result × IsErrAnd result (λ d. d ≡ of_env e) → AgreesFault (env_cause e) e given → Agrees view read_cause result (with_fault of_env given)
env_refuses_by view (Ok x) e given exit agrees = absurd (false≢true exit.0)
env_refuses_by view (Err d) e given exit agrees = rw (exit.1, env_comes_so e) (fault_agrees (env_cause e) of_env e given agrees)

pub env_refuses : {X Y : Type 0} (view : X → Y) (result : Result X TurnFault) (e : EnvFault) (y : Y)
    → IsErr result × IsErrAnd result (λ d. d ≡ of_env e) → AgreesFault (env_cause e) e (settled y) → Agrees view read_cause result (Ok y)
env_refuses view result e y exit agrees = env_refuses_by view result e (Ok y) exit agrees

env_uncounted : (e : EnvFault) → IsUncounted (read_cause (of_env e)) × IsUncounted (sink_cause (of_env e))
env_uncounted env_faults.RegisterRange = (tt, tt)
env_uncounted env_faults.CodeRange = (tt, tt)
env_uncounted env_faults.FontsFull = (tt, tt)
env_uncounted env_faults.GroupsFull = (tt, tt)
env_uncounted env_faults.GroupEnd = (tt, tt)
env_uncounted env_faults.NoMemory = (tt, tt)

pub env_quiet : {X : Type 0} (result : Result X TurnFault) (e : EnvFault) → IsErr result × IsErrAnd result (λ d. d ≡ of_env e) → Uncounted read_cause result
env_quiet (Ok x) e exit = absurd (false≢true exit.0)
env_quiet (Err d) e exit = rw exit.1 (env_uncounted e).0

pub env_unshipped : {X : Type 0} (result : Result X TurnFault) (e : EnvFault) → IsErr result × IsErrAnd result (λ d. d ≡ of_env e) → Uncounted sink_cause result
env_unshipped (Ok x) e exit = absurd (false≢true exit.0)
env_unshipped (Err d) e exit = rw exit.1 (env_uncounted e).1

in_env_agrees : (cause : Cause) (r : Reading) (nest : Nest) (e : TurnFault) (given : Result Nest TurnFault) → AgreesFault cause e given → AgreesFault cause (at_place (place_of r) e) (in_env (world r nest) given)
in_env_agrees Determined r nest e given agrees = rw agrees refl
in_env_agrees Counted r nest e given agrees = tt
in_env_agrees Free r nest e given agrees = tt

-- What is made of the environment after all was read.
pub env_agrees : {X : Type 0} (r : Reading) (nest new : Nest) (result : Result X TurnFault) (given : Result Nest TurnFault) → Agrees (λ _. new) read_cause result given
    → Agrees (λ _. world r new) (stop_cause read_cause) (with_fault (at_place (place_of r)) result) (in_env (world r nest) given)
env_agrees r nest new (Ok x) given agrees = rw agrees refl
env_agrees r nest new (Err e) given agrees = in_env_agrees (read_cause e) r nest e given agrees

-- ---- fonts that are named

abbrev pub Made : Type 0
Made = List Font × Nest

abbrev pub made_in : World → Result Made TurnFault → Outcome (List Font × World)
made_in w call = with_fault (stopped w) call >>= λ p. Ok (p.0, world w.at p.1)

made_refused : (cause : Cause) (r : Reading) (nest : Nest) (e : TurnFault) (given : Result Made TurnFault) → AgreesFault cause e given → AgreesFault cause (at_place (place_of r) e) (made_in (world r nest) given)
made_refused Determined r nest e given agrees = rw agrees refl
made_refused Counted r nest e given agrees = tt
made_refused Free r nest e given agrees = tt

made_agrees : {X : Type 0} (r : Reading) (nest new : Nest) (fonts : List Font) (result : Result X TurnFault) (given : Result Made TurnFault) → Agrees (λ _. (fonts, new)) read_cause result given
    → Agrees (λ _. (fonts, world r new)) (stop_cause read_cause) (with_fault (at_place (place_of r)) result) (made_in (world r nest) given)
made_agrees r nest new fonts (Ok x) given agrees = rw agrees refl
made_agrees r nest new fonts (Err e) given agrees = made_refused (read_cause e) r nest e given agrees

-- The files are kept, and so is what is read.
pub named_agrees : {X : Type 0} (mouth : MouthView) (before after : FilesState) (nest new : Nest) (fonts : List Font) (result : Result X TurnFault) (given : Result Made TurnFault)
    → AreOpen mouth before → KeepsAll before after → Agrees (λ _. (fonts, new)) read_cause result given
    → AgreesAt (λ _. (fonts, world_of mouth after new)) read_cause mouth result (made_in (world_of mouth before nest) given)
named_agrees mouth before after nest new fonts result given open_files keeps agrees =
    rw (reading_kept mouth before after open_files keeps) (made_agrees (reading mouth before) nest new fonts result given agrees)
