-- What is answered where a call of a layer below refuses.
use Rattle.std.proofs.Common.{◌≡◌, ℕ, Result, Ok, Err, refl}
use Rattle.std.specs.Result.{IsErr, IsErrAnd}
use mathlib.Core.Bool.{false≢true}
use Rattle.ts_base.specs.Agreement.{Cause, Determined, Counted, Free, ◌>>=◌, with_fault, AgreesFault, Agrees, CountsFault, Counts, IsUncounted, Uncounted}
use Rattle.ts_base.proofs.Composing.{fault_agrees, first_refuses, same_agrees}
use Rattle.env_groups.specs.declared.fault.EnvFault.{EnvFault}
use Rattle.env_groups.specs.declared.fault.EnvFault.TheVariants as env_faults
use Rattle.env_groups.specs.Environments.{Nest, env_cause}
use Rattle.mouth.specs.declared.place.Place.{Place}
use Rattle.mouth.specs.Reading.{Reading, Stop, at_place, stop_cause, place_of}
use Rattle.expander.specs.declared.gullet_fault.GulletFault.{GulletFault}
use Rattle.expander.specs.declared.gullet_fault.GulletFault.TheVariants as gullet_faults
use Rattle.expander.specs.GulletFaults.{gullet_cause}
use Rattle.expander.specs.Worlds.{World, world}
use Rattle.control_faults.specs.declared.turn_fault.TurnFault.{TurnFault}
use Rattle.control_faults.specs.TurnFaults.{read_cause, sink_cause, of_gullet, of_env, turn_stop}
use Rattle.control_faults.proofs.Causes.{gullet_comes_so, env_comes_so}
use Rattle.assignments.specs.Worlds.{Outcome, in_env}

-- ---- the gullet

pub gullet_refuses : {X Y : Type 0} (view : X → Y) (place : Place) (result : Result X TurnFault) (e : GulletFault) (given : Result Y (Stop GulletFault))
    → IsErr result × IsErrAnd result (λ d. d ≡ of_gullet e) → AgreesFault (gullet_cause e) (at_place place e) given
    → Agrees view (stop_cause read_cause) (with_fault (at_place place) result) (with_fault (turn_stop of_gullet) given)
gullet_refuses view place (Ok x) e given exit agrees = absurd (false≢true exit.0)
gullet_refuses view place (Err d) e given exit agrees = rw (exit.1, gullet_comes_so e) (fault_agrees (gullet_cause e) (turn_stop of_gullet) (at_place place e) given agrees)

pub gullet_refuses_first : {X Y Z : Type 0} (view : X → Y) (place : Place) (result : Result X TurnFault) (e : GulletFault) (given : Result Z (Stop GulletFault)) (more : Z → Outcome Y)
    → IsErr result × IsErrAnd result (λ d. d ≡ of_gullet e) → AgreesFault (gullet_cause e) (at_place place e) given
    → Agrees view (stop_cause read_cause) (with_fault (at_place place) result) (with_fault (turn_stop of_gullet) given >>= more)
gullet_refuses_first view place (Ok x) e given more exit agrees = absurd (false≢true exit.0)
gullet_refuses_first view place (Err d) e given more exit agrees =
    rw (exit.1, gullet_comes_so e) (first_refuses (gullet_cause e) (turn_stop of_gullet (at_place place e)) (with_fault (turn_stop of_gullet) given) more
    (fault_agrees (gullet_cause e) (turn_stop of_gullet) (at_place place e) given agrees))

pub gullet_counts : {X : Type 0} (result : Result X TurnFault) (e : GulletFault) (old new : ℕ) → IsErr result × IsErrAnd result (λ d. d ≡ of_gullet e) → CountsFault (gullet_cause e) old new → Counts read_cause result old new
gullet_counts (Ok x) e old new exit counts = absurd (false≢true exit.0)
gullet_counts (Err d) e old new exit counts = rw (exit.1, gullet_comes_so e) counts

pub gullet_quiet : {X : Type 0} (result : Result X TurnFault) (e : GulletFault) → IsErr result × IsErrAnd result (λ d. d ≡ of_gullet e) → IsUncounted (gullet_cause e) → Uncounted read_cause result
gullet_quiet (Ok x) e exit quiet = absurd (false≢true exit.0)
gullet_quiet (Err d) e exit quiet = rw (exit.1, gullet_comes_so e) quiet

-- ---- the environment

abbrev pub settled : {Y : Type 0} → Y → Result Y EnvFault
settled y = Ok y

pub env_refuses : {X Y : Type 0} (view : X → Y) (result : Result X TurnFault) (e : EnvFault) (given : Result Y EnvFault)
    → IsErr result × IsErrAnd result (λ d. d ≡ of_env e) → AgreesFault (env_cause e) e given → Agrees view read_cause result (with_fault of_env given)
env_refuses view (Ok x) e given exit agrees = absurd (false≢true exit.0)
env_refuses view (Err d) e given exit agrees = rw (exit.1, env_comes_so e) (fault_agrees (env_cause e) of_env e given agrees)

in_env_agrees : (cause : Cause) (r : Reading) (nest : Nest) (e : TurnFault) (given : Result Nest TurnFault) → AgreesFault cause e given → AgreesFault cause (at_place (place_of r) e) (in_env (world r nest) given)
in_env_agrees Determined r nest e given agrees = rw agrees refl
in_env_agrees Counted r nest e given agrees = tt
in_env_agrees Free r nest e given agrees = tt

env_uncounted : (e : EnvFault) → IsUncounted (read_cause (of_env e))
env_uncounted env_faults.RegisterRange = tt
env_uncounted env_faults.CodeRange = tt
env_uncounted env_faults.FontsFull = tt
env_uncounted env_faults.GroupsFull = tt
env_uncounted env_faults.GroupEnd = tt
env_uncounted env_faults.NoMemory = tt

-- The environment counts nothing.
pub env_quiet : {X : Type 0} (result : Result X TurnFault) (e : EnvFault) → IsErr result × IsErrAnd result (λ d. d ≡ of_env e) → Uncounted read_cause result
env_quiet (Ok x) e exit = absurd (false≢true exit.0)
env_quiet (Err d) e exit = rw exit.1 (env_uncounted e)

-- What is made of the environment after all was read.
pub env_agrees : {X : Type 0} (r : Reading) (nest new : Nest) (result : Result X TurnFault) (given : Result Nest TurnFault) → Agrees (λ _. new) read_cause result given
    → Agrees (λ _. world r new) (stop_cause read_cause) (with_fault (at_place (place_of r)) result) (in_env (world r nest) given)
env_agrees r nest new (Ok x) given agrees = rw agrees refl
env_agrees r nest new (Err e) given agrees = in_env_agrees (read_cause e) r nest e given agrees

-- A setting that isn't refused by what is set.
pub set_refuses : {X Y : Type 0} (view : X → Y) (result : Result X TurnFault) (e : EnvFault) (y : Y)
    → IsErr result × IsErrAnd result (λ d. d ≡ of_env e) → AgreesFault (env_cause e) e (settled y) → Agrees view read_cause result (Ok y)
set_refuses view result e y exit agrees = env_refuses view result e (Ok y) exit agrees

-- ---- what is given by another name

pub refuses_as : {X Y : Type 0} (view : X → Y) (place : Place) (result : Result X TurnFault) (e : TurnFault) (a b : Outcome Y) → IsErr result × IsErrAnd result (λ d. d ≡ e) → a ≡ b
    → AgreesFault (read_cause e) (at_place place e) b → Agrees view (stop_cause read_cause) (with_fault (at_place place) result) a
refuses_as view place (Ok x) e a b exit same agrees = absurd (false≢true exit.0)
refuses_as view place (Err d) e a b exit same agrees = rw exit.1 (same_agrees (read_cause e) (at_place place e) a b same agrees)

-- ---- what the shipper counts

-- No fault of the gullet is the shipper's.
pub gullet_unshipped : (e : GulletFault) → IsUncounted (sink_cause (of_gullet e))
gullet_unshipped gullet_faults.Undefined = tt
gullet_unshipped gullet_faults.UseMismatch = tt
gullet_unshipped gullet_faults.ArgParagraph = tt
gullet_unshipped gullet_faults.FileEnded = tt
gullet_unshipped gullet_faults.BadParameter = tt
gullet_unshipped gullet_faults.ExtraCond = tt
gullet_unshipped gullet_faults.CsnameEnd = tt
gullet_unshipped gullet_faults.NoBrace = tt
gullet_unshipped gullet_faults.NoName = tt
gullet_unshipped gullet_faults.FileMissing = tt
gullet_unshipped gullet_faults.InputsFull = tt
gullet_unshipped gullet_faults.TokensFull = tt
gullet_unshipped gullet_faults.NoEnd = tt
gullet_unshipped gullet_faults.DepthFull = tt
gullet_unshipped gullet_faults.Budget = tt
gullet_unshipped gullet_faults.BadChar = tt
gullet_unshipped gullet_faults.NamesFull = tt
gullet_unshipped gullet_faults.TooManyLines = tt
gullet_unshipped gullet_faults.LineTooLong = tt
gullet_unshipped (gullet_faults.BadByte place) = tt
gullet_unshipped gullet_faults.NoNumber = tt
gullet_unshipped gullet_faults.NumberRange = tt
gullet_unshipped gullet_faults.NoUnit = tt
gullet_unshipped gullet_faults.DimenRange = tt
gullet_unshipped gullet_faults.RegisterRange = tt
gullet_unshipped gullet_faults.CodeRange = tt
gullet_unshipped gullet_faults.ReadFault = tt
gullet_unshipped gullet_faults.NoMemory = tt

-- Nor is one of the environment.
pub env_unshipped : (e : EnvFault) → IsUncounted (sink_cause (of_env e))
env_unshipped env_faults.RegisterRange = tt
env_unshipped env_faults.CodeRange = tt
env_unshipped env_faults.FontsFull = tt
env_unshipped env_faults.GroupsFull = tt
env_unshipped env_faults.GroupEnd = tt
env_unshipped env_faults.NoMemory = tt
