-- What the exits of `?` answer, where the fault is the mouth's.
use Rattle.std.proofs.Common.{◌≡◌, Result, Ok, Err, IfOk, subst, sym, refl}
use Rattle.std.specs.Result.{IsErr, IsErrAnd}
use mathlib.Core.Bool.{false≢true}
use Rattle.ts_base.specs.Agreement.{◌>>=◌, with_fault, AgreesFault, Agrees}
use Rattle.ts_base.proofs.Composing.{fault_agrees, first_refuses, same_agrees}
use Rattle.mouth.specs.declared.fault.MouthFault.{MouthFault}
use Rattle.mouth.specs.declared.place.Place.{Place}
use Rattle.mouth.specs.Reading.{Reading, Stop, at_place, stop_cause, mouth_cause}
use Rattle.env_groups.specs.Environments.{Nest}
use Rattle.raw_texts.specs.declared.fault.MacroFault.TheVariants.{Mouth}
use Rattle.expander.specs.declared.fault.StepFault.{StepFault}
use Rattle.expander.specs.declared.fault.StepFault.TheVariants.{Text}
use Rattle.expander.specs.Faults.{step_cause, of_mouth}
use Rattle.expander.specs.Worlds.{world, Outcome}

-- A step of the mouth refuses.
pub mouth_refuses : {X Y : Type 0} (view : X → Y) (place : Place) (result : Result X StepFault) (e : MouthFault) (given : Result Y (Stop MouthFault))
    → IsErr result × IsErrAnd result (λ d. d ≡ Text (Mouth e)) → AgreesFault (mouth_cause e) (at_place place e) given
    → Agrees view (stop_cause step_cause) (with_fault (at_place place) result) (with_fault of_mouth given)
mouth_refuses view place (Ok x) e given exit agrees = absurd (false≢true exit.0)
mouth_refuses view place (Err d) e given exit agrees = rw exit.1 (fault_agrees (mouth_cause e) of_mouth (at_place place e) given agrees)

-- A step of the mouth refuses before others.
pub mouth_refuses_first : {X Y Z : Type 0} (view : X → Y) (place : Place) (result : Result X StepFault) (e : MouthFault) (given : Result Z (Stop MouthFault)) (more : Z → Result Y (Stop StepFault))
    → IsErr result × IsErrAnd result (λ d. d ≡ Text (Mouth e)) → AgreesFault (mouth_cause e) (at_place place e) given
    → Agrees view (stop_cause step_cause) (with_fault (at_place place) result) (with_fault of_mouth given >>= more)
mouth_refuses_first view place (Ok x) e given more exit agrees = absurd (false≢true exit.0)
mouth_refuses_first view place (Err d) e given more exit agrees =
    rw exit.1 (first_refuses (mouth_cause e) (of_mouth (at_place place e)) (with_fault of_mouth given) more (fault_agrees (mouth_cause e) of_mouth (at_place place e) given agrees))

-- What is given has what this has.
pub given_has : {A E : Type 0} (P : A → Type 0) (result : Result A E) (x : A) → P x → IfOk result (λ a. a ≡ x) → IfOk result P
given_has P (Ok a) x has same = subst P (sym same) has
given_has P (Err e) x has same = tt

-- A fault of a step by another name of what is given.
pub step_refuses : {X Y : Type 0} (view : X → Y) (place : Place) (result : Result X StepFault) (e : StepFault) (a b : Result Y (Stop StepFault)) → IsErr result × IsErrAnd result (λ d. d ≡ e) → a ≡ b
    → AgreesFault (step_cause e) (at_place place e) b → Agrees view (stop_cause step_cause) (with_fault (at_place place) result) a
step_refuses view place (Ok x) e a b exit same agrees = absurd (false≢true exit.0)
step_refuses view place (Err d) e a b exit same agrees = rw exit.1 (same_agrees (step_cause e) (at_place place e) a b same agrees)

-- An answer that leaves the environment alone, in a world.
pub world_agrees : (result : Result (Unit {0}) StepFault) (place : Place) (r : Reading) (nest : Nest) (given : Outcome Reading) → Agrees (λ _. r) (stop_cause step_cause) (with_fault (at_place place) result) given
    → Agrees (λ _. world r nest) (stop_cause step_cause) (with_fault (at_place place) result) (given >>= λ at. Ok (world at nest))
world_agrees (Ok x) place r nest given agrees = rw agrees refl
world_agrees (Err e) place r nest given agrees = first_refuses (step_cause e) (at_place place e) given (λ at. Ok (world at nest)) agrees
