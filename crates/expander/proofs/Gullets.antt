-- What the gullet answers, where its fault is that of a step.
use Rattle.std.proofs.Common.{◌≡◌, ℕ, Result, Ok, Err, refl}
use Rattle.std.specs.Result.{IsErr, IsErrAnd}
use mathlib.Core.Bool.{false≢true}
use Rattle.ts_base.specs.Agreement.{Cause, Determined, with_fault, AgreesFault, Agrees, CountsFault, Counts, IsUncounted, Uncounted}
use Rattle.ts_base.proofs.Composing.{fault_agrees}
use Rattle.mouth.specs.declared.fault.MouthFault.{MouthFault}
use Rattle.mouth.specs.declared.fault.MouthFault.TheVariants as mouth_faults
use Rattle.mouth.specs.declared.place.Place.{Place}
use Rattle.mouth.specs.Reading.{Stop, at_place, stop_cause, mouth_cause}
use Rattle.raw_texts.specs.declared.fault.MacroFault.{MacroFault}
use Rattle.raw_texts.specs.declared.fault.MacroFault.TheVariants as macro_faults
use Rattle.raw_texts.specs.Faults.{macro_cause}
use Rattle.scan_numbers.specs.declared.fault.ScanKind.{ScanKind}
use Rattle.scan_numbers.specs.declared.fault.ScanKind.TheVariants as kinds
use Rattle.expander.specs.declared.fault.StepFault.{StepFault}
use Rattle.expander.specs.declared.fault.StepFault.TheVariants as step_faults
use Rattle.expander.specs.declared.gullet_fault.GulletFault.{GulletFault}
use Rattle.expander.specs.Faults.{step_cause}
use Rattle.expander.specs.GulletFaults.{gullet_cause, of_mouth_fault, of_macro_fault, of_scan_kind, of_step_fault, stop_as}

pub mouth_same : (e : MouthFault) → gullet_cause (of_mouth_fault e) ≡ mouth_cause e
mouth_same mouth_faults.FileEnded = refl
mouth_same mouth_faults.FileMissing = refl
mouth_same mouth_faults.InputsFull = refl
mouth_same mouth_faults.TokensFull = refl
mouth_same mouth_faults.NoEnd = refl
mouth_same mouth_faults.DepthFull = refl
mouth_same mouth_faults.Budget = refl
mouth_same mouth_faults.BadChar = refl
mouth_same mouth_faults.NamesFull = refl
mouth_same mouth_faults.TooManyLines = refl
mouth_same mouth_faults.LineTooLong = refl
mouth_same (mouth_faults.BadByte place) = refl
mouth_same mouth_faults.ReadFault = refl
mouth_same mouth_faults.NoMemory = refl

macro_same : (e : MacroFault) → gullet_cause (of_macro_fault e) ≡ macro_cause e
macro_same (macro_faults.Mouth fault) = mouth_same fault
macro_same macro_faults.UseMismatch = refl
macro_same macro_faults.ArgParagraph = refl
macro_same macro_faults.BadParameter = refl
macro_same macro_faults.NoBrace = refl
macro_same macro_faults.NoName = refl
macro_same macro_faults.ExtraCond = refl

scan_same : (kind : ScanKind) → gullet_cause (of_scan_kind kind) ≡ Determined
scan_same kinds.NoNumber = refl
scan_same kinds.NumberRange = refl
scan_same kinds.NoUnit = refl
scan_same kinds.DimenRange = refl
scan_same kinds.NoName = refl
scan_same kinds.RegisterRange = refl
scan_same kinds.CodeRange = refl

pub step_same : (e : StepFault) → gullet_cause (of_step_fault e) ≡ step_cause e
step_same (step_faults.Text fault) = macro_same fault
step_same step_faults.Undefined = refl
step_same step_faults.CsnameEnd = refl
step_same (step_faults.Scan kind) = scan_same kind

module _ {E : Type 0} (becomes : E → GulletFault) (cause : E → Cause) (same : (e : E) → gullet_cause (becomes e) ≡ cause e) where
  pub refuses_as : {X Y : Type 0} (view : X → Y) (place : Place) (result : Result X GulletFault) (e : E) (given : Result Y (Stop E))
      → IsErr result × IsErrAnd result (λ d. d ≡ becomes e) → AgreesFault (cause e) (at_place place e) given
      → Agrees view (stop_cause gullet_cause) (with_fault (at_place place) result) (with_fault (stop_as becomes) given)
  refuses_as view place (Ok x) e given exit agrees = absurd (false≢true exit.0)
  refuses_as view place (Err d) e given exit agrees = rw (exit.1, same e) (fault_agrees (cause e) (stop_as becomes) (at_place place e) given agrees)

  pub counts_as : {X : Type 0} (result : Result X GulletFault) (e : E) (old new : ℕ) → IsErr result × IsErrAnd result (λ d. d ≡ becomes e) → CountsFault (cause e) old new → Counts gullet_cause result old new
  counts_as (Ok x) e old new exit counts = absurd (false≢true exit.0)
  counts_as (Err d) e old new exit counts = rw (exit.1, same e) counts

  pub quiet_as : {X : Type 0} (result : Result X GulletFault) (e : E) → IsErr result × IsErrAnd result (λ d. d ≡ becomes e) → IsUncounted (cause e) → Uncounted gullet_cause result
  quiet_as (Ok x) e exit quiet = absurd (false≢true exit.0)
  quiet_as (Err d) e exit quiet = rw (exit.1, same e) quiet
