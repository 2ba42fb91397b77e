-- Why the gullet refuses.
use Rattle.std.specs.Prelude.{◌≡◌, ◌⊎◌}
use Rattle.ts_base.specs.Agreement.{Cause, Determined, Counted, Free}
use Rattle.mouth.specs.declared.fault.MouthFault.{MouthFault}
use Rattle.mouth.specs.declared.fault.MouthFault.TheVariants as mouth_faults
use Rattle.mouth.specs.Reading.{Stop, at_place}
use Rattle.raw_texts.specs.declared.fault.MacroFault.{MacroFault}
use Rattle.raw_texts.specs.declared.fault.MacroFault.TheVariants as macro_faults
use Rattle.scan_numbers.specs.declared.fault.ScanKind.{ScanKind}
use Rattle.scan_numbers.specs.declared.fault.ScanKind.TheVariants as kinds
use Rattle.expander.specs.declared.fault.StepFault.{StepFault}
use Rattle.expander.specs.declared.fault.StepFault.TheVariants as step_faults
use Rattle.expander.specs.declared.gullet_fault.GulletFault.{GulletFault}
use Rattle.expander.specs.declared.gullet_fault.GulletFault.TheVariants as faults

-- what is determined: everything but a failed read and want of memory
abbrev pub gullet_cause : GulletFault → Cause
gullet_cause faults.ReadFault = Counted
gullet_cause faults.NoMemory = Free
gullet_cause _ = Determined

abbrev pub of_mouth_fault : MouthFault → GulletFault
of_mouth_fault mouth_faults.FileEnded = faults.FileEnded
of_mouth_fault mouth_faults.FileMissing = faults.FileMissing
of_mouth_fault mouth_faults.InputsFull = faults.InputsFull
of_mouth_fault mouth_faults.TokensFull = faults.TokensFull
of_mouth_fault mouth_faults.NoEnd = faults.NoEnd
of_mouth_fault mouth_faults.DepthFull = faults.DepthFull
of_mouth_fault mouth_faults.Budget = faults.Budget
of_mouth_fault mouth_faults.BadChar = faults.BadChar
of_mouth_fault mouth_faults.NamesFull = faults.NamesFull
of_mouth_fault mouth_faults.TooManyLines = faults.TooManyLines
of_mouth_fault mouth_faults.LineTooLong = faults.LineTooLong
of_mouth_fault (mouth_faults.BadByte place) = faults.BadByte place
of_mouth_fault mouth_faults.ReadFault = faults.ReadFault
of_mouth_fault mouth_faults.NoMemory = faults.NoMemory

abbrev pub of_macro_fault : MacroFault → GulletFault
of_macro_fault (macro_faults.Mouth fault) = of_mouth_fault fault
of_macro_fault macro_faults.UseMismatch = faults.UseMismatch
of_macro_fault macro_faults.ArgParagraph = faults.ArgParagraph
of_macro_fault macro_faults.BadParameter = faults.BadParameter
of_macro_fault macro_faults.NoBrace = faults.NoBrace
of_macro_fault macro_faults.NoName = faults.NoName
of_macro_fault macro_faults.ExtraCond = faults.ExtraCond

abbrev pub of_scan_kind : ScanKind → GulletFault
of_scan_kind kinds.NoNumber = faults.NoNumber
of_scan_kind kinds.NumberRange = faults.NumberRange
of_scan_kind kinds.NoUnit = faults.NoUnit
of_scan_kind kinds.DimenRange = faults.DimenRange
of_scan_kind kinds.NoName = faults.NoName
of_scan_kind kinds.RegisterRange = faults.RegisterRange
of_scan_kind kinds.CodeRange = faults.CodeRange

abbrev pub of_step_fault : StepFault → GulletFault
of_step_fault (step_faults.Text fault) = of_macro_fault fault
of_step_fault step_faults.Undefined = faults.Undefined
of_step_fault step_faults.CsnameEnd = faults.CsnameEnd
of_step_fault (step_faults.Scan kind) = of_scan_kind kind

-- the same at its place
abbrev pub stop_as : {E : Type 0} → (E → GulletFault) → Stop E → Stop GulletFault
stop_as becomes stop = at_place stop.place (becomes stop.fault)

-- what a start refuses with
abbrev pub IsStartFault : GulletFault → Type 0
IsStartFault fault = (fault ≡ faults.FileMissing) ⊎ (fault ≡ faults.ReadFault) ⊎ (fault ≡ faults.NoMemory)
