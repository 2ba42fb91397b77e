-- What a call answers beside the pages or the fonts of a file: its first fault, or want of memory.
use Rattle.std.specs.Prelude.{ℕ, Result, Ok, Err}
use Rattle.ts_base.specs.Agreement.{Cause, Determined, Free}
use Rattle.dvi_commands.specs.declared.fault.DviKind.{DviKind}
use Rattle.dvi_commands.specs.declared.fault.DviBad.{DviBad}
use Rattle.dvi_structure.specs.declared.fault.DviFault.{DviFault}
use Rattle.dvi_structure.specs.declared.fault.DviFault.TheVariants as faults
use Rattle.dvi_structure.specs.declared.refusal.Refusal.{Refusal}
use Rattle.dvi_structure.specs.declared.refusal.Refusal.TheVariants as refusals

abbrev pub dvi_cause : DviFault → Cause
dvi_cause (faults.Bad bad) = Determined
dvi_cause faults.NoMemory = Free

-- a fault of the file as what a call answers
abbrev pub faulted : {A : Type 0} → Result A DviBad → Result A DviFault
faulted (Ok x) = Ok x
faulted (Err bad) = Err (faults.Bad bad)

abbrev pub refusal_cause : Refusal → Cause
refusal_cause (refusals.Kind kind) = Determined
refusal_cause refusals.NoMemory = Free

-- a fault of a command as what a step answers
abbrev pub refused : {A : Type 0} → Result A DviKind → Result A Refusal
refused (Ok x) = Ok x
refused (Err kind) = Err (refusals.Kind kind)

abbrev pub refused_at : ℕ → Refusal → DviFault
refused_at at (refusals.Kind kind) = faults.Bad (record { at = at; kind = kind })
refused_at at refusals.NoMemory = faults.NoMemory
