-- The first bytes of a file that is held.
use Rattle.std.specs.Prelude.{ℕ, List, take, Result, Ok, Err, Option, Some, None}
use Rattle.ts_base.specs.Agreement.{Cause, Determined, Counted, Free}
use Rattle.ts_outside.specs.States.{Held}
use Rattle.ts_outside.specs.Reading.{bytes_of}
use Rattle.ts_job.specs.declared.fault.FaultKind.TheVariants.{FileMissing}
use Rattle.ts_job.specs.declared.stop.Stop.{Stop}
use Rattle.ts_job.specs.declared.stop.Stop.TheVariants as stops
use Rattle.ts_job.specs.declared.load.LoadFault.{LoadFault}
use Rattle.ts_job.specs.declared.load.LoadFault.TheVariants as faults

abbrev pub load_cause : LoadFault → Cause
load_cause faults.Missing = Determined
load_cause faults.ReadFault = Counted
load_cause faults.NoMemory = Free

abbrev pub first_of : ℕ → Option (List ℕ) → Result (List ℕ) LoadFault
first_of most None = Err faults.Missing
first_of most (Some bytes) = Ok (take most bytes)

-- a missing file of a font is the fault of line 1
abbrev pub load_fault : LoadFault → Stop
load_fault faults.Missing = stops.Fault FileMissing 1
load_fault faults.ReadFault = stops.ReadFault
load_fault faults.NoMemory = stops.NoMemory

-- at most so many bytes of the file of a name
abbrev pub loaded : List Held → List ℕ → ℕ → Result (List ℕ) LoadFault
loaded files name most = first_of most (bytes_of files name)
