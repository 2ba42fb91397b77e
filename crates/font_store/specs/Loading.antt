-- The metric of a file that is held.
use Rattle.std.specs.Prelude.{ℕ, List, Result, Err, Option, Some, None}
use Rattle.ts_base.specs.Agreement.{Cause, Determined, Counted, Free, with_fault}
use Rattle.ts_geometry.specs.declared.fault.MetricFault.{MetricFault}
use Rattle.ts_geometry.specs.declared.fault.MetricFault.TheVariants as lower
use Rattle.ts_outside.specs.States.{Held}
use Rattle.ts_outside.specs.Reading.{bytes_of}
use Rattle.font_store.specs.declared.metric.Metric.{Metric}
use Rattle.font_store.specs.declared.loading.LoadFault.{LoadFault}
use Rattle.font_store.specs.declared.loading.LoadFault.TheVariants as faults
use Rattle.font_store.specs.Metrics.{metric_of}

abbrev pub load_cause : LoadFault → Cause
load_cause faults.Missing = Determined
load_cause (faults.Bad kind at) = Determined
load_cause faults.ReadFault = Counted
load_cause faults.NoMemory = Free

-- the fault of a metric as one of loading it
abbrev pub load_fault : MetricFault → LoadFault
load_fault (lower.Bad kind at) = faults.Bad kind at
load_fault lower.NoMemory = faults.NoMemory

abbrev pub loaded_from : Option (List ℕ) → Result Metric LoadFault
loaded_from None = Err faults.Missing
loaded_from (Some bytes) = with_fault load_fault (metric_of bytes)

-- the metric of the file of a name, or why there is none
abbrev pub loaded : List Held → List ℕ → Result Metric LoadFault
loaded files name = loaded_from (bytes_of files name)
