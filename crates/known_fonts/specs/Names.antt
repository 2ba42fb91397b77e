-- The name of a font, as it is spelt, and that of the file of its metric (The TeXbook, chapter 4).
use Rattle.std.specs.Prelude.{◌≡◌, ℕ, List, IsTrue, if◌then◌else◌, Result, Ok, Err}
use Rattle.ts_outside.specs.Names.{is_file_name}
use Rattle.ts_outside.specs.Endings.{with_ending, metric_ending}
use Rattle.control_faults.specs.declared.kind.FaultKind.{FaultKind}
use Rattle.control_faults.specs.declared.kind.FaultKind.TheVariants.{NoName}

-- Both are names of files, the second one with the ending of metrics where the first has none.
pub record IsMetricName (spelt file : List ℕ) : Type 0 where
  pub spelt_well : IsTrue (is_file_name spelt)
  pub is : file ≡ with_ending metric_ending spelt
  pub file_well : IsTrue (is_file_name file)

-- the name, where also the one with the ending of a metric file is one
abbrev pub metric_name : List ℕ → Result (List ℕ) FaultKind
metric_name name = if is_file_name (with_ending metric_ending name) then Ok name else Err NoName
