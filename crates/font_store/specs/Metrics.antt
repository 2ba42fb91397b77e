-- The metric that a file spells: of a Japanese font where it begins as a JFM (the JFM specification), and else of a European one
-- (TeX: The Program, part 30).
use Rattle.std.specs.Prelude.{ℕ, List, Result, Ok, if◌then◌else◌}
use Rattle.ts_base.specs.Agreement.{◌>>=◌}
use Rattle.ts_geometry.specs.declared.fault.MetricFault.{MetricFault}
use Rattle.metric_words.specs.Lengths.{begins_as_jfm}
use Rattle.tfm_load.specs.Metrics as tfm
use Rattle.jfm_load.specs.Metrics as jfm
use Rattle.font_store.specs.declared.metric.Metric.{Metric}
use Rattle.font_store.specs.declared.metric.Metric.TheVariants.{Roman, Japanese}

-- the metric of a file, or its first fault
abbrev pub metric_of : List ℕ → Result Metric MetricFault
metric_of bytes =
    if begins_as_jfm bytes then (jfm.metric_of bytes >>= λ m. Ok (Japanese m)) else (tfm.metric_of bytes >>= λ m. Ok (Roman m))
