-- The widths that a DVI file is read with: those of the metrics of its fonts.
use Rattle.std.specs.Prelude.{ℕ, List, Result, Ok, Err, Option, Some, None, if◌then◌else◌}
use Rattle.std.specs.Option.{option_map}
use Rattle.ts_geometry.specs.declared.measure.Sp.{Sp}
use Rattle.ts_outside.specs.States.{Held}
use Rattle.ts_outside.specs.Endings.{with_ending, metric_ending}
use Rattle.jfm_load.specs.CharTypes.{class_in, is_jis}
use Rattle.tfm_load.specs.Metrics as tfm
use Rattle.jfm_load.specs.Metrics as jfm
use Rattle.font_store.specs.declared.metric.Metric.{Metric}
use Rattle.font_store.specs.declared.metric.Metric.TheVariants.{Roman, Japanese}
use Rattle.font_store.specs.declared.loading.LoadFault.{LoadFault}
use Rattle.font_store.specs.Loading.{loaded}

-- the width of a code at a size, where the font has the code: of a Japanese font a number of JIS, by its class
abbrev pub width_by : Metric → ℕ → ℕ → Option Sp
width_by (Roman m) size code = option_map (λ measures. measures.wd) (tfm.measures_of m code size)
width_by (Japanese m) size code = if is_jis code then Some (jfm.measures_of m (class_in m.char_types code) size).wd else None

abbrev pub width_in : Result Metric LoadFault → ℕ → ℕ → Option Sp
width_in (Ok metric) size code = width_by metric size code
width_in (Err fault) size code = None

-- the metric of a font of that name, which gets the ending of metrics where it has none
abbrev pub metric_named : List Held → List ℕ → Result Metric LoadFault
metric_named files name = loaded files (with_ending metric_ending name)

-- the width of a code of a font, by the metric of its name among the files that are held
abbrev pub widths : List Held → List ℕ → ℕ → ℕ → Option Sp
widths files name size code = width_in (metric_named files name) size code
