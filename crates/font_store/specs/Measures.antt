-- The measures that metrics give codes, and what is true of metrics that are as files have them.
use Rattle.std.specs.Prelude.{◌≡◌, ℕ, List, All, Option, Some, None, if◌then◌else◌, Ok}
use Rattle.ts_geometry.specs.declared.measure.Measures.{Measures}
use Rattle.ts_outside.specs.States.{Held}
use Rattle.jis_codes.specs.Kuten.{Kuten, IsKuten}
use Rattle.jis_codes.specs.Spellings.{jis}
use Rattle.jis_codes.specs.Numbers.{number_of}
use Rattle.jfm_load.specs.CharTypes.{class_in, is_jis}
use Rattle.tfm_load.specs.Metrics as tfm
use Rattle.tfm_load.specs.Sound.{HasItsLigatures}
use Rattle.jfm_load.specs.Metrics as jfm
use Rattle.font_store.specs.declared.metric.Metric.{Metric}
use Rattle.font_store.specs.declared.metric.Metric.TheVariants.{Roman, Japanese}
use Rattle.font_store.specs.declared.fonts.Font.{Font}
use Rattle.font_store.specs.Metrics.{metric_of}
use Rattle.font_store.specs.Widths.{metric_named}

-- the measures of a code at a size, where the font has the code: of a Japanese font a number of JIS, by its class
abbrev pub measures_by : Metric → ℕ → ℕ → Option Measures
measures_by (Roman m) size code = tfm.measures_of m code size
measures_by (Japanese m) size code = if is_jis code then Some (jfm.measures_of m (class_in m.char_types code) size) else None

-- A metric is whole where each ligature that its programs put is a character of the font.
abbrev pub IsWhole : Metric → Type 0
IsWhole (Roman m) = HasItsLigatures m
IsWhole (Japanese m) = Unit {0}

-- The metric of each font is.
unfoldable pub AreWhole : List Font → Type 0
AreWhole fonts = All (λ font. IsWhole font.metric) fonts

-- a metric that a file spells is whole, and so is that of a name, by the files that are held
abbrev pub SpeltAreWhole : Type 0
SpeltAreWhole = (bytes : List ℕ) (metric : Metric) → metric_of bytes ≡ Ok metric → IsWhole metric

abbrev pub NamedAreWhole : Type 0
NamedAreWhole = (held : List Held) (name : List ℕ) (metric : Metric) → metric_named held name ≡ Ok metric → IsWhole metric

-- fonts are whole where the metric of each is that of its name
abbrev pub FontsAreWhole : Type 0
FontsAreWhole = (held : List Held) (fonts : List Font)
    → All (λ font. metric_named held font.name ≡ Ok font.metric) fonts → AreWhole fonts

-- a cell has the measures of its class
abbrev pub CellsHaveTheirMeasures : Type 0
CellsHaveTheirMeasures = (m : jfm.Metric) (size : ℕ) (cell : Kuten) → IsKuten cell
    → measures_by (Japanese m) size (number_of jis cell) ≡ Some (jfm.measures_of m (jfm.class_of m cell) size)
