-- What is true of fonts at all times, and what it gives.
use Rattle.std.specs.Prelude.{◌≡◌, ◌⊎◌, ℕ, true, List, [], ◌∷◌, ◌++◌, map, All, Option, Some, None, Result, Ok, Err}
use Rattle.ts_geometry.specs.declared.measure.Measures.{Measures}
use Rattle.ts_outside.specs.States.{Held}
use Rattle.dvi_commands.specs.declared.font.FontDef.{FontDef}
use Rattle.dvi_structure.specs.Structure.{is_sound_font}
use Rattle.env_groups.specs.Environments.{Nest}
use Rattle.font_store.specs.declared.fonts.Font.{Font}
use Rattle.font_store.specs.declared.metric.Metric.{Metric}
use Rattle.font_store.specs.declared.loading.LoadFault.{LoadFault}
use Rattle.font_store.specs.Widths.{metric_named}
use Rattle.font_store.specs.Measures.{measures_by}
use Rattle.known_fonts.specs.Metrics.{facts_in}
use Rattle.known_fonts.specs.Tables.{definition, definitions}

-- The same fonts, or this one after them.
abbrev pub GrewBy : List Font → Font → List Font → Type 0
GrewBy old font new = (new ≡ old) ⊎ (new ≡ old ++ font ∷ [])

-- The environment has the facts of each font under its number.
abbrev pub AreNumbered : Nest → List Font → Type 0
AreNumbered nest fonts = nest.fonts ≡ map facts_in fonts

-- The table has the definition of each under its number.
abbrev pub AreDefined : List FontDef → List Font → Type 0
AreDefined table fonts = table ≡ definitions fonts

-- Each can be defined in a DVI file.
unfoldable pub AreDefinable : List Font → Type 0
AreDefinable fonts = All (λ font. is_sound_font (definition 0 font) ≡ true) fonts

-- The metric of each is that of the file of its name.
unfoldable pub AreAsHeld : List Held → List Font → Type 0
AreAsHeld held fonts = All (λ font. metric_named held font.name ≡ Ok font.metric) fonts

-- ---- measures, as the files hold them

abbrev pub measures_in : Result Metric LoadFault → ℕ → ℕ → Option Measures
measures_in (Ok metric) size code = measures_by metric size code
measures_in (Err fault) size code = None

-- the measures of a code of a font, by the metric of its name among the files that are held
abbrev pub measures_held : List Held → List ℕ → ℕ → ℕ → Option Measures
measures_held held name size code = measures_in (metric_named held name) size code
