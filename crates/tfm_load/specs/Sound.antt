-- What is true of a metric that has no fault.
use Rattle.std.specs.Prelude.{◌≡◌, ℕ, ℤ, Bool, true, List, IsTrue}
use Rattle.std.specs.List.{list_all}
use Rattle.metric_words.specs.Characters.{Character}
use Rattle.metric_words.specs.Sound.{IsDesign, is_fix, has_fix_measures}
use Rattle.tfm_load.specs.declared.programs.Step.{Step}
use Rattle.tfm_load.specs.declared.programs.Step.TheVariants.{Nothing, Kern, Ligature}
use Rattle.tfm_load.specs.Metrics.{Metric, has_character, pair_of}

-- The measures and the kerns of a metric are fix words within 16 of 0.
pub record HasFixWords (m : Metric) : Type 0 where
  pub characters : IsTrue (list_all has_fix_measures m.characters)
  pub kerns : IsTrue (list_all is_fix m.kerns)

-- a kern within 16 of 0, or none
abbrev pub is_fix_step : Step → Bool
is_fix_step Nothing = true
is_fix_step (Kern width) = is_fix width
is_fix_step (Ligature code) = true

-- The design size and the tables are those of a file without a fault.
pub record AreTables (design : ℕ) (characters : List Character) (kerns : List ℤ) : Type 0 where
  pub is_design : IsDesign design
  pub fix_characters : IsTrue (list_all has_fix_measures characters)
  pub fix_kerns : IsTrue (list_all is_fix kerns)

-- Each ligature that a program puts is a character of the font.
pub record HasItsLigatures (m : Metric) : Type 0 where
  pub there : (left right code : ℕ) → pair_of m left right ≡ Ligature code → has_character m code ≡ true
