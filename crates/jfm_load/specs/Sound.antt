-- What is true of a metric that has no fault.
use Rattle.std.specs.Prelude.{◌≡◌, ℕ, ◌≤◌, ℤ, Bool, true, List, [], ◌∷◌, length, nat_lt, ◌&&◌, IsTrue}
use Rattle.std.specs.List.{list_all}
use Rattle.metric_words.specs.declared.lengths.Lengths.{Lengths}
use Rattle.metric_words.specs.Characters.{Character}
use Rattle.metric_words.specs.Sound.{IsDesign, is_fix, has_fix_measures}
use Rattle.jfm_load.specs.declared.tables.CharType.{CharType}
use Rattle.jfm_load.specs.declared.programs.Space.{Space}
use Rattle.jfm_load.specs.declared.programs.Space.TheVariants.{Nothing, Glue, Kern}
use Rattle.jfm_load.specs.Metrics.{Metric}

-- The first class is 0, and there is a character type.
pub record HasClasses (l : Lengths) : Type 0 where
  pub first_class : l.bc ≡ 0
  pub types : 1 ≤ l.nt

-- The codes rise, all above that one.
abbrev pub rise_from : ℕ → List CharType → Bool
rise_from before [] = true
rise_from before (t ∷ ts) = nat_lt before t.code && rise_from t.code ts

abbrev pub rise : List CharType → Bool
rise [] = true
rise (t ∷ ts) = rise_from t.code ts

-- The class is one of so many.
abbrev pub has_class : ℕ → CharType → Bool
has_class n t = nat_lt t.class n

-- The codes rise, and the class of each is one of the font; the words of the tables are within 16 of 0.
pub record AreClasses (design : ℕ) (types : List CharType) (classes : List Character) (kerns glues : List ℤ) : Type 0 where
  pub is_design : IsDesign design
  pub rising : IsTrue (rise types)
  pub with_class : IsTrue (list_all (has_class (length classes)) types)
  pub some_class : 1 ≤ length classes
  pub few_classes : length classes ≤ 256
  pub fix_classes : IsTrue (list_all has_fix_measures classes)
  pub fix_kerns : IsTrue (list_all is_fix kerns)
  pub fix_glues : IsTrue (list_all is_fix glues)

-- The measures, the kerns and the glue of a metric are fix words within 16 of 0.
pub record HasFixWords (m : Metric) : Type 0 where
  pub classes : IsTrue (list_all has_fix_measures m.classes)
  pub kerns : IsTrue (list_all is_fix m.kerns)
  pub glues : IsTrue (list_all is_fix m.glues)

-- glue or a kern within 16 of 0, or neither
abbrev pub is_fix_space : Space → Bool
is_fix_space Nothing = true
is_fix_space (Glue width stretch shrink) = is_fix width && (is_fix stretch && is_fix shrink)
is_fix_space (Kern width) = is_fix width
