-- The metric that a JFM spells, or its first fault, and what a metric says of its characters (the JFM specification).
use Rattle.std.specs.Prelude.{ℕ, ◌+◌, ◌-◌, ◌/◌, ◌%◌, ℤ, Bool, List, [], ◌∷◌, length, map, Option, Result, Err, ◌==◌, nat_lt, ◌||◌, not, if◌then◌else◌}
use Rattle.ts_geometry.specs.declared.fault.BadKind.{BadKind}
use Rattle.ts_geometry.specs.declared.fault.BadKind.TheVariants.{Truncated}
use Rattle.ts_geometry.specs.declared.fault.MetricFault.{MetricFault}
use Rattle.ts_geometry.specs.declared.fault.MetricFault.TheVariants.{Bad}
use Rattle.ts_geometry.specs.declared.measure.Measures.{Measures}
use Rattle.jis_codes.specs.Kuten.{Kuten}
use Rattle.jis_codes.specs.Spellings.{jis}
use Rattle.jis_codes.specs.Numbers.{number_of}
use Rattle.ts_base.specs.Agreement.{◌>>=◌}
use Rattle.metric_words.specs.declared.lengths.Lengths.{Lengths}
use Rattle.metric_words.specs.declared.program.Command.{Command}
use Rattle.metric_words.specs.Words.{halfword, word, words}
use Rattle.metric_words.specs.Checking.{checked, good, joined}
use Rattle.metric_words.specs.Lengths.{lengths_at, lengths_within, header_start, kern_start, glue_start, param_start}
use Rattle.metric_words.specs.FixWords.{fix_of, fix_kind, param_kinds, param_in, design_kind, design_word}
use Rattle.metric_words.specs.Characters.{Character, characters_of, character_kinds, character_at, measures_at}
use Rattle.metric_words.specs.Programs.{command_of, command_kinds}
use Rattle.jfm_load.specs.declared.programs.Space.{Space}
use Rattle.jfm_load.specs.declared.tables.CharType.{CharType}
use Rattle.jfm_load.specs.CharTypes.{char_type_of, type_kinds, type_words, class_in}
use Rattle.jfm_load.specs.Programs.{program_kind, program_words, space_after}

-- A metric: its direction, its check sum, its design size in scaled points, the classes of the codes that it lists, what each class
-- has, its programs with their kerns and glue, and its parameters. Kerns, glue and parameters are fix words.
pub record Metric : Type 0 where
  pub is_tate : Bool
  pub check_sum : ℕ
  pub design : ℕ
  pub char_types : List CharType
  pub classes : List Character
  pub commands : List Command
  pub kerns : List ℤ
  pub glues : List ℤ
  pub params : List ℤ

-- the 14 halfwords with which a JFM begins
unfoldable pub lengths_of : List ℕ → Lengths
lengths_of file = lengths_at file 7 (halfword file 1) 2

-- What else is wrong with lengths: a first class other than 0, no character type, glue that isn't in threes.
unfoldable pub is_odd : Lengths → Bool
is_odd l = not (l.bc == 0) || l.nt == 0 || not (l.ng % 3 == 0)

-- the lengths, or what is wrong with them or with the length of the file
unfoldable pub lengths_in : List ℕ → Result Lengths MetricFault
lengths_in file =
    if nat_lt (length file) 28 then Err (Bad Truncated (length file))
    else lengths_within file (lengths_of file) (is_odd (lengths_of file))

abbrev pub kern_words : List ℕ → Lengths → List ℕ
kern_words file l = words file (kern_start l) l.nk

abbrev pub glue_words : List ℕ → Lengths → List ℕ
glue_words file l = words file (glue_start l) l.ng

abbrev pub param_words : List ℕ → Lengths → List ℕ
param_words file l = words file (param_start l) l.np

-- what is wrong with each word, in the order of the file
unfoldable pub kinds_of : List ℕ → Lengths → List (Option BadKind)
kinds_of file l = joined (
    good (header_start l + 1)
    ∷ (design_kind (design_word file l) ∷ [])
    ∷ good (l.lh - 2)
    ∷ type_kinds l.ec (type_words file l)
    ∷ character_kinds file l
    ∷ command_kinds (program_kind l) 0 (program_words file l)
    ∷ map fix_kind (kern_words file l)
    ∷ map fix_kind (glue_words file l)
    ∷ param_kinds (param_words file l)
    ∷ []
    )

-- the metric of a file with these lengths
unfoldable pub spelt : List ℕ → Lengths → Metric
spelt file l = record {
  is_tate = halfword file 0 == 9;
  check_sum = word file (header_start l);
  design = design_word file l / 16;
  char_types = map char_type_of (type_words file l);
  classes = characters_of file l;
  commands = map command_of (program_words file l);
  kerns = map fix_of (kern_words file l);
  glues = map fix_of (glue_words file l);
  params = map fix_of (param_words file l);
}

-- The metric that a file spells, or its first fault: that of the lengths, or the first bad word in the order of the file.
unfoldable pub metric_of : List ℕ → Result Metric MetricFault
metric_of file = lengths_in file >>= λ l. checked 0 (kinds_of file l) (spelt file l)

-- the class of a cell
abbrev pub class_of : Metric → Kuten → ℕ
class_of m cell = class_in m.char_types (number_of jis cell)

-- the measures of a class at a size of so many scaled points
abbrev pub measures_of : Metric → ℕ → ℕ → Measures
measures_of m class z = measures_at (character_at m.classes class) z

-- the space between a class and the next one: nothing where the first is no class of the font
abbrev pub between_of : Metric → ℕ → ℕ → Space
between_of m left right = space_after m.commands m.kerns m.glues (character_at m.classes left).program right

-- a parameter, counted from 1: 0 where there is none
abbrev pub param_of : Metric → ℕ → ℤ
param_of m n = param_in m.params n
