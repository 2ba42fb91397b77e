-- The metric that a TFM spells, or its first fault, and what a metric says of its characters (TeX: The Program, part 30).
use Rattle.std.specs.Prelude.{ℕ, ◌+◌, ◌-◌, ◌/◌, ℤ, Bool, false, List, [], ◌∷◌, length, map, Option, Some, None, Result, Err, nat_lt, nat_le, ◌&&◌, if◌then◌else◌}
use Rattle.ts_geometry.specs.declared.fault.BadKind.{BadKind}
use Rattle.ts_geometry.specs.declared.fault.BadKind.TheVariants.{Truncated}
use Rattle.ts_geometry.specs.declared.fault.MetricFault.{MetricFault}
use Rattle.ts_geometry.specs.declared.fault.MetricFault.TheVariants.{Bad}
use Rattle.ts_geometry.specs.declared.measure.Measures.{Measures}
use Rattle.ts_base.specs.Agreement.{◌>>=◌}
use Rattle.metric_words.specs.declared.lengths.Lengths.{Lengths}
use Rattle.metric_words.specs.declared.program.Command.{Command}
use Rattle.metric_words.specs.Words.{word, words}
use Rattle.metric_words.specs.Checking.{checked, good, joined}
use Rattle.metric_words.specs.Lengths.{lengths_at, lengths_within, header_start, kern_start, param_start}
use Rattle.metric_words.specs.FixWords.{fix_of, fix_kind, param_kinds, param_in, design_kind, design_word}
use Rattle.metric_words.specs.Characters.{Character, characters_of, character_kinds, character_at, measures_at}
use Rattle.metric_words.specs.Programs.{command_of, command_kinds}
use Rattle.tfm_load.specs.declared.programs.Step.{Step}
use Rattle.tfm_load.specs.Programs.{program_kind, program_words, step_after}

-- A metric: its check sum, its design size in scaled points, the code of its first character, what each character from this one on
-- has, its programs with their kerns, and its parameters. Kerns and parameters are fix words.
pub record Metric : Type 0 where
  pub check_sum : ℕ
  pub design : ℕ
  pub first : ℕ
  pub characters : List Character
  pub commands : List Command
  pub kerns : List ℤ
  pub params : List ℤ

-- the 12 halfwords with which a TFM begins
unfoldable pub lengths_of : List ℕ → Lengths
lengths_of file = lengths_at file 6 0 0

-- the lengths, or what is wrong with them or with the length of the file
unfoldable pub lengths_in : List ℕ → Result Lengths MetricFault
lengths_in file =
    if nat_lt (length file) 24 then Err (Bad Truncated (length file)) else lengths_within file (lengths_of file) false

abbrev pub kern_words : List ℕ → Lengths → List ℕ
kern_words file l = words file (kern_start l) l.nk

abbrev pub param_words : List ℕ → Lengths → List ℕ
param_words file l = words file (param_start l) l.np

-- What is wrong with each word, in the order of the file. The recipes of extensible characters, which stand before the parameters,
-- can't be bad.
unfoldable pub kinds_of : List ℕ → Lengths → List (Option BadKind)
kinds_of file l = joined (
    good (header_start l + 1)
    ∷ (design_kind (design_word file l) ∷ [])
    ∷ good (l.lh - 2)
    ∷ character_kinds file l
    ∷ command_kinds (program_kind file l) 0 (program_words file l)
    ∷ map fix_kind (kern_words file l)
    ∷ good l.ng
    ∷ param_kinds (param_words file l)
    ∷ []
    )

-- the metric of a file with these lengths
unfoldable pub spelt : List ℕ → Lengths → Metric
spelt file l = record {
  check_sum = word file (header_start l);
  design = design_word file l / 16;
  first = l.bc;
  characters = characters_of file l;
  commands = map command_of (program_words file l);
  kerns = map fix_of (kern_words file l);
  params = map fix_of (param_words file l);
}

-- The metric that a file spells, or its first fault: that of the lengths, or the first bad word in the order of the file.
unfoldable pub metric_of : List ℕ → Result Metric MetricFault
metric_of file = lengths_in file >>= λ l. checked 0 (kinds_of file l) (spelt file l)

-- the character of a code that has one
abbrev pub character_of : Metric → ℕ → Character
character_of m code = character_at m.characters (code - m.first)

-- Has the font a character of this code?
abbrev pub has_character : Metric → ℕ → Bool
has_character m code =
    let c = character_of m code in nat_le m.first code && nat_lt (code - m.first) (length m.characters) && c.is_there

-- the measures of a character at a size of so many scaled points, where the font has it
abbrev pub measures_of : Metric → ℕ → ℕ → Option Measures
measures_of m code z = if has_character m code then Some (measures_at (character_of m code) z) else None

-- where the program of a character starts, if the font has the character and this has a program
abbrev pub program_of : Metric → ℕ → Option ℕ
program_of m code = let c = character_of m code in if has_character m code then c.program else None

-- what stands between two characters, or takes their place
abbrev pub pair_of : Metric → ℕ → ℕ → Step
pair_of m left right = step_after m.commands m.kerns (program_of m left) right

-- a parameter, counted from 1: 0 where there is none
abbrev pub param_of : Metric → ℕ → ℤ
param_of m n = param_in m.params n
