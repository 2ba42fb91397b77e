-- The character types of a JFM: the codes that it lists, with their classes (the JFM specification).
use Rattle.std.specs.Prelude.{ℕ, Bool, List, [], ◌∷◌, map, Option, Some, None, is_some, Result, ◌==◌, nat_lt, nat_le, ◌&&◌, if◌then◌else◌}
use Rattle.ts_geometry.specs.declared.fault.BadKind.{BadKind}
use Rattle.ts_geometry.specs.declared.fault.BadKind.TheVariants.{CharType as WrongType}
use Rattle.ts_geometry.specs.declared.fault.MetricFault.{MetricFault}
use Rattle.jis_codes.specs.Spellings.{jis}
use Rattle.jis_codes.specs.Numbers.{cell_of}
use Rattle.metric_words.specs.declared.lengths.Lengths.{Lengths}
use Rattle.metric_words.specs.Words.{words, third_byte, fourth_byte, first_half}
use Rattle.metric_words.specs.Checking.{checked}
use Rattle.metric_words.specs.Lengths.{char_type_start}
use Rattle.jfm_load.specs.declared.tables.CharType.{CharType}

-- the code of a cell of JIS X 0208
unfoldable pub is_jis : ℕ → Bool
is_jis code = is_some (cell_of jis code)

-- A character type is a code, a byte 0 and the code's class. The first says that other codes have class 0.
unfoldable pub char_type_of : ℕ → CharType
char_type_of w = record { code = first_half w; class = fourth_byte w }

unfoldable pub first_type_kind : ℕ → Option BadKind
first_type_kind w = if w == 0 then None else Some WrongType

-- each other one, where the code before it and the last class are these
unfoldable pub type_kind : ℕ → ℕ → ℕ → Option BadKind
type_kind before ec w =
    if third_byte w == 0 && nat_le (fourth_byte w) ec && nat_lt before (first_half w) && is_jis (first_half w) then None else Some WrongType

abbrev pub later_type_kinds : ℕ → ℕ → List ℕ → List (Option BadKind)
later_type_kinds before ec [] = []
later_type_kinds before ec (w ∷ ws) = type_kind before ec w ∷ later_type_kinds (char_type_of w).code ec ws

abbrev pub type_kinds : ℕ → List ℕ → List (Option BadKind)
type_kinds ec [] = []
type_kinds ec (w ∷ ws) = first_type_kind w ∷ later_type_kinds 0 ec ws

abbrev pub type_words : List ℕ → Lengths → List ℕ
type_words file l = words file (char_type_start l) l.nt

abbrev pub char_types_in : List ℕ → Lengths → Result (List CharType) MetricFault
char_types_in file l = checked (char_type_start l) (type_kinds l.ec (type_words file l)) (map char_type_of (type_words file l))

-- the class of a code: 0 where it isn't listed
abbrev pub class_in : List CharType → ℕ → ℕ
class_in [] code = 0
class_in (t ∷ ts) code = if t.code == code then t.class else class_in ts code
