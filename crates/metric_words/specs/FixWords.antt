-- Fix words, signed numbers with 20 binary places within 16 of 0, and the tables of them (TeX: The Program, sections 541 to 547).
use Rattle.std.specs.Prelude.{ℕ, ◌+◌, ◌-◌, ◌/◌, ℤ, pos, List, [], ◌∷◌, map, Option, Some, None, Result, slice_index_or, ◌==◌, nat_lt, nat_le, ◌||◌, if◌then◌else◌}
use Rattle.std.specs.Int.{cast_signed, w32}
use Rattle.ts_geometry.specs.declared.fault.BadKind.{BadKind}
use Rattle.ts_geometry.specs.declared.fault.BadKind.TheVariants.{FixWord}
use Rattle.ts_geometry.specs.declared.fault.MetricFault.{MetricFault}
use Rattle.metric_words.specs.declared.lengths.Lengths.{Lengths}
use Rattle.metric_words.specs.Words.{word, words, first_byte}
use Rattle.metric_words.specs.Checking.{checked}
use Rattle.metric_words.specs.Lengths.{header_start}

abbrev pub fix_of : ℕ → ℤ
fix_of w = cast_signed w32 w

unfoldable pub fix_kind : ℕ → Option BadKind
fix_kind w = if first_byte w == 0 || first_byte w == 255 then None else Some FixWord

unfoldable pub zero_kind : ℕ → Option BadKind
zero_kind w = if w == 0 then None else Some FixWord

-- kerns and glue
abbrev pub fix_words_in : List ℕ → ℕ → ℕ → Result (List ℤ) MetricFault
fix_words_in file from n = let ws = words file from n in checked from (map fix_kind ws) (map fix_of ws)

-- a table of fix words of which the first is 0: widths, heights, depths, italic corrections
abbrev pub table_kinds : List ℕ → List (Option BadKind)
table_kinds [] = []
table_kinds (w ∷ ws) = zero_kind w ∷ map fix_kind ws

abbrev pub table_in : List ℕ → ℕ → ℕ → Result (List ℤ) MetricFault
table_in file from n = let ws = words file from n in checked from (table_kinds ws) (map fix_of ws)

-- the parameters, of which the first, the slant, may be any number
abbrev pub param_kinds : List ℕ → List (Option BadKind)
param_kinds [] = []
param_kinds (w ∷ ws) = None ∷ map fix_kind ws

abbrev pub params_in : List ℕ → ℕ → ℕ → Result (List ℤ) MetricFault
params_in file from n = let ws = words file from n in checked from (param_kinds ws) (map fix_of ws)

-- a parameter, counted from 1: 0 where there is none
abbrev pub param_in : List ℤ → ℕ → ℤ
param_in params n = if n == 0 then pos 0 else slice_index_or params (n - 1) (pos 0)

-- The design size, the second word of the header: at least 2 ^ 20 as a signed number. It is counted in points with 20 binary
-- places, and a scaled point has 16.
unfoldable pub design_kind : ℕ → Option BadKind
design_kind w = if nat_lt w 1048576 || nat_le 2147483648 w then Some FixWord else None

abbrev pub design_word : List ℕ → Lengths → ℕ
design_word file l = word file (header_start l + 1)

abbrev pub design_in : List ℕ → Lengths → Result ℕ MetricFault
design_in file l = checked (header_start l + 1) (design_kind (design_word file l) ∷ []) (design_word file l / 16)
