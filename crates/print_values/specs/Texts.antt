-- The text of numbers, dimensions and glue, byte by byte (TeX: The Program, sections 65, 69, 103
-- and 178).
use Rattle.std.specs.Prelude.{ℕ, zero, suc, ◌+◌, ◌-◌, ◌*◌, ◌/◌, ◌%◌, List, [], ◌∷◌, ◌++◌, nat_le, nat_lt, nat_eq, if◌then◌else◌, ℤ, pos, int_lt, unsigned_abs, codes, decimal}
use Rattle.std.proofs.Common.{replicate}
use Rattle.std.specs.Ordering.{int_eq}
use Rattle.ts_geometry.specs.declared.glue.Glue.{Glue}
use Rattle.ts_geometry.specs.declared.glue.Order.{Order}
use Rattle.ts_geometry.specs.declared.glue.Order.TheVariants.{Normal, Fil, Fill, Filll}

-- ---- roman numerals

-- a decimal digit by the letters of 1, 5 and 10 in its place
abbrev pub roman_digit : ℕ → ℕ → ℕ → ℕ → List ℕ
roman_digit one five ten digit =
    if nat_le digit 3 then replicate digit one
    else (if nat_eq digit 4 then one ∷ five ∷ []
    else (if nat_le digit 8 then five ∷ replicate (digit - 5) one else one ∷ ten ∷ []))

-- 109 is m, 100 d, 99 c, 108 l, 120 x, 118 v and 105 i
abbrev pub roman : ℕ → List ℕ
roman n =
    replicate (n / 1000) 109
    ++ (roman_digit 99 100 109 (n / 100 % 10)
    ++ (roman_digit 120 108 99 (n / 10 % 10) ++ roman_digit 105 118 120 (n % 10)))

-- ---- dimensions

-- Each digit is that of what is left, in units of 1/65536 of it. The scale says how near the
-- digits must come; the last of five digits is rounded.
abbrev pub nearest : ℕ → ℕ → ℕ
nearest rest scale = if nat_lt 65536 scale then rest + 32768 - 50000 else rest

abbrev pub or_stop : ℕ → ℕ → List ℕ → List ℕ
or_stop rest scale later = if nat_le rest scale then [] else later

abbrev pub next_rest : ℕ → ℕ → ℕ
next_rest rest scale = 10 * (nearest rest scale % 65536)

-- at most so many digits
unfoldable pub fraction_digits : ℕ → ℕ → ℕ → List ℕ
fraction_digits zero rest scale = []
fraction_digits (suc n) rest scale =
    (48 + nearest rest scale / 65536)
    ∷ or_stop (next_rest rest scale) (10 * scale)
    (fraction_digits n (next_rest rest scale) (10 * scale))

-- the digits of a fraction of so many scaled points
abbrev pub fraction : ℕ → List ℕ
fraction part = fraction_digits 5 (10 * part + 5) 10

-- 45 is the minus sign
abbrev pub sign : ℤ → List ℕ
sign z = if int_lt z (pos 0) then 45 ∷ [] else []

-- points with their fraction; 46 is the point
abbrev pub points : ℤ → List ℕ
points z = sign z ++ (decimal (unsigned_abs z / 65536) ++ (46 ∷ fraction (unsigned_abs z % 65536)))

abbrev pub dimension : ℤ → List ℕ
dimension z = points z ++ codes "pt"

-- ---- glue

abbrev pub unit : Order → List ℕ
unit Normal = codes "pt"
unit Fil = codes "fil"
unit Fill = codes "fill"
unit Filll = codes "filll"

-- the stretch or the shrink, unless it is 0
abbrev pub flexible : List ℕ → ℤ → Order → List ℕ
flexible word z order = if int_eq z (pos 0) then [] else word ++ (points z ++ unit order)

abbrev pub glue : Glue → List ℕ
glue g =
    dimension g.width.0
    ++ (flexible (codes " plus ") g.stretch.0 g.stretch_order
    ++ flexible (codes " minus ") g.shrink.0 g.shrink_order)
