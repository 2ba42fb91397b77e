-- The codes of characters: their numbers, their ranges, and what they are at the start (The TeXbook, chapter 7 and appendix B;
-- pTeX).
use Rattle.std.specs.Prelude.{ℕ, ◌+◌, ◌-◌, ◌*◌, ◌≤ℤ◌, ◌==◌, ◌&&◌, ◌||◌, ℤ, pos, negsuc, neg_ℤ, int_le, nat_le, List, [], ◌∷◌, slice_get, Bool, if◌then◌else◌, Option, Some, None}
use Rattle.jis_codes.specs.Kuten.{Kuten}
use Rattle.env_groups.specs.Bounds.{IsPenalty}
use Rattle.jis_codes.specs.declared.Char.{Char}
use Rattle.jis_codes.specs.declared.Char.TheVariants as chars
use Rattle.env_groups.specs.declared.code.Category.{Category}
use Rattle.env_groups.specs.declared.code.Category.TheVariants.{Escape, BeginGroup, EndGroup, MathShift, Alignment, EndOfLine, Parameter, Superscript, Subscript, Ignored, Space, Letter, Other, Active, Comment, Invalid}
use Rattle.env_groups.specs.declared.code.Kind.{Kind}
use Rattle.env_groups.specs.declared.code.Kind.TheVariants.{Kanji, Kana, OtherKchar}
use Rattle.env_groups.specs.declared.code.CodeKey.{CodeKey}
use Rattle.env_groups.specs.declared.code.CodeKey.TheVariants as codes
use Rattle.env_groups.specs.declared.code.CharPenalty.{CharPenalty}
use Rattle.env_groups.specs.declared.code.CharPenalty.TheVariants as penalties

-- a number from the first to the last
abbrev pub is_from : ℕ → ℕ → ℕ → Bool
is_from first last n = nat_le first n && nat_le n last

abbrev pub is_letter : ℕ → Bool
is_letter c = is_from 97 122 c || is_from 65 90 c

abbrev pub is_digit : ℕ → Bool
is_digit c = is_from 48 57 c

-- ---- categories, from 0 to 15

abbrev pub categories : List Category
categories =
    Escape ∷ BeginGroup ∷ EndGroup ∷ MathShift ∷ Alignment ∷ EndOfLine ∷ Parameter ∷ Superscript ∷
    Subscript ∷ Ignored ∷ Space ∷ Letter ∷ Other ∷ Active ∷ Comment ∷ Invalid ∷ []

abbrev pub category_number : Category → ℕ
category_number Escape = 0
category_number BeginGroup = 1
category_number EndGroup = 2
category_number MathShift = 3
category_number Alignment = 4
category_number EndOfLine = 5
category_number Parameter = 6
category_number Superscript = 7
category_number Subscript = 8
category_number Ignored = 9
category_number Space = 10
category_number Letter = 11
category_number Other = 12
category_number Active = 13
category_number Comment = 14
category_number Invalid = 15

-- the category of a number, where there is one
abbrev pub category_of : ℤ → Option Category
category_of (pos n) = slice_get categories n
category_of (negsuc n) = None

-- of \ { } $ & # ^ _ ~ and %, of the codes 13, 0, 32, 9 and 127, of letters and of all others
abbrev pub start_category : ℕ → Category
start_category c =
    if c == 92 then Escape else (if c == 123 then BeginGroup else (if c == 125 then EndGroup
    else (if c == 36 then MathShift else (if c == 38 then Alignment else (if c == 13 then EndOfLine
    else (if c == 35 then Parameter else (if c == 94 then Superscript else (if c == 95 then Subscript
    else (if c == 0 then Ignored else (if c == 32 || c == 9 then Space else (if is_letter c then Letter
    else (if c == 126 then Active else (if c == 37 then Comment else (if c == 127 then Invalid
    else Other))))))))))))))

-- ---- kinds, from 16 to 18

abbrev pub kind_number : Kind → ℕ
kind_number Kanji = 16
kind_number Kana = 17
kind_number OtherKchar = 18

abbrev pub kind_of : ℤ → Option Kind
kind_of (pos n) = if n == 16 then Some Kanji else (if n == 17 then Some Kana else (if n == 18 then Some OtherKchar else None))
kind_of (negsuc n) = None

-- of the characters of a row
abbrev pub start_kind : ℕ → Kind
start_kind row = if is_from 3 6 row then Kana else (if is_from 16 84 row then Kanji else OtherKchar)

-- ---- where space comes, from 0 to 3

abbrev pub spacing_of : ℤ → Option ℕ
spacing_of (pos n) = if nat_le n 3 then Some n else None
spacing_of (negsuc n) = None

abbrev pub start_xsp : ℕ → ℕ
start_xsp c = if is_letter c || is_digit c then 3 else 0

-- of each Japanese character
abbrev pub start_inhibit_xsp : ℕ
start_inhibit_xsp = 3

-- ---- penalties, from -10000 to 10000

abbrev pub penalty_of : ℤ → Option ℤ
penalty_of z = if int_le (neg_ℤ (pos 10000)) z && int_le z (pos 10000) then Some z else None

abbrev pub IsCharPenalty : CharPenalty → Type 0
IsCharPenalty (penalties.Pre z) = IsPenalty z
IsCharPenalty (penalties.Post z) = IsPenalty z

-- A character has at most one penalty, before or after it; the other is 0.
abbrev pub pre_of : Option CharPenalty → ℤ
pre_of None = pos 0
pre_of (Some (penalties.Pre z)) = z
pre_of (Some (penalties.Post z)) = pos 0

abbrev pub post_of : Option CharPenalty → ℤ
post_of None = pos 0
post_of (Some (penalties.Pre z)) = pos 0
post_of (Some (penalties.Post z)) = z

-- ---- places among all characters: those of one byte come first, and then the cells

abbrev pub cell_place : Kuten → ℕ
cell_place k = 256 + (k.row - 1) * 94 + (k.cell - 1)

abbrev pub char_place : Char → ℕ
char_place (chars.One c) = c
char_place (chars.Ja k) = cell_place k

-- ---- the least and the greatest value of each code

abbrev pub least_code : CodeKey → ℤ
least_code (codes.Cat c) = pos 0
least_code (codes.Kcat k) = pos 16
least_code (codes.Xsp c) = pos 0
least_code (codes.InhibitXsp k) = pos 0
least_code (codes.Pre c) = neg_ℤ (pos 10000)
least_code (codes.Post c) = neg_ℤ (pos 10000)

abbrev pub greatest_code : CodeKey → ℤ
greatest_code (codes.Cat c) = pos 15
greatest_code (codes.Kcat k) = pos 18
greatest_code (codes.Xsp c) = pos 3
greatest_code (codes.InhibitXsp k) = pos 3
greatest_code (codes.Pre c) = pos 10000
greatest_code (codes.Post c) = pos 10000

abbrev pub IsCode : CodeKey → ℤ → Type 0
IsCode key z = (least_code key ≤ℤ z) × (z ≤ℤ greatest_code key)
