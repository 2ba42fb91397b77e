-- What is printed, as tokens (The TeXbook, chapter 20): characters have category 12, but a space
-- 10, and Japanese ones stay.
use Rattle.std.specs.Prelude.{ℕ, List, [], ◌∷◌, map, nat_eq, if◌then◌else◌, ℤ, int_lt, pos, unsigned_abs}
use Rattle.std.specs.Fmt.{signed_decimal}
use Rattle.jis_codes.specs.declared.character.Char.{Char as Character}
use Rattle.jis_codes.specs.declared.character.Char.TheVariants.{One, Ja as Japanese}
use Rattle.ts_geometry.specs.declared.glue.Glue.{Glue}
use Rattle.tok_lists.specs.declared.spelling.Spelling.{Spelling}
use Rattle.tok_lists.specs.declared.token.Token.{Token}
use Rattle.tok_lists.specs.declared.token.Token.TheVariants.{Char, Ja}
use Rattle.print_values.specs.Texts.{roman, dimension, glue}

abbrev pub printed_byte : ℕ → Token
printed_byte byte = Char byte (if nat_eq byte 32 then 10 else 12)

abbrev pub printed : List ℕ → List Token
printed text = map printed_byte text

abbrev pub printed_char : Character → Token
printed_char (One byte) = printed_byte byte
printed_char (Japanese cell) = Ja cell

abbrev pub printed_number : ℤ → List Token
printed_number n = printed (signed_decimal n)

-- a number of at most 0 has none
abbrev pub printed_roman : ℤ → List Token
printed_roman n = if int_lt (pos 0) n then printed (roman (unsigned_abs n)) else []

abbrev pub printed_dimension : ℤ → List Token
printed_dimension z = printed (dimension z)

abbrev pub printed_glue : Glue → List Token
printed_glue g = printed (glue g)

-- a name begins with the escape, byte 92; an active character is printed alone
abbrev pub printed_name : Spelling → List Token
printed_name s = if s.active then map printed_char s.chars
    else (printed_byte 92 ∷ map printed_char s.chars)
