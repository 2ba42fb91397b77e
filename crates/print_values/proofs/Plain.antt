-- What is printed has neither parameters nor names.
use Rattle.std.proofs.Common.{true, false, if◌then◌else◌, List, [], ◌∷◌, map}
use Rattle.jis_codes.specs.declared.character.Char.{Char as Character}
use Rattle.jis_codes.specs.declared.character.Char.TheVariants.{One, Ja as Japanese}
use Rattle.tok_lists.specs.declared.spelling.Spelling.{Spelling}
use Rattle.tok_lists.specs.Names.{AreHeld, HasNoParam}
use Rattle.print_values.specs.Laws.{TextsArePlain, NamesArePlain}
use Rattle.print_values.specs.Printing.{printed_byte, printed_char}

pub texts_are_plain : TextsArePlain
texts_are_plain names [] = (tt, tt)
texts_are_plain names (byte ∷ text) = let h = texts_are_plain names text in ((tt, h.0), (tt, h.1))

chars_are_plain : (names : List Spelling) (chars : List Character) → HasNoParam (map printed_char chars) × AreHeld names (map printed_char chars)
chars_are_plain names [] = (tt, tt)
chars_are_plain names (One byte ∷ chars) = let h = chars_are_plain names chars in ((tt, h.0), (tt, h.1))
chars_are_plain names (Japanese cell ∷ chars) = let h = chars_are_plain names chars in ((tt, h.0), (tt, h.1))

pub names_are_plain : NamesArePlain
names_are_plain names s =
    let h = chars_are_plain names s.chars in
    elim s.active as (λ t. HasNoParam (if t then map printed_char s.chars else (printed_byte 92 ∷ map printed_char s.chars)) × AreHeld names (if t then map printed_char s.chars else (printed_byte 92 ∷ map printed_char s.chars))) [ true ↦ h | false ↦ ((tt, h.0), (tt, h.1)) ]
