-- \if and \ifcat: what tokens are as characters (The TeXbook, chapter 20; TeX: The Program, section 506; pTeX).
use Rattle.std.specs.Prelude.{ℕ, ◌==◌, ℤ, pos, ◌+ℤ◌, Bool, if◌then◌else◌, List, [], ◌∷◌, Option, Some, None, slice_get}
use Rattle.std.specs.Ordering.{int_eq}
use Rattle.jis_codes.specs.Spellings.{euc}
use Rattle.jis_codes.specs.Numbers.{number_of}
use Rattle.jis_codes.specs.declared.Char.{Char}
use Rattle.tok_lists.specs.declared.spelling.Spelling.{Spelling}
use Rattle.tok_lists.specs.declared.token.Token.{Token}
use Rattle.tok_lists.specs.declared.token.Token.TheVariants as tokens
use Rattle.env_groups.specs.declared.code.CodeKey.TheVariants.{Kcat}
use Rattle.env_groups.specs.declared.meaning.Meaning.{Meaning}
use Rattle.env_groups.specs.declared.meaning.Meaning.TheVariants as meanings
use Rattle.env_groups.specs.Environments.{Nest, meaning_at, code_at}
use Rattle.scan_numbers.specs.Tokens.{char_code}
use Rattle.expander.specs.declared.action.Aspect.{Aspect}
use Rattle.expander.specs.declared.action.Aspect.TheVariants.{Code, Category}
use Rattle.expander.specs.declared.faces.Face.{Face}

abbrev pub face : ℕ → ℤ → Face
face code category = record { code = code; category = category }

-- what is no character
abbrev pub no_face : Face
no_face = face 256 (pos 16)

-- A Japanese character has its internal code, and its kind plus 100.
abbrev pub char_face : Nest → Token → Face
char_face nest (tokens.Char code cat) = face code (pos cat)
char_face nest (tokens.Ja cell) = face (number_of euc cell) (code_at nest (Kcat cell) +ℤ pos 100)
char_face nest _ = no_face

-- a name that is a character by \let
abbrev pub meant_face : Nest → Meaning → Face
meant_face nest (meanings.Letter token) = char_face nest token
meant_face nest _ = no_face

abbrev pub first_code : List Char → ℕ
first_code [] = 256
first_code (c ∷ cs) = char_code c

-- An active character that isn't expanded is itself, and any other name \relax.
abbrev pub kept_face : Option Spelling → Face
kept_face (Some s) = if s.active then face (first_code s.chars) (pos 13) else no_face
kept_face None = no_face

abbrev pub face_of : Nest → List Spelling → Token → Face
face_of nest names (tokens.Name name) = meant_face nest (meaning_at nest name.0)
face_of nest names (tokens.Kept name) = kept_face (slice_get names name.0)
face_of nest names token = char_face nest token

-- \if compares codes, \ifcat categories.
abbrev pub are_alike : Aspect → Face → Face → Bool
are_alike Code a b = a.code == b.code
are_alike Category a b = int_eq a.category b.category
