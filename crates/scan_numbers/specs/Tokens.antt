-- What a token is in a number: by its own character, or by what its name means in the environment with which it was fed.
use Rattle.std.specs.Prelude.{ℕ, ◌+◌, ◌-◌, ◌==◌, ◌||◌, ◌&&◌, Bool, true, false, pos, nat_le, nat_lt, min, List, [], ◌∷◌, map, slice_get, if◌then◌else◌, Option, Some, None, Result, Ok, Err}
use Rattle.jis_codes.specs.declared.Char.{Char}
use Rattle.jis_codes.specs.declared.Char.TheVariants as chars
use Rattle.jis_codes.specs.Numbers.{number_of}
use Rattle.jis_codes.specs.Spellings.{euc}
use Rattle.tok_lists.specs.declared.spelling.Spelling.{Spelling}
use Rattle.tok_lists.specs.declared.token.Token.{Token}
use Rattle.tok_lists.specs.declared.token.Token.TheVariants as tokens
use Rattle.env_groups.specs.declared.meaning.Meaning.{Meaning}
use Rattle.env_groups.specs.declared.meaning.Meaning.TheVariants as meanings
use Rattle.env_groups.specs.declared.key.IntKey.TheVariants as ints
use Rattle.env_groups.specs.declared.key.DimKey.TheVariants as dims
use Rattle.env_groups.specs.declared.key.GlueKey.TheVariants as glues
use Rattle.env_groups.specs.Environments.{Nest, meaning_at}
use Rattle.scan_numbers.specs.declared.fault.ScanKind.{ScanKind}
use Rattle.scan_numbers.specs.declared.quantity.Register.TheVariants as registers
use Rattle.scan_numbers.specs.declared.quantity.Quantity.{Quantity}
use Rattle.scan_numbers.specs.declared.quantity.Quantity.TheVariants as quantities
use Rattle.scan_numbers.specs.declared.primitive.Place.{Place}
use Rattle.scan_numbers.specs.declared.primitive.Place.TheVariants as places
use Rattle.scan_numbers.specs.declared.start.Start.{Start}
use Rattle.scan_numbers.specs.declared.start.Start.TheVariants.{Space, Plus, Minus, Digit, Octal, Hexadecimal, Backquote, Point, Internal, Register as RegisterOf, Refused, Other}
use Rattle.scan_numbers.specs.declared.start.Radix.{Radix}
use Rattle.scan_numbers.specs.declared.start.Radix.TheVariants as radices
use Rattle.scan_numbers.specs.Contexts.{Context}
use Rattle.scan_numbers.specs.Quantities.{int_held, dim_held, glue_held, held}
use Rattle.scan_numbers.specs.Primitives.{place_of}

-- a token, with the environment and the names with which it was fed
pub record FedToken : Type 0 where
  pub token : Token
  pub context : Context

abbrev pub fed : Token → Context → FedToken
fed token context = record { token = token; context = context }

-- tokens that are put back are met again with the environment and the names of the last token
abbrev pub put_back : Context → List Token → List FedToken
put_back context tokens = map (λ token. fed token context) tokens

-- the token, where it wasn't taken
abbrev pub not_taken : Bool → Token → List Token
not_taken true token = []
not_taken false token = token ∷ []

abbrev pub is_between : ℕ → ℕ → ℕ → Bool
is_between low high n = nat_le low n && nat_le n high

-- ---- what a token can begin

-- a character of category 12
abbrev pub other_start : ℕ → Start
other_start code =
    if code == 43 then Plus
    else (if code == 45 then Minus
    else (if code == 39 then Octal
    else (if code == 34 then Hexadecimal
    else (if code == 96 then Backquote
    else (if (code == 46) || (code == 44) then Point
    else (if is_between 48 57 code then Digit
    else Other))))))

abbrev pub character_start : ℕ → ℕ → Start
character_start code cat = if cat == 10 then Space else (if cat == 12 then other_start code else Other)

-- a whole internal quantity
abbrev pub whole_start : Result Quantity ScanKind → Start
whole_start (Ok q) = Internal q
whole_start (Err kind) = Refused kind

abbrev pub place_start : Place → Nest → Start
place_start (places.Int p) nest = whole_start (int_held (ints.Param p) nest)
place_start (places.Dim p) nest = whole_start (dim_held (dims.Param p) nest)
place_start (places.Glue p) nest = whole_start (glue_held (glues.Param p) nest)
place_start (places.Register r) nest = RegisterOf r
place_start places.Nothing nest = Other

-- a character by \let, which is nothing here but a space
abbrev pub letter_start : Token → Start
letter_start (tokens.Char code cat) = if cat == 10 then Space else Other
letter_start _ = Other

-- a character by \chardef; none has a code above 2^31 - 1
abbrev pub code_start : ℕ → Start
code_start code = Internal (quantities.Integer (pos (min code 2147483647)))

abbrev pub meant : Meaning → Nest → Start
meant meanings.Undefined nest = Other
meant (meanings.Primitive prim) nest = place_start (place_of prim) nest
meant (meanings.Macro m) nest = Other
meant (meanings.Letter token) nest = letter_start token
meant (meanings.Code code) nest = code_start code
meant (meanings.Count n) nest = whole_start (held registers.Count n nest)
meant (meanings.Dimen n) nest = whole_start (held registers.Dimen n nest)
meant (meanings.Skip n) nest = whole_start (held registers.Skip n nest)
meant (meanings.Toks n) nest = Other
meant (meanings.Font font) nest = Other

-- A name that isn't expanded acts as \relax.
unfoldable pub start : Token → Context → Start
start (tokens.Char code cat) context = character_start code cat
start (tokens.Ja cell) context = Other
start (tokens.Name name) context = meant (meaning_at context.env name.0) context.env
start (tokens.Kept name) context = Other
start (tokens.Param n) context = Other

-- ---- spaces, digits, characters, letters

abbrev pub is_space_start : Start → Bool
is_space_start Space = true
is_space_start _ = false

-- an explicit or implicit space
abbrev pub is_space : Token → Context → Bool
is_space token context = is_space_start (start token context)

abbrev pub base : Radix → ℕ
base radices.Octal = 8
base radices.Decimal = 10
base radices.Hexadecimal = 16

abbrev pub if_below : ℕ → ℕ → Option ℕ
if_below limit n = if nat_lt n limit then Some n else None

-- Digits have category 12, hexadecimal letters 11 or 12.
unfoldable pub digit : Radix → Token → Option ℕ
digit radix (tokens.Char code cat) =
    if (cat == 12) && is_between 48 57 code then if_below (base radix) (code - 48)
    else (if ((cat == 11) || (cat == 12)) && is_between 65 70 code then if_below (base radix) (code - 65 + 10)
    else None)
digit radix _ = None

abbrev pub char_code : Char → ℕ
char_code (chars.One code) = code
char_code (chars.Ja cell) = number_of euc cell

-- the code of the one character of these
abbrev pub only : List Char → Option ℕ
only [] = None
only (c ∷ []) = Some (char_code c)
only (c ∷ d ∷ cs) = None

abbrev pub spelt : Option Spelling → Option ℕ
spelt (Some s) = only s.chars
spelt None = None

-- the code of a character, or of a name of one character
unfoldable pub character : Token → Context → Option ℕ
character (tokens.Char code cat) context = Some code
character (tokens.Ja cell) context = Some (number_of euc cell)
character (tokens.Name name) context = spelt (slice_get context.names name.0)
character (tokens.Kept name) context = spelt (slice_get context.names name.0)
character (tokens.Param n) context = None

-- the letter of a keyword, small or capital: a character of any category but that of active characters
unfoldable pub letter : Token → Option ℕ
letter (tokens.Char code cat) =
    if cat == 13 then None
    else (if is_between 97 122 code then Some code
    else (if is_between 65 90 code then Some (code - 65 + 97)
    else None))
letter _ = None
