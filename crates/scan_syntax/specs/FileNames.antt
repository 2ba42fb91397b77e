-- Names of files (The TeXbook, chapter 25).
use Rattle.std.specs.Prelude.{ℕ, ◌==◌, Bool, false, List, [], ◌∷◌, if◌then◌else◌, Option, Some, None}
use Rattle.ts_outside.specs.Names.{is_file_name}
use Rattle.tok_lists.specs.declared.token.Token.{Token}
use Rattle.tok_lists.specs.declared.token.Token.TheVariants as tokens
use Rattle.scan_numbers.specs.declared.fault.ScanKind.TheVariants.{NoName}
use Rattle.scan_numbers.specs.Contexts.{Context}
use Rattle.scan_numbers.specs.Tokens.{FedToken, is_space}
use Rattle.scan_numbers.specs.Answers.{Answer, Got, Needs, Bad, Expanded, ◌>>=◌}

-- The explicit characters of a name, of any category; a Japanese one is 0, which no name has.
abbrev pub name_byte : Token → Option ℕ
name_byte (tokens.Char code cat) = if code == 32 then None else Some code
name_byte (tokens.Ja cell) = Some 0
name_byte _ = None

-- Of the tokens that end a name only a character 32 is taken.
abbrev pub ends_name : Token → Bool
ends_name (tokens.Char code cat) = code == 32
ends_name _ = false

abbrev pub byte_before : Option ℕ → FedToken → List FedToken → Answer (List ℕ) → Answer (List ℕ)
byte_before (Some c) x rest further = further >>= λ cs context left. Got (c ∷ cs) context left
byte_before None x rest further = if ends_name x.token then Got [] x.context rest else Got [] x.context (x ∷ rest)

unfoldable pub name_bytes : List FedToken → Answer (List ℕ)
name_bytes [] = Needs Expanded
name_bytes (x ∷ rest) = byte_before (name_byte x.token) x rest (name_bytes rest)

-- A name is tested where it is whole.
unfoldable pub file_named : List ℕ → Context → List FedToken → Answer (List ℕ)
file_named cs context rest = if is_file_name cs then Got cs context rest else Bad NoName

-- Spaces before a name are lost.
unfoldable pub file_name : List FedToken → Answer (List ℕ)
file_name [] = Needs Expanded
file_name (x ∷ rest) = if is_space x.token x.context then file_name rest else name_bytes (x ∷ rest) >>= file_named
