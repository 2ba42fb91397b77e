-- The next token of a file: what stands in the rest of a line, and else in the lines after it (The TeXbook, chapter 8; pTeX).
use Rattle.std.specs.Prelude.{ℕ, suc, ◌+◌, ◌-◌, ◌==◌, ◌||◌, Bool, true, false, if◌then◌else◌, List, [], ◌∷◌, take, drop, Result, Ok, Err, codes}
use Rattle.ts_base.specs.Agreement.{◌>>=◌, with_fault}
use Rattle.jis_codes.specs.declared.character.Char.{Char}
use Rattle.jis_codes.specs.declared.character.Char.TheVariants.{One, Ja}
use Rattle.tok_lists.specs.declared.spelling.Spelling.{Spelling}
use Rattle.tok_lists.specs.declared.token.Token.{Token}
use Rattle.tok_lists.specs.declared.token.Token.TheVariants as tokens
use Rattle.tok_lists.specs.declared.fault.NamesFault.{NamesFault}
use Rattle.tok_lists.specs.declared.fault.NamesFault.TheVariants as names_faults
use Rattle.tok_lists.specs.Codes.{Codes}
use Rattle.tok_lists.specs.Names.{numbered, with_name}
use Rattle.input_codings.specs.declared.fault.LineFault.{LineFault}
use Rattle.input_codings.specs.declared.fault.LineFault.TheVariants as line_faults
use Rattle.input_codings.specs.Pieces.{Piece, pieces}
use Rattle.input_codings.specs.Lines.{Unread, past_line, characters}
use Rattle.kcat_eyes.specs.declared.fault.EyeFault.{EyeFault}
use Rattle.kcat_eyes.specs.declared.fault.EyeFault.TheVariants as faults
use Rattle.kcat_eyes.specs.declared.seen.Seen.{Seen}
use Rattle.kcat_eyes.specs.declared.seen.Seen.TheVariants as seen
use Rattle.kcat_eyes.specs.declared.state.State.{State}
use Rattle.kcat_eyes.specs.declared.state.State.TheVariants.{NewLine, MidLine, SkipBlanks, Kanji}

-- what the rest of a line gives first, with the state and the rest after it: a token that is no name, the spelling of a
-- name, a character that is invalid; or nothing
pub data Glance : Type 0 where
  Gives : Token → State → List Char → Glance
  Spells : Spelling → State → List Char → Glance
  Invalid : Glance
  Nothing : Glance

-- ---- names

-- A control word has letters and Japanese characters of the kinds 16 and 17.
abbrev pub is_letter : Codes → Char → Bool
is_letter codes (One c) = codes.cat c == 11
is_letter codes (Ja k) = (codes.kcat k == 16) || (codes.kcat k == 17)

-- how many letters are at the front
abbrev pub letters : Codes → List Char → ℕ
letters codes [] = 0
letters codes (c ∷ rest) = if is_letter codes c then suc (letters codes rest) else 0

abbrev pub word : List Char → Spelling
word characters = record { active = false; chars = characters }

abbrev pub after_symbol : Codes → Char → State
after_symbol codes (One c) = if codes.cat c == 10 then SkipBlanks else MidLine
after_symbol codes (Ja k) = Kanji

-- what stands after an escape
abbrev pub escaped : Codes → List Char → Glance
escaped codes [] = Spells (word []) MidLine []
escaped codes (c ∷ rest) =
    if is_letter codes c then Spells (word (take (letters codes (c ∷ rest)) (c ∷ rest))) SkipBlanks (drop (letters codes (c ∷ rest)) (c ∷ rest))
    else Spells (word (c ∷ [])) (after_symbol codes c) rest

-- ---- one line

abbrev pub space : Token
space = tokens.Char 32 10

-- `\par`
abbrev pub par : Spelling
par = word (One 112 ∷ One 97 ∷ One 114 ∷ [])

-- the end of a line, and what stands after it on the line is dropped
abbrev pub line_end : State → Glance
line_end NewLine = Spells par NewLine []
line_end MidLine = Gives space NewLine []
line_end SkipBlanks = Nothing
line_end Kanji = Nothing

abbrev pub blank : State → List Char → Glance → Glance
blank NewLine rest skipped = skipped
blank SkipBlanks rest skipped = skipped
blank MidLine rest skipped = Gives space SkipBlanks rest
blank Kanji rest skipped = Gives space SkipBlanks rest

-- Braces keep the state after a Japanese character.
abbrev pub after_brace : State → State
after_brace Kanji = Kanji
after_brace _ = MidLine

-- a character of a category, with what stands after it, and what that gives where this one is skipped
abbrev pub of_category : Codes → State → ℕ → ℕ → List Char → Glance → Glance
of_category codes state c cat rest skipped =
    if cat == 0 then escaped codes rest
    else (if (cat == 1) || (cat == 2) then Gives (tokens.Char c cat) (after_brace state) rest
    else (if cat == 5 then line_end state
    else (if cat == 9 then skipped
    else (if cat == 10 then blank state rest skipped
    else (if cat == 13 then Spells (record { active = true; chars = One c ∷ [] }) MidLine rest
    else (if cat == 14 then Nothing
    else (if cat == 15 then Invalid
    else Gives (tokens.Char c cat) MidLine rest)))))))

abbrev pub met : Codes → State → Char → List Char → Glance → Glance
met codes state (Ja k) rest skipped = Gives (tokens.Ja k) Kanji rest
met codes state (One c) rest skipped = of_category codes state c (codes.cat c) rest skipped

abbrev pub in_line : Codes → State → List Char → Glance
in_line codes state [] = Nothing
in_line codes state (c ∷ rest) = met codes state c rest (in_line codes state rest)

-- ---- a file

-- what the eyes are about to read: the state, the rest of the present line, the lines after it, and whether the file ends
-- after the line that was taken last, or after its first line where none was taken yet
pub record Sight : Type 0 where
  pub state : State
  pub rest : List Char
  pub lines : Unread
  pub ends : Bool

-- what is seen, the names with the one that was spelt, and the sight after it
pub record Look : Type 0 where
  pub seen : Seen
  pub names : List Spelling
  pub sight : Sight

-- a fault, and the number of the last line that was needed and is there
pub record FaultAt : Type 0 where
  pub fault : EyeFault
  pub line_no : ℕ

abbrev pub at_line : ℕ → EyeFault → FaultAt
at_line n fault = record { fault = fault; line_no = n }

abbrev pub eye_fault : LineFault → EyeFault
eye_fault line_faults.TooManyLines = faults.TooManyLines
eye_fault line_faults.LineTooLong = faults.LineTooLong
eye_fault (line_faults.BadByte place) = faults.BadByte place
eye_fault line_faults.ReadFault = faults.ReadFault
eye_fault line_faults.NoMemory = faults.NoMemory

abbrev pub name_fault : NamesFault → EyeFault
name_fault names_faults.NamesFull = faults.NamesFull
name_fault names_faults.NoMemory = faults.NoMemory

abbrev pub named : Spelling → List Spelling → Sight → Result Look FaultAt
named spelling names sight =
    with_fault (λ f. at_line sight.lines.line_no (name_fault f)) (numbered names spelling)
    >>= λ n. Ok (record { seen = seen.Token (tokens.Name (record { 0 = n })); names = with_name names spelling; sight = sight })

-- what a glance comes to; where it gave nothing, what is seen in the lines after it
abbrev pub looked : List Spelling → Unread → Bool → Glance → Result Look FaultAt → Result Look FaultAt
looked names lines ends (Gives token state rest) after =
    Ok (record { seen = seen.Token token; names = names; sight = record { state = state; rest = rest; lines = lines; ends = ends } })
looked names lines ends (Spells spelling state rest) after = named spelling names (record { state = state; rest = rest; lines = lines; ends = ends })
looked names lines ends Invalid after = Err (at_line lines.line_no faults.BadChar)
looked names lines ends Nothing after = after

abbrev pub at_end : List Spelling → Unread → Bool → Look
at_end names lines ends = record { seen = seen.End; names = names; sight = record { state = NewLine; rest = []; lines = lines; ends = ends } }

-- the lines that are still read
abbrev pub still_read : Unread → Bool → List Piece
still_read lines ends = if ends then take (1 - lines.line_no) (pieces lines.bytes) else pieces lines.bytes

-- what is seen in lines, of which the first is needed
abbrev pub in_lines : Codes → List Spelling → Bool → Unread → List Piece → Result Look FaultAt
in_lines codes names ends lines [] = Ok (at_end names lines ends)
in_lines codes names ends lines (p ∷ ps) =
    with_fault (λ f. at_line (lines.line_no + 1) (eye_fault f)) (characters lines.coding (lines.line_no + 1) p)
    >>= λ line. looked names (past_line lines) ends (in_line codes NewLine line) (in_lines codes names ends (past_line lines) ps)

abbrev pub after_line : Codes → List Spelling → Sight → Result Look FaultAt
after_line codes names sight = in_lines codes names sight.ends sight.lines (still_read sight.lines sight.ends)

-- the next token, or the end of the file, or the fault with its line
unfoldable pub next : Codes → List Spelling → Sight → Result Look FaultAt
next codes names sight = looked names sight.lines sight.ends (in_line codes sight.state sight.rest) (after_line codes names sight)
