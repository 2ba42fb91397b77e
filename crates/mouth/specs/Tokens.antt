-- The next token without expansion: what is pending in the innermost file, then what its eyes see; a file that ends is
-- closed, and the one below goes on (The TeXbook, chapter 20).
use Rattle.std.specs.Prelude.{◌==◌, if◌then◌else◌, List, [], ◌∷◌, Result, Ok, Err}
use Rattle.ts_base.specs.Agreement.{◌>>=◌, with_fault}
use Rattle.tok_lists.specs.declared.spelling.Spelling.{Spelling}
use Rattle.tok_lists.specs.declared.token.Token.{Token}
use Rattle.tok_lists.specs.declared.token.Token.TheVariants as tokens
use Rattle.tok_lists.specs.Codes.{Codes}
use Rattle.kcat_eyes.specs.Eyes.{FaultAt, next as next_seen}
use Rattle.kcat_eyes.specs.declared.seen.Seen.{Seen}
use Rattle.kcat_eyes.specs.declared.seen.Seen.TheVariants as seen
use Rattle.mouth.specs.declared.fault.MouthFault.{MouthFault}
use Rattle.mouth.specs.declared.fault.MouthFault.TheVariants.{FileEnded, NoEnd}
use Rattle.mouth.specs.Reading.{OpenFile, Reading, Stop, stop, of_eyes, with_pending, with_files, with_names}

-- what a file gives, the names with the one that was spelt, and the file after it
pub record Given : Type 0 where
  pub seen : Seen
  pub names : List Spelling
  pub file : OpenFile

-- the next token of a file with these tokens pending, or its end
abbrev pub given_before : Codes → List Spelling → OpenFile → List Token → Result Given FaultAt
given_before codes names file [] =
    next_seen codes names file.sight
    >>= λ look. Ok (record { seen = look.seen; names = look.names; file = record { name = file.name; sight = look.sight; pending = [] } })
given_before codes names file (token ∷ pending) = Ok (record { seen = seen.Token token; names = names; file = with_pending file pending })

abbrev pub given : Codes → List Spelling → OpenFile → Result Given FaultAt
given codes names file = given_before codes names file file.pending

-- a fault of the eyes, at the last line of the file that was needed
abbrev pub in_file : OpenFile → FaultAt → Stop MouthFault
in_file file at = record { fault = of_eyes at.fault; place = record { file = file.name; line = at.line_no } }

-- what is read after a file gave something
abbrev pub after : Reading → Given → Reading
after r g = with_names (with_files r g.file r.below) g.names

-- what the innermost file gives, and what is read after it
abbrev pub looked : Codes → Reading → Result (Seen × Reading) (Stop MouthFault)
looked codes r = with_fault (in_file r.innermost) (given codes r.names r.innermost) >>= λ g. Ok (g.seen, after r g)

-- the token that was seen; or what a file's end comes to, which is FileEnded where no file may end
abbrev pub taken : Seen → Reading → Result (Token × Reading) (Stop MouthFault) → Result (Token × Reading) (Stop MouthFault)
taken (seen.Token token) r ended = Ok (token, r)
taken seen.End r ended = if r.inside == 0 then ended else Err (stop FileEnded r)

-- the next token where these files are below the innermost one
abbrev pub next_over : Codes → Reading → List OpenFile → Result (Token × Reading) (Stop MouthFault)
next_over codes r [] = looked codes r >>= λ s. taken s.0 s.1 (Err (stop NoEnd s.1))
next_over codes r (file ∷ files) = looked codes r >>= λ s. taken s.0 s.1 (next_over codes (with_files s.1 file files) files)

-- the next token, with what is read after it; a Kept token shows that it was kept
unfoldable pub next : Codes → Reading → Result (Token × Reading) (Stop MouthFault)
next codes r = next_over codes r r.below

-- the first of these files goes on, or NoEnd comes where none is there
abbrev pub goes_on : Reading → List OpenFile → Result Reading (Stop MouthFault)
goes_on r [] = Err (stop NoEnd r)
goes_on r (file ∷ files) = Ok (with_files r file files)

-- the end of the innermost file by itself: the one below goes on, where there is one and a file may end
abbrev pub file_ended : Reading → Result Reading (Stop MouthFault)
file_ended r = if r.inside == 0 then goes_on r r.below else Err (stop FileEnded r)

-- a Kept token is its plain name
abbrev pub plain : Token → Token
plain (tokens.Char code cat) = tokens.Char code cat
plain (tokens.Ja cell) = tokens.Ja cell
plain (tokens.Name name) = tokens.Name name
plain (tokens.Kept name) = tokens.Name name
plain (tokens.Param n) = tokens.Param n

-- the next token as its plain name where it is Kept
abbrev pub next_plain : Codes → Reading → Result (Token × Reading) (Stop MouthFault)
next_plain codes r = next codes r >>= λ t. Ok (plain t.0, t.1)
