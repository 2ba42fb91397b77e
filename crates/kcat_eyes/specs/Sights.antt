-- What the eyes of an open file have before them.
use Rattle.std.specs.Prelude.{◌≡◌, ℕ, ◌+◌, ◌-◌, ◌*◌, ◌≤◌, ◌<◌, Bool, true, false, List, [], length, drop, Option, Some, None, Result, Ok, Err}
use Rattle.ts_base.specs.Agreement.{Cause, Determined, Counted, Free, AgreesFault, ◌>>=◌}
use Rattle.jis_codes.specs.declared.character.Char.{Char}
use Rattle.tok_lists.specs.declared.spelling.Spelling.{Spelling}
use Rattle.tok_lists.specs.declared.token.Token.TheVariants as tokens
use Rattle.input_codings.specs.declared.coding.Coding.{Coding}
use Rattle.input_codings.specs.declared.fault.OpenFault.{OpenFault}
use Rattle.input_codings.specs.Lines.{Unread, opened, most_lines}
use Rattle.input_codings.specs.Reading.{LinesView, unread}
use Rattle.kcat_eyes.specs.declared.fault.EyeFault.{EyeFault}
use Rattle.kcat_eyes.specs.declared.fault.EyeFault.TheVariants as faults
use Rattle.kcat_eyes.specs.declared.seen.Seen.{Seen}
use Rattle.kcat_eyes.specs.declared.seen.Seen.TheVariants as seen
use Rattle.kcat_eyes.specs.declared.state.State.{State}
use Rattle.kcat_eyes.specs.declared.state.State.TheVariants.{NewLine}
use Rattle.tok_lists.specs.Codes.{Codes}
use Rattle.tok_lists.specs.Names.{Grew}
use Rattle.kcat_eyes.specs.Eyes.{Sight, FaultAt, at_line, after_line, next}

-- the lines of a file, the state, the rest of the present line, and whether the file ends after this line
pub record EyesView : Type 0 where
  pub lines : LinesView
  pub state : State
  pub rest : List Char
  pub ends : Bool

abbrev pub line_in : Option (List Char) → List Char
line_in None = []
line_in (Some line) = line

-- what the eyes are about to read, where what is left of their file is told
abbrev pub sight_of : EyesView → Option (List ℕ) → Sight
sight_of eyes left = record { state = eyes.state; rest = eyes.rest; lines = unread eyes.lines left; ends = eyes.ends }

-- the sight of the present line with the lines after it
abbrev pub sight_in : State → ℕ → Option (List Char) → Unread → Bool → Sight
sight_in state at line lines ends = record { state = state; rest = drop at (line_in line); lines = lines; ends = ends }

abbrev pub eye_cause : EyeFault → Cause
eye_cause faults.BadChar = Determined
eye_cause faults.NamesFull = Determined
eye_cause faults.TooManyLines = Determined
eye_cause faults.LineTooLong = Determined
eye_cause (faults.BadByte place) = Determined
eye_cause faults.ReadFault = Counted
eye_cause faults.NoMemory = Free

-- why no token is given at a line
abbrev pub look_cause : FaultAt → Cause
look_cause stop = eye_cause stop.fault

-- After the present line another one is taken, or there is none, or it has a fault.
abbrev pub Turns : Result Bool EyeFault → Sight → Sight → Type 0
Turns (Ok true) old new = (codes : Codes) (names : List Spelling) → after_line codes names old ≡ next codes names new
Turns (Ok false) old new = (codes : Codes) (names : List Spelling) → after_line codes names old ≡ Ok (record { seen = seen.End; names = names; sight = new })
Turns (Err e) old new = (codes : Codes) (names : List Spelling) → AgreesFault (eye_cause e) (at_line new.lines.line_no e) (after_line codes names old)

-- What is seen is a character, a name that is held, or the end.
abbrev pub IsSeen : List Spelling → Seen → Type 0
IsSeen names (seen.Token (tokens.Char code cat)) = Unit {0}
IsSeen names (seen.Token (tokens.Ja cell)) = Unit {0}
IsSeen names (seen.Token (tokens.Name name)) = name.0 < length names
IsSeen names (seen.Token (tokens.Kept name)) = ⊥
IsSeen names (seen.Token (tokens.Param n)) = ⊥
IsSeen names seen.End = Unit {0}

-- how many characters a line has at most, the one that ends it counted
abbrev pub most_in_line : ℕ
most_in_line = 65536

-- how many characters may still be seen, whatever the bytes are: the rest of the present line, and the lines after it
unfoldable pub ahead : ℕ → List Char → ℕ
ahead line_no rest = (most_lines - line_no) * most_in_line + length rest

-- A token leaves fewer characters that may still be seen, and the end no more.
abbrev pub Lowers : {E : Type 0} → Result Seen E → ℕ → ℕ → Type 0
Lowers (Ok (seen.Token token)) old new = new < old
Lowers (Ok seen.End) old new = new ≤ old
Lowers (Err fault) old new = Unit {0}

-- What is seen is held by the names, which grew; after a fault they are as they were.
abbrev pub SeesNames : Result Seen EyeFault → List Spelling → List Spelling → Type 0
SeesNames (Ok seen) old new = IsSeen new seen × Grew old new
SeesNames (Err fault) old new = new ≡ old

-- the number of lines after a turn
abbrev pub CountsTurn : Result Bool EyeFault → ℕ → ℕ → Type 0
CountsTurn (Ok true) old new = (new ≡ old + 1) × (new ≤ most_lines)
CountsTurn (Ok false) old new = new ≡ old
CountsTurn (Err e) old new = (old ≤ new) × (new ≤ old + 1)

-- the sight of a whole file, where there is one
abbrev pub first_sight : Coding → Option (List ℕ) → Result Sight OpenFault
first_sight coding bytes = opened coding bytes >>= λ lines. Ok (record { state = NewLine; rest = []; lines = lines; ends = false })
