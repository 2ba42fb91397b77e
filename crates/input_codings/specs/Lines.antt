-- The lines of a file, by number, and the next line of what is left of it.
use Rattle.std.specs.Prelude.{◌≡◌, ◌≤◌, ℕ, zero, suc, ◌+◌, ◌-◌, nat_lt, if◌then◌else◌, List, [], ◌∷◌, ◌++◌, length, Option, Some, None, Result, Ok, Err, slice_get}
use Rattle.ts_base.specs.Agreement.{Cause, Determined, Counted, Free, ◌>>=◌}
use Rattle.jis_codes.specs.declared.Char.{Char}
use Rattle.jis_codes.specs.declared.Char.TheVariants.{One}
use Rattle.input_codings.specs.declared.coding.Coding.{Coding}
use Rattle.input_codings.specs.declared.fault.LineFault.{LineFault}
use Rattle.input_codings.specs.declared.fault.LineFault.TheVariants as faults
use Rattle.input_codings.specs.declared.fault.OpenFault.{OpenFault}
use Rattle.input_codings.specs.declared.fault.OpenFault.TheVariants as refusals
use Rattle.input_codings.specs.Decoding.{decoded, trimmed}
use Rattle.input_codings.specs.Pieces.{Piece, pieces, after_ten, text_of}

abbrev pub most_lines : ℕ
most_lines = 1000000

abbrev pub most_bytes : ℕ
most_bytes = 65535

-- Characters 32 at the end are taken away, and character 13 ends the line.
abbrev pub closed : Result (List Char) ℕ → Result (List Char) LineFault
closed (Ok cs) = Ok (trimmed cs ++ One 13 ∷ [])
closed (Err place) = Err (faults.BadByte place)

-- the characters of line n, from 1, whose piece this is
abbrev pub characters : Coding → ℕ → Piece → Result (List Char) LineFault
characters coding n piece =
    if nat_lt most_lines n then Err faults.TooManyLines
    else (if nat_lt most_bytes (length piece.bytes) then Err faults.LineTooLong
    else closed (decoded coding (text_of piece.ended piece.bytes)))

-- the same of a piece that may not be there
abbrev pub line_of : Coding → ℕ → Option Piece → Result (Option (List Char)) LineFault
line_of coding n None = Ok None
line_of coding n (Some piece) = characters coding n piece >>= (λ cs. Ok (Some cs))

-- line n, from 1, of the bytes of a file
abbrev pub line : Coding → ℕ → List ℕ → Result (Option (List Char)) LineFault
line coding n bytes = line_of coding n (slice_get (pieces bytes) (n - 1))

-- what is left of a file: its coding, how many lines came before, and the bytes
pub record Unread : Type 0 where
  pub coding : Coding
  pub line_no : ℕ
  pub bytes : List ℕ

-- what is left after the next line
abbrev pub past_line : Unread → Unread
past_line u = record { coding = u.coding; line_no = u.line_no + 1; bytes = after_ten u.bytes }

-- the first of the pieces that are left, as the next line
abbrev pub first_of : Unread → List Piece → Result (Option (List Char) × Unread) LineFault
first_of u [] = Ok (None, u)
first_of u (p ∷ ps) = characters u.coding (u.line_no + 1) p >>= (λ cs. Ok (Some cs, past_line u))

-- the next line, and what is left after it
abbrev pub next_line : Unread → Result (Option (List Char) × Unread) LineFault
next_line u = first_of u (pieces u.bytes)

-- what is left after n lines
abbrev pub past_lines : ℕ → List ℕ → List ℕ
past_lines zero bytes = bytes
past_lines (suc n) bytes = after_ten (past_lines n bytes)

-- the bytes determine each fault but a failed read and want of memory
abbrev pub line_cause : LineFault → Cause
line_cause faults.TooManyLines = Determined
line_cause faults.LineTooLong = Determined
line_cause (faults.BadByte place) = Determined
line_cause faults.ReadFault = Counted
line_cause faults.NoMemory = Free

abbrev pub open_cause : OpenFault → Cause
open_cause refusals.Missing = Determined
open_cause refusals.ReadFault = Counted
open_cause refusals.NoMemory = Free

-- the whole of a file, where there is one
abbrev pub opened : Coding → Option (List ℕ) → Result Unread OpenFault
opened coding None = Err refusals.Missing
opened coding (Some bytes) = Ok (record { coding = coding; line_no = 0; bytes = bytes })

-- how many lines were needed and there, after a fault of such a cause
abbrev pub CountsLineFault : Cause → ℕ → ℕ → Type 0
CountsLineFault Determined old new = new ≡ old + 1
CountsLineFault Counted old new = (old ≤ new) × (new ≤ old + 1)
CountsLineFault Free old new = (old ≤ new) × (new ≤ old + 1)

-- how many lines were needed and there, after an answer; one that is given has number 1,000,000 at most
abbrev pub CountsLine : Result (Option (List Char)) LineFault → ℕ → ℕ → Type 0
CountsLine (Ok None) old new = new ≡ old
CountsLine (Ok (Some cs)) old new = (new ≡ old + 1) × (new ≤ most_lines)
CountsLine (Err e) old new = CountsLineFault (line_cause e) old new
