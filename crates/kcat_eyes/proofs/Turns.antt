-- The lines after the present one, by the next of them.
use Rattle.std.proofs.Common.{◌≡◌, ◌≢◌, ℕ, ◌+◌, ◌-◌, List, [], ◌∷◌, take, Bool, true, false, Option, Some, None, Result, Ok, Err, refl, sym, ap, ◌∙◌}
use Rattle.std.specs.Prelude.{◌==◌, if◌then◌else◌}
use mathlib.Core.Bool.{false≢true}
use Rattle.std.specs.Result.{IsErr, IsErrAnd}
use Rattle.kcat_eyes.specs.declared.seen.Seen.{Seen}
use Rattle.ts_base.specs.Agreement.{Agrees, ◌>>=◌, AgreesFault, with_fault}
use Rattle.ts_base.proofs.Composing.{same_agrees}
use Rattle.jis_codes.specs.declared.character.Char.{Char}
use Rattle.tok_lists.specs.declared.spelling.Spelling.{Spelling}
use Rattle.input_codings.specs.declared.fault.LineFault.{LineFault}
use Rattle.input_codings.specs.declared.fault.LineFault.TheVariants as faults
use Rattle.input_codings.specs.Pieces.{Piece, pieces, after_ten, byte_then}
use Rattle.input_codings.specs.Lines.{Unread, past_line, characters, first_of, line_cause}
use Rattle.kcat_eyes.specs.declared.state.State.TheVariants.{NewLine}
use Rattle.kcat_eyes.specs.declared.fault.EyeFault.{EyeFault}
use Rattle.tok_lists.specs.Codes.{Codes}
use Rattle.kcat_eyes.specs.Eyes.{Sight, Look, FaultAt, at_line, Nothing, in_line, in_lines, still_read, after_line, next, looked, eye_fault}
use Rattle.kcat_eyes.specs.Sights.{eye_cause, look_cause}

tail : List Piece → List Piece
tail [] = []
tail (p ∷ ps) = ps

tail_then : (b : ℕ) (ps : List Piece) → tail (byte_then b ps) ≡ tail ps
unfolding tail
tail_then b [] = refl
tail_then b (p ∷ ps) = refl

split : (b : ℕ) (bs : List ℕ) (ten : Bool) → ten ≡ (b == 10) → pieces (after_ten bs) ≡ tail (pieces bs) → pieces (after_ten (b ∷ bs)) ≡ tail (pieces (b ∷ bs))
unfolding tail
split b bs true is before = rw (← is) refl
split b bs false is before = rw (← is) (before ∙ sym (tail_then b (pieces bs)))

pieces_tail : (bytes : List ℕ) → pieces (after_ten bytes) ≡ tail (pieces bytes)
unfolding tail
pieces_tail [] = refl
pieces_tail (b ∷ bs) = split b bs _ refl (pieces_tail bs)

-- of these pieces, those of the lines that are still read
abbrev still_of : Unread → Bool → List Piece → List Piece
still_of u ends ps = if ends then take (1 - u.line_no) ps else ps

-- A line is read.
record Reads (u u' : Unread) (ends : Bool) (ps : List Piece) (cs : List Char) : Type 0 where
  piece : Piece
  first : still_of u ends ps ≡ piece ∷ still_read u' ends
  line : characters u.coding (u.line_no + 1) piece ≡ Ok cs
  past : u' ≡ past_line u

given : Unread → List Char → Result (Option (List Char) × Unread) LineFault
given u line = Ok (Some line, past_line u)

abbrev told : Option (List Char) × Unread → Result (Option (List Char) × Unread) LineFault
told pair = Ok pair

pair_of : (a b : Option (List Char) × Unread) → told a ≡ told b → a ≡ b
pair_of a b is = cc

given_line : (u u' : Unread) (r : Result (List Char) LineFault) (cs : List Char) → r >>= given u ≡ Ok (Some cs, u') → (r ≡ Ok cs) × (u' ≡ past_line u)
unfolding given
given_line u u' (Ok c) cs is =
    let pair = pair_of (Some c, past_line u) (Some cs, u') is in
    let lines : Some c ≡ Some cs = ap (λ (p : Option (List Char) × Unread). p.0) pair in
    let same : c ≡ cs = cc in
    (ap (λ (x : List Char). Ok x) same, sym (ap (λ (p : Option (List Char) × Unread). p.1) pair))
given_line u u' (Err e) cs is = absurd cc

reads_of : (u u' : Unread) (ends : Bool) (cs : List Char) (ps : List Piece) → pieces (after_ten u.bytes) ≡ tail ps → (ends ≡ true → u.line_no ≡ 0) → first_of u ps ≡ Ok (Some cs, u') → Reads u u' ends ps cs
unfolding tail given
reads_of u u' ends cs [] rest start is = absurd (let lines : None ≡ Some cs = ap (λ (p : Option (List Char) × Unread). p.0) (pair_of (None, u) (Some cs, u') is) in cc)
reads_of u u' false cs (p ∷ ps) rest start is =
    let line = given_line u u' (characters u.coding (u.line_no + 1) p) cs is in
    record { piece = p; first = rw (line.1, rest) refl; line = line.0; past = line.1 }
reads_of u u' true cs (p ∷ ps) rest start is =
    let line = given_line u u' (characters u.coding (u.line_no + 1) p) cs is in
    let one : take (1 - u.line_no) (p ∷ ps) ≡ p ∷ [] = rw (start refl) refl in
    let none : still_read (past_line u) true ≡ [] = rw (start refl) refl in
    record { piece = p; first = rw (line.1, none) one; line = line.0; past = line.1 }

reads : (u u' : Unread) (ends : Bool) (cs : List Char) → (ends ≡ true → u.line_no ≡ 0) → first_of u (pieces u.bytes) ≡ Ok (Some cs, u') → Reads u u' ends (pieces u.bytes) cs
reads u u' ends cs start is = reads_of u u' ends cs (pieces u.bytes) (pieces_tail u.bytes) start is

pub turn_some : (codes : Codes) (names : List Spelling) (ends : Bool) (u u' : Unread) (cs : List Char) → (ends ≡ true → u.line_no ≡ 0) → first_of u (pieces u.bytes) ≡ Ok (Some cs, u')
    → in_lines codes names ends u (still_read u ends) ≡ looked names u' ends (in_line codes NewLine cs) (in_lines codes names ends u' (still_read u' ends))
turn_some codes names ends u u' cs start is = let r = reads u u' ends cs start is in rw (r.first, r.line, r.past) refl

pub nothing_next : (codes : Codes) (names : List Spelling) (sight : Sight) → in_line codes sight.state sight.rest ≡ Nothing → next codes names sight ≡ after_line codes names sight
unfolding next
nothing_next codes names sight none = rw none refl

pub line_causes : (e : LineFault) → eye_cause (eye_fault e) ≡ line_cause e
line_causes faults.TooManyLines = refl
line_causes faults.LineTooLong = refl
line_causes (faults.BadByte place) = refl
line_causes faults.ReadFault = refl
line_causes faults.NoMemory = refl

pub refusal : (view : Seen → Look) (n : ℕ) (result : Result Seen EyeFault) (e : EyeFault) {a b : Result Look FaultAt} → IsErr result × IsErrAnd result (λ d. d ≡ e) → a ≡ b
    → AgreesFault (eye_cause e) (at_line n e) b → Agrees view look_cause (with_fault (at_line n) result) a
refusal view n (Ok x) e err same is = absurd (false≢true err.0)
refusal view n (Err d) e err same is = rw err.1 (same_agrees (eye_cause e) (at_line n e) _ _ same is)
