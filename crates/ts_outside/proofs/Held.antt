-- Files in memory, by their index.
use Rattle.std.proofs.Common.{◌≡◌, ℕ, zero, suc, ◌≤◌, ◌<◌, List, [], ◌∷◌, ◌++◌, length, drop, map, get_or, Option, Some, None, true, false, is_some, refl, sym, ap, ◌∙◌, arith, length-drop}
use Rattle.std.specs.Str.{bytes_eq}
use Rattle.std.proofs.lemmas.List.{nil_from_length, take-append-le}
use Rattle.ts_outside.specs.declared.files.Got.{Got}
use Rattle.ts_outside.specs.declared.files.Got.TheVariants as got
use Rattle.ts_outside.specs.declared.mem_files.MemFile.{MemFile}
use Rattle.ts_outside.specs.declared.mem_files.Seat.{Seat}
use Rattle.std.proofs.Math.ListN.{get_or-map}
use Rattle.ts_outside.specs.Reading.{bytes_of, Fills, Gives}
use Rattle.ts_outside.specs.Holding.{held_of, bytes_at, seat_left}

pub bytes_here : (files : List MemFile) (i : ℕ) (file : MemFile) → i < length files → file ≡ get_or files i file → file.bytes.items ≡ bytes_at files i
bytes_here [] i file within is = absurd (omega arith)
bytes_here (first ∷ files) zero file within is = ap (λ (f : MemFile). f.bytes.items) is
bytes_here (first ∷ files) (suc i) file within is = bytes_here files i file (omega arith) is

pub bytes_past : (files : List MemFile) (i : ℕ) → length files ≤ i → [] ≡ bytes_at files i
bytes_past [] i past = refl
bytes_past (first ∷ files) zero past = absurd (omega arith)
bytes_past (first ∷ files) (suc i) past = bytes_past files i (omega arith)

pub nothing_left : (n : ℕ) (bytes : List ℕ) → length bytes ≤ n → drop n bytes ≡ []
nothing_left n bytes past = nil_from_length (drop n bytes) (omega (arith, length-drop n bytes))

-- The file of an index has the name that is sought.
pub found_here : (files : List MemFile) (i : ℕ) (name : List ℕ) (file : MemFile) → i < length files → file ≡ get_or files i file → bytes_eq file.name name ≡ true
    → bytes_of (map held_of (drop i files)) name ≡ Some (bytes_at files i)
found_here [] i name file within is same = absurd (omega arith)
found_here (first ∷ files) zero name file within is same =
    let here = rw is at same in
    rw here refl
found_here (first ∷ files) (suc i) name file within is same = found_here files i name file (omega arith) is same

module _ (files : List MemFile) (old new : List (Option Seat)) (n : ℕ) where
  -- what is left of the file of a number that was let alone
  pub left_same : get_or new n None ≡ get_or old n None → get_or (map (seat_left files) new) n None ≡ get_or (map (seat_left files) old) n None
  left_same same = get_or-map (seat_left files) new n None ∙ ap (seat_left files) same ∙ sym (get_or-map (seat_left files) old n None)

module _ (files : List MemFile) (seats : List (Option Seat)) (n : ℕ) where
  pub left_of_seat : get_or (map (seat_left files) seats) n None ≡ seat_left files (get_or seats n None)
  left_of_seat = get_or-map (seat_left files) seats n None

pub seated : (files : List MemFile) (seat : Option Seat) → is_some (seat_left files seat) ≡ is_some seat
seated files None = refl
seated files (Some seat) = refl

-- Of a longer buffer the front is filled.
pub longer_buffer : (left : Option (List ℕ)) (answer : Got) (buffer more : List ℕ) (new : Option (List ℕ)) → Fills answer (length buffer) → Gives left answer buffer new → Gives left answer (buffer ++ more) new
longer_buffer None answer buffer more new fills gives = tt
longer_buffer (Some left) (got.Bytes n) buffer more new fills gives = (gives.0, take-append-le n buffer more fills.1 ∙ gives.1, gives.2)
longer_buffer (Some left) got.End buffer more new fills gives = gives
longer_buffer (Some left) got.Failed buffer more new fills gives = gives

-- what `Keeps` says of what is left of files
abbrev pub KeepsLeft : List (Option (List ℕ)) → List (Option (List ℕ)) → ℕ → Type 0
KeepsLeft old new n = (is_some (get_or new n None) ≡ is_some (get_or old n None)) × (is_some (get_or old n None) ≡ true → get_or new n None ≡ get_or old n None)

pub is_seated : (files : List MemFile) (seats : List (Option Seat)) (n : ℕ) → is_some (get_or (map (seat_left files) seats) n None) ≡ true → is_some (get_or seats n None) ≡ true
is_seated files seats n seen = sym (seated files (get_or seats n None)) ∙ ap is_some (sym (left_of_seat files seats n)) ∙ seen

module _ (files : List MemFile) (old new : List (Option Seat)) where
  -- A file that was let alone is kept.
  pub keeps_seat : (n : ℕ) → get_or new n None ≡ get_or old n None → KeepsLeft (map (seat_left files) old) (map (seat_left files) new) n
  keeps_seat n same = let left = left_same files old new n same in (ap is_some left, λ was. left)

  pub closed_seat : (n : ℕ) → get_or new n None ≡ None → is_some (get_or (map (seat_left files) new) n None) ≡ false
  closed_seat n none = rw (left_of_seat files new n, none) refl

  pub opened_seat : (n : ℕ) → is_some (get_or new n None) ≡ true → is_some (get_or (map (seat_left files) new) n None) ≡ true
  opened_seat n now = rw (left_of_seat files new n, seated files (get_or new n None)) now
