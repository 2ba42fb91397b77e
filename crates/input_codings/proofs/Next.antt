-- The next line of what is left of a file.
use Rattle.std.proofs.Common.{◌≡◌, ℕ, zero, suc, ◌+◌, ◌-◌, ◌≤◌, ◌<◌, List, [], ◌∷◌, ◌++◌, length, take, drop, refl, sym, ap, ◌∙◌, subst, arith, add-zero, zero-add, length-take, true, false, nat_lt, Option, Some, None, Result, Ok, Err, ◌⊎◌, inl, inr, length-append}
use Rattle.std.proofs.lemmas.List.{append-nil}
use Rattle.std.proofs.lemmas.Bool.Decides.{nat_tests}
use Rattle.std.proofs.lemmas.Grind.{common_steps}
use Rattle.std.specs.Prelude.{slice_get}
use Rattle.ts_base.specs.Agreement.{AgreesFault, ◌>>=◌}
use Rattle.ts_base.proofs.Composing.{first_refuses}
use Rattle.jis_codes.specs.declared.Char.{Char}
use Rattle.input_codings.specs.declared.coding.Coding.{Coding}
use Rattle.input_codings.specs.declared.fault.LineFault.{LineFault}
use Rattle.input_codings.specs.declared.fault.LineFault.TheVariants as faults
use Rattle.input_codings.specs.Decoding.{decoded}
use Rattle.input_codings.specs.Pieces.{Piece, pieces, after_ten, text_of}
use Rattle.input_codings.specs.Lines.{Unread, characters, closed, line, line_of, first_of, next_line, past_lines, line_cause}
use Rattle.input_codings.specs.Reading.{before_ten}
use Rattle.input_codings.proofs.Ends.{IsFirst, first_in, before_more, before-le}

-- lines so far and what is left
abbrev pub left_after : Coding → ℕ → List ℕ → Unread
left_after coding n bytes = record { coding = coding; line_no = n; bytes = bytes }

pub next_none : (coding : Coding) (n : ℕ) (old new : List ℕ) → new ≡ old → new ≡ [] → next_line (left_after coding n old) ≡ Ok (None, left_after coding n new)
next_none coding n old new same none = rw (← same, none) refl

next_some : (coding : Coding) (n : ℕ) (bytes : List ℕ) (p : Piece) (ps : List Piece) → pieces bytes ≡ p ∷ ps → next_line (left_after coding n bytes) ≡ (characters coding (n + 1) p >>= (λ cs. Ok (Some cs, left_after coding (n + 1) (after_ten bytes))))
next_some coding n bytes p ps is = ap (first_of (left_after coding n bytes)) is

first_whole : (bytes : List ℕ) → 0 < length bytes → pieces bytes ≡ record { bytes = take (before_ten bytes) bytes; ended = nat_lt (before_ten bytes) (length bytes) } ∷ pieces (after_ten bytes)
first_whole bytes some = rw append-nil at (first_in bytes [] (λ _. refl) some).0

pub next_many : (coding : Coding) (n : ℕ) (old : List ℕ) → 0 < length old → 1000000 < n + 1 → next_line (left_after coding n old) ≡ Err faults.TooManyLines
next_many coding n old some many =
    let test : nat_lt 1000000 (n + 1) ≡ true = grind (arith, nat_tests) in
    next_some coding n old _ _ (first_whole old some) ∙ rw test refl

pub next_long : (coding : Coding) (n : ℕ) (old buffered rest : List ℕ) → old ≡ buffered ++ rest → n + 1 ≤ 1000000 → 65535 < before_ten buffered → next_line (left_after coding n old) ≡ Err faults.LineTooLong
next_long coding n old buffered rest is few long =
    let more : 65535 < before_ten old = rw is (omega (arith, before_more buffered rest)) in
    let most = before-le old in
    let test : nat_lt 1000000 (n + 1) ≡ false = grind (arith, nat_tests) in
    let size : length (take (before_ten old) old) ≡ before_ten old = grind (arith, common_steps) in
    let second : nat_lt 65535 (length (take (before_ten old) old)) ≡ true = rw size (grind (arith, nat_tests)) in
    next_some coding n old _ _ (first_whole old (omega arith)) ∙ rw (test, second) refl

pub next_found : (coding : Coding) (n count : ℕ) (old buffered rest : List ℕ) → old ≡ buffered ++ rest → n + 1 ≤ 1000000 → count ≡ before_ten buffered → count ≤ 65535 → (count ≡ length buffered → rest ≡ []) → 0 < length buffered
    → next_line (left_after coding n old) ≡ (closed (decoded coding (text_of (nat_lt count (length buffered)) (take count buffered))) >>= (λ cs. Ok (Some cs, left_after coding (n + 1) (drop (count + 1) buffered ++ rest))))
next_found coding n count old buffered rest is few at short whole some =
    let P : ℕ → Type 0 = λ k. IsFirst buffered rest k in
    let first = subst P (sym at) (first_in buffered rest (λ e. whole (at ∙ e)) some) in
    let test : nat_lt 1000000 (n + 1) ≡ false = grind (arith, nat_tests) in
    let size : length (take count buffered) ≤ 65535 = omega (arith, length-take count buffered) in
    let second : nat_lt 65535 (length (take count buffered)) ≡ false = grind (arith, nat_tests) in
    ap (λ (bytes : List ℕ). next_line (left_after coding n bytes)) is ∙ next_some coding n (buffered ++ rest) _ _ first.0 ∙ rw (test, second, first.1) refl

pub past_one : (bytes : List ℕ) (n : ℕ) → slice_get (pieces bytes) (suc n) ≡ slice_get (pieces (after_ten bytes)) n
past_one [] n = refl
past_one (b ∷ bs) n = rw (first_whole (b ∷ bs) (omega arith)) refl

past_many : (bytes : List ℕ) (n k : ℕ) → slice_get (pieces (past_lines n bytes)) k ≡ slice_get (pieces bytes) (k + n)
past_many bytes zero k = rw add-zero refl
past_many bytes (suc n) k =
    let place : suc k + n ≡ k + suc n = omega arith in
    sym (past_one (past_lines n bytes) k) ∙ past_many bytes n (suc k) ∙ ap (slice_get (pieces bytes)) place

-- a line, and what is left after it
abbrev with_rest : Unread → List Char → Result (Option (List Char) × Unread) LineFault
with_rest u cs = Ok (Some cs, u)

-- a line alone
abbrev alone : Option (List Char) × Unread → Result (Option (List Char)) LineFault
alone next = Ok next.0

first_answer : (r : Result (List Char) LineFault) (u : Unread) → ((r >>= with_rest u) >>= alone) ≡ (r >>= (λ cs. Ok (Some cs)))
first_answer (Ok cs) u = refl
first_answer (Err e) u = refl

first_among : (u : Unread) (ps : List Piece) → (first_of u ps >>= alone) ≡ line_of u.coding (u.line_no + 1) (slice_get ps 0)
first_among u [] = refl
first_among u (p ∷ ps) = first_answer (characters u.coding (u.line_no + 1) p) _

first_is : (coding : Coding) (n : ℕ) (bytes : List ℕ) → (next_line (left_after coding n bytes) >>= alone) ≡ line_of coding (n + 1) (slice_get (pieces bytes) 0)
first_is coding n bytes = first_among (left_after coding n bytes) (pieces bytes)

pub lines_are : (coding : Coding) (n : ℕ) (bytes : List ℕ) → (next_line (left_after coding n (past_lines n bytes)) >>= alone) ≡ line coding (n + 1) bytes
lines_are coding n bytes =
    let same : (n + 1) - 1 ≡ n = omega arith in
    first_is coding n (past_lines n bytes) ∙ ap (line_of coding (n + 1)) (past_many bytes n 0 ∙ ap (slice_get (pieces bytes)) (zero-add n ∙ sym same))

-- a line that is there, from what was read and what stands after it
pub answers_line : (coding : Coding) (n count : ℕ) (old buffered rest : List ℕ) (cs : List Char) → old ≡ buffered ++ rest → n + 1 ≤ 1000000 → count ≡ before_ten buffered → count ≤ 65535 → (count ≡ length buffered → rest ≡ []) → 0 < length buffered
    → closed (decoded coding (text_of (nat_lt count (length buffered)) (take count buffered))) ≡ Ok cs
    → next_line (left_after coding n old) ≡ Ok (Some cs, left_after coding (n + 1) (drop (count + 1) buffered ++ rest))
answers_line coding n count old buffered rest cs is few at short whole some gave = next_found coding n count old buffered rest is few at short whole some ∙ rw gave refl

-- a fault in a line
pub answers_fault : (coding : Coding) (n count : ℕ) (old buffered rest : List ℕ) (e : LineFault) → old ≡ buffered ++ rest → n + 1 ≤ 1000000 → count ≡ before_ten buffered → count ≤ 65535 → (count ≡ length buffered → rest ≡ []) → 0 < length buffered
    → AgreesFault (line_cause e) e (closed (decoded coding (text_of (nat_lt count (length buffered)) (take count buffered))))
    → AgreesFault (line_cause e) e (next_line (left_after coding n old))
answers_fault coding n count old buffered rest e is few at short whole some gave =
    rw (next_found coding n count old buffered rest is few at short whole some) (first_refuses (line_cause e) e _ _ gave)

pub some_left : (old buffered rest : List ℕ) → buffered ++ rest ≡ old → 0 < length buffered → 0 < length old
some_left old buffered rest is some = rw (← is, length-append) (omega arith)

-- a fault in looking for the end of a line
abbrev pub AnEndFault : LineFault → Type 0
AnEndFault e = (◌≡◌ {A = Result ℕ LineFault} (Err e) (Err faults.ReadFault)) ⊎ (◌≡◌ {A = Result ℕ LineFault} (Err e) (Err faults.LineTooLong))

pub answers_end : (e : LineFault) (given : Result (Option (List Char) × Unread) LineFault) → AnEndFault e
    → (e ≡ faults.LineTooLong → given ≡ Err faults.LineTooLong) → AgreesFault (line_cause e) e given
answers_end e given (inl read) long = let is : e ≡ faults.ReadFault = cc in rw is tt
answers_end e given (inr too_long) long = let is : e ≡ faults.LineTooLong = cc in let gave = long is in rw is gave
