-- The bytes before the first byte 10, and the first of the pieces.
use Rattle.std.proofs.Common.{◌≡◌, ◌≢◌, ℕ, suc, ◌+◌, ◌≤◌, ◌<◌, List, [], ◌∷◌, ◌++◌, length, take, drop, get_or, refl, sym, ap, ◌∙◌, arith, add-one, Bool, true, false, nat_lt, cond, not, eqb, lit≤}
use Rattle.std.proofs.lemmas.List.{take-append-drop, drop_more}
use Rattle.std.proofs.lemmas.List.Folds.{prefix_len-append}
use Rattle.std.proofs.lemmas.Bool.{eq-eqb}
use Rattle.std.proofs.lemmas.Bool.Decides.{nat_tests}
use Rattle.std.specs.Prelude.{◌==◌, if◌then◌else◌}
use Prim.Native.Nat.compare
use lib.Dec.{is_le}
use Rattle.input_codings.specs.Reading.{before_ten}
use Rattle.input_codings.specs.Pieces.{pieces, byte_then, after_ten}

pub before-ten : (xs : List ℕ) (i : ℕ) → i < length xs → get_or xs i 0 ≡ 10 → before_ten (drop i xs) ≡ 0
before-ten xs i h is = rw (drop_more xs i 0 h, is) refl

pub before-other : (xs : List ℕ) (i : ℕ) → i < length xs → get_or xs i 0 ≢ 10 → before_ten (drop i xs) ≡ 1 + before_ten (drop (i + 1) xs)
before-other xs i h other =
    let no : (get_or xs i 0 == 10) ≡ false = grind (arith, nat_tests) in
    rw (drop_more xs i 0 h, no) refl

before-append : (xs ys : List ℕ) → before_ten (xs ++ ys) ≡ cond (eqb (before_ten xs) (length xs)) (length xs + before_ten ys) (before_ten xs)
before-append xs ys = prefix_len-append (λ b. not (b == 10)) xs ys

pub before-le : (xs : List ℕ) → before_ten xs ≤ length xs
before-le [] = lit≤ tt
before-le (b ∷ bs) = at (b == 10) (before_ten bs) (length bs) (before-le bs)
  where
    at : (t : Bool) (m n : ℕ) → m ≤ n → cond (not t) (1 + m) 0 ≤ suc n
    at true m n le = omega arith
    at false m n le = omega arith

pub before_more : (xs ys : List ℕ) → before_ten xs ≤ before_ten (xs ++ ys)
before_more xs ys = let e = before-append xs ys in let le = before-le xs in grind (arith, nat_tests)

pub scanned_more : (old new : List ℕ) → take (length old) new ≡ old → before_ten old ≡ length old → before_ten new ≡ length old + before_ten (drop (length old) new)
scanned_more old new same all =
    let rest : List ℕ = drop (length old) new in
    let split : new ≡ old ++ rest = sym (take-append-drop (length old) new) ∙ ap (λ (ys : List ℕ). ys ++ rest) same in
    ap before_ten split ∙ before-append old rest ∙ ap (λ (t : Bool). cond t (length old + before_ten rest) (before_ten old)) (eq-eqb (before_ten old) (length old) all)

-- the first piece of bytes of which the first are these, up to a byte 10 or the end
abbrev pub IsFirst : List ℕ → List ℕ → ℕ → Type 0
IsFirst buffered rest n =
    (pieces (buffered ++ rest) ≡ record { bytes = take n buffered; ended = nat_lt n (length buffered) } ∷ pieces (after_ten (buffered ++ rest)))
    × (after_ten (buffered ++ rest) ≡ drop (n + 1) buffered ++ rest)

-- the same by whether the first byte is a byte 10
first_by : (t : Bool) (b : ℕ) (bs rest : List ℕ) (q : ℕ) → q ≡ cond (not t) (1 + before_ten bs) 0 → (q ≡ suc (length bs) → rest ≡ [])
    → ((before_ten bs ≡ length bs → rest ≡ []) → 0 < length bs → IsFirst bs rest (before_ten bs))
    → ((if t then record { bytes = []; ended = true } ∷ pieces (bs ++ rest) else byte_then b (pieces (bs ++ rest)))
    ≡ record { bytes = take q (b ∷ bs); ended = nat_lt q (suc (length bs)) } ∷ pieces (if t then bs ++ rest else after_ten (bs ++ rest)))
    × ((if t then bs ++ rest else after_ten (bs ++ rest)) ≡ drop (q + 1) (b ∷ bs) ++ rest)
first_by true b bs rest q is whole later =
    let yes : nat_lt 0 (suc (length bs)) ≡ true = grind (arith, nat_tests) in
    rw is (rw yes refl, refl)
first_by false b [] rest q is whole later =
    let one : q ≡ 1 = is in
    rw (whole one, one) (refl, refl)
first_by false b (c ∷ cs) rest q is whole later =
    let next : q ≡ suc (before_ten (c ∷ cs)) = omega arith in
    let first = later (λ e. whole (next ∙ ap suc e)) (omega arith) in
    let more : nat_lt (suc (before_ten (c ∷ cs))) (suc (suc (length cs))) ≡ nat_lt (before_ten (c ∷ cs)) (suc (length cs)) = ap is_le (compare.suc-suc (suc (before_ten (c ∷ cs))) (suc (length cs))) in
    let after = rw add-one at first.1 in
    rw (next, add-one) (rw (first.0, more) refl, after)

pub first_in : (bs rest : List ℕ) → (before_ten bs ≡ length bs → rest ≡ []) → 0 < length bs → IsFirst bs rest (before_ten bs)
first_in [] rest whole some = absurd (omega arith)
first_in (b ∷ bs) rest whole some = first_by (b == 10) b bs rest (before_ten (b ∷ bs)) refl whole (first_in bs rest)

pub ruleset before_steps = (before-ten, before-other)
