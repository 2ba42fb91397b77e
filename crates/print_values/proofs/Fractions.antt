-- A fraction has at most five digits.
use Rattle.std.proofs.Common.{◌≡◌, ℕ, zero, suc, ◌+◌, ◌*◌, ◌/◌, ◌%◌, ◌<◌, ◌≤◌, ◌-◌, List, [], ◌∷◌, ◌++◌, append_assoc, append-nil, subst, false, nat_le, true, cond, sym, ◌∙◌, ap, arith, mod-lt}
use Rattle.std.proofs.lemmas.Bool.{le-leb, lt-leb}
use Rattle.print_values.specs.Laws.{FractionsEnd}
use Rattle.print_values.specs.Texts.{fraction_digits, nearest, next_rest, or_stop}

-- after the fifth digit too little is left
stopped : (rest : ℕ) (later : List ℕ) → or_stop (next_rest rest 100000) 1000000 later ≡ []
stopped rest later =
    let small : nearest rest 100000 % 65536 < 65536 = mod-lt (nearest rest 100000) (omega arith) in
    let t : nat_le (next_rest rest 100000) 1000000 ≡ true = le-leb (next_rest rest 100000) 1000000 (omega (arith, small)) in
    ap (λ b. cond b [] later) t

last : (n rest : ℕ) → fraction_digits (suc n) rest 100000 ≡ fraction_digits 1 rest 100000
unfolding fraction_digits
last n rest = ap (λ ys. (48 + nearest rest 100000 / 65536) ∷ ys) (stopped rest _ ∙ sym (stopped rest _))

more : (m n rest scale : ℕ) → ((r : ℕ) → fraction_digits m r (10 * scale) ≡ fraction_digits n r (10 * scale)) → fraction_digits (suc m) rest scale ≡ fraction_digits (suc n) rest scale
unfolding fraction_digits
more m n rest scale h = ap (λ ys. (48 + nearest rest scale / 65536) ∷ or_stop (next_rest rest scale) (10 * scale) ys) (h (next_rest rest scale))

pub fractions_end : FractionsEnd
fractions_end zero part h k = absurd (omega (arith, k))
fractions_end (suc zero) part h k = absurd (omega (arith, k))
fractions_end (suc (suc zero)) part h k = absurd (omega (arith, k))
fractions_end (suc (suc (suc zero))) part h k = absurd (omega (arith, k))
fractions_end (suc (suc (suc (suc zero)))) part h k = absurd (omega (arith, k))
fractions_end (suc (suc (suc (suc (suc n))))) part h k =
    more (suc (suc (suc (suc n)))) 4 (10 * part + 5) 10 (λ a. more (suc (suc (suc n))) 3 a 100 (λ b. more (suc (suc n)) 2 b 1000 (λ c. more (suc n) 1 c 10000 (λ d. last n d))))

-- ---- a digit more

stop_here : (rest scale : ℕ) (later : List ℕ) → rest ≤ scale → or_stop rest scale later ≡ []
stop_here rest scale later h = let t : nat_le rest scale ≡ true = le-leb rest scale h in ap (λ b. cond b [] later) t

go_on : (rest scale : ℕ) (later : List ℕ) → scale < rest → or_stop rest scale later ≡ later
go_on rest scale later h = let t : nat_le rest scale ≡ false = lt-leb rest scale h in ap (λ b. cond b [] later) t

digit_is : (k rest scale : ℕ) → k < 5 → fraction_digits (5 - k) rest scale ≡ (48 + nearest rest scale / 65536) ∷ or_stop (next_rest rest scale) (10 * scale) (fraction_digits (5 - (k + 1)) (next_rest rest scale) (10 * scale))
unfolding fraction_digits
digit_is k rest scale h = let e : 5 - k ≡ suc (5 - (k + 1)) = omega (arith, h) in ap (λ n. fraction_digits n rest scale) e

pub last_digit : (text all : List ℕ) (k rest scale near : ℕ) → k < 5 → near ≡ nearest rest scale → text ++ fraction_digits (5 - k) rest scale ≡ all → 10 * (near % 65536) ≤ 10 * scale → text ++ (48 + near / 65536) ∷ [] ≡ all
last_digit text all k rest scale near h e same stop =
    let few : next_rest rest scale ≤ 10 * scale = subst (λ m. 10 * (m % 65536) ≤ 10 * scale) e stop in
    ap (λ m. text ++ (48 + m / 65536) ∷ []) e
    ∙ ap (λ later. text ++ (48 + nearest rest scale / 65536) ∷ later) (sym (stop_here (next_rest rest scale) (10 * scale) _ few))
    ∙ ap (λ digits. text ++ digits) (sym (digit_is k rest scale h))
    ∙ same

pub digit_more : (text all : List ℕ) (k rest scale near : ℕ) → k < 5 → near ≡ nearest rest scale → text ++ fraction_digits (5 - k) rest scale ≡ all → 10 * scale < 10 * (near % 65536) → (text ++ (48 + near / 65536) ∷ []) ++ fraction_digits (5 - (k + 1)) (10 * (near % 65536)) (10 * scale) ≡ all
digit_more text all k rest scale near h e same on =
    let far : 10 * scale < next_rest rest scale = subst (λ m. 10 * scale < 10 * (m % 65536)) e on in
    append_assoc text _ _
    ∙ ap (λ m. text ++ (48 + m / 65536) ∷ fraction_digits (5 - (k + 1)) (10 * (m % 65536)) (10 * scale)) e
    ∙ ap (λ later. text ++ (48 + nearest rest scale / 65536) ∷ later) (sym (go_on (next_rest rest scale) (10 * scale) _ far))
    ∙ ap (λ digits. text ++ digits) (sym (digit_is k rest scale h))
    ∙ same

pub no_digit : (text all : List ℕ) (k rest scale : ℕ) → 5 ≤ k → text ++ fraction_digits (5 - k) rest scale ≡ all → text ≡ all
unfolding fraction_digits
no_digit text all k rest scale h same =
    let e : 5 - k ≡ 0 = omega (arith, h) in
    sym (append-nil text) ∙ ap (λ n. text ++ fraction_digits n rest scale) (sym e) ∙ same

pub left_over : (n : ℕ) → n % 65536 < 65536
left_over n = mod-lt n (omega arith)
