-- How much of a delimiter ends a text, token by token.
use Rattle.std.proofs.Common.{◌≡◌, ◌≢◌, ◌⊎◌, inl, inr, ℕ, zero, suc, ◌+◌, ◌-◌, ◌<◌, ◌≤◌, Bool, true, false, List, [], ◌∷◌, ◌++◌, length, take, drop, get_or, refl, sym, ap, ◌∙◌, subst, arith, cond, nat_le, length-append, append_assoc, eq-eqb}
use Rattle.std.specs.Prelude.{◌&&◌, ◌||◌, ◌==◌}
use Rattle.std.proofs.lemmas.Bool.{eqb-true, eqb-false, leb-true, leb-false}
use Rattle.std.proofs.lemmas.List.{take-append-le, drop-append-le, drop-drop, drop-take, take-append-drop, take-take, length-take-le, length-drop}
use Rattle.std.proofs.lemmas.List.Folds.{list_any-append}
use Rattle.std.proofs.Math.Seq.{take-suc, take-append-add, take-length, take-append_seam, drop-append_seam}
use Rattle.tok_lists.specs.declared.token.Token.{Token}
use Rattle.tok_lists.specs.declared.token.Token.TheVariants.{Char, Ja, Name, Kept, Param}
use Rattle.raw_texts.specs.Kinds.{brace_of, is_par}
use Rattle.macros.specs.Same.{is_same, are_same}
use Rattle.macros.specs.Matching.{after_brace, depth_from, depth, front, back, fits, matched_to, matched, argument, has_par, is_ended}
use Rattle.macros.specs.Borders.{is_border, next_to, next_match, AreNoBraces, IsDelimiter}

-- ---- equal tokens

both : (a b : Bool) → (a && b) ≡ true → (a ≡ true) × (b ≡ true)
both true b h = (refl, h)
both false b h = absurd cc

two_true : (a b : Bool) → a ≡ true → b ≡ true → (a && b) ≡ true
two_true true b h g = g
two_true false b h g = absurd cc

swapped : (a b c : Bool) → ((a && b) && c) ≡ ((a && c) && b)
swapped true true c = elim c as (λ c. (true && c) ≡ (c && true)) [ true ↦ refl | false ↦ refl ]
swapped true false true = refl
swapped true false false = refl
swapped false b c = refl

equal : (a b : Token) → is_same a b ≡ true → a ≡ b
equal (Char c k) (Char d l) h = let two = both (c == d) (k == l) h in let e : c ≡ d = eqb-true c d two.0 in let f : k ≡ l = eqb-true k l two.1 in cc
equal (Char c k) (Ja d) h = absurd cc
equal (Char c k) (Name d) h = absurd cc
equal (Char c k) (Kept d) h = absurd cc
equal (Char c k) (Param d) h = absurd cc
equal (Ja c) (Char d l) h = absurd cc
equal (Ja c) (Ja d) h = let two = both (c.row == d.row) (c.cell == d.cell) h in
    let e : c.row ≡ d.row = eqb-true c.row d.row two.0 in let f : c.cell ≡ d.cell = eqb-true c.cell d.cell two.1 in
    λ i. Ja (record { row = e i; cell = f i })
equal (Ja c) (Name d) h = absurd cc
equal (Ja c) (Kept d) h = absurd cc
equal (Ja c) (Param d) h = absurd cc
equal (Name c) (Char d l) h = absurd cc
equal (Name c) (Ja d) h = absurd cc
equal (Name c) (Name d) h = let e : c.0 ≡ d.0 = eqb-true c.0 d.0 h in λ i. Name (record { 0 = e i })
equal (Name c) (Kept d) h = absurd cc
equal (Name c) (Param d) h = absurd cc
equal (Kept c) (Char d l) h = absurd cc
equal (Kept c) (Ja d) h = absurd cc
equal (Kept c) (Name d) h = absurd cc
equal (Kept c) (Kept d) h = let e : c.0 ≡ d.0 = eqb-true c.0 d.0 h in λ i. Kept (record { 0 = e i })
equal (Kept c) (Param d) h = absurd cc
equal (Param c) (Char d l) h = absurd cc
equal (Param c) (Ja d) h = absurd cc
equal (Param c) (Name d) h = absurd cc
equal (Param c) (Kept d) h = absurd cc
equal (Param c) (Param d) h = let e : c ≡ d = eqb-true c d h in cc

all_equal : (a b : List Token) → are_same a b ≡ true → a ≡ b
all_equal [] [] h = refl
all_equal [] (y ∷ b) h = absurd cc
all_equal (x ∷ a) [] h = absurd cc
all_equal (x ∷ a) (y ∷ b) h = let two = both (is_same x y) (are_same a b) h in let e = equal x y two.0 in let f = all_equal a b two.1 in cc

none_last : (b : List Token) (y : Token) → are_same [] (b ++ y ∷ []) ≡ false
none_last [] y = refl
none_last (x ∷ b) y = refl

last_none : (a : List Token) (x : Token) → are_same (a ++ x ∷ []) [] ≡ false
last_none [] x = refl
last_none (y ∷ a) x = refl

and_false : (a : Bool) → (a && false) ≡ false
and_false true = refl
and_false false = refl

and_true : (a : Bool) → (a && true) ≡ a
and_true true = refl
and_true false = refl

and_assoc : (a b c : Bool) → ((a && b) && c) ≡ (a && (b && c))
and_assoc true b c = refl
and_assoc false b c = refl

same_last : (a b : List Token) (x y : Token) → are_same (a ++ x ∷ []) (b ++ y ∷ []) ≡ (are_same a b && is_same x y)
same_last [] [] x y = and_true (is_same x y)
same_last [] (z ∷ b) x y = ap (λ r. is_same x z && r) (none_last b y) ∙ and_false (is_same x z)
same_last (z ∷ a) [] x y = ap (λ r. is_same z y && r) (last_none a x) ∙ and_false (is_same z y)
same_last (z ∷ a) (w ∷ b) x y = ap (λ r. is_same z w && r) (same_last a b x y) ∙ sym (and_assoc (is_same z w) (are_same a b) (is_same x y))

-- ---- open groups

depth_append : (n : ℕ) (a b : List Token) → depth_from n (a ++ b) ≡ depth_from (depth_from n a) b
depth_append n [] b = refl
depth_append n (t ∷ a) b = depth_append (after_brace n (brace_of t)) a b

pub depth_last : (text : List Token) (t : Token) → depth (text ++ t ∷ []) ≡ after_brace (depth text) (brace_of t)
depth_last text t = depth_append 0 text (t ∷ [])

depth_plain : (n : ℕ) (a : List Token) → AreNoBraces a → depth_from n a ≡ n
depth_plain n [] h = refl
depth_plain n (t ∷ a) h = ap (λ b. depth_from (after_brace n b) a) h.0 ∙ depth_plain n a h.1

plain_take : (k : ℕ) (a : List Token) → AreNoBraces a → AreNoBraces (take k a)
plain_take zero a h = tt
plain_take (suc k) [] h = tt
plain_take (suc k) (t ∷ a) h = (h.0, plain_take k a h.1)

plain_within : (d : List Token) (k : ℕ) → IsDelimiter d → k < length d → AreNoBraces (take k d)
plain_within d k is within =
    let fewer : k ≤ length d - 1 = omega arith in
    subst AreNoBraces (take-take k (length d - 1) d fewer) (plain_take k (take (length d - 1) d) is.braces)

-- ---- one more token

back_more : (k : ℕ) (text : List Token) (t : Token) → back (suc k) (text ++ t ∷ []) ≡ back k text ++ t ∷ []
back_more k text t =
    let fewer : length text - k ≤ length text = omega arith in
    let many : length (text ++ t ∷ []) - suc k ≡ length text - k = omega (arith, length-append text (t ∷ [])) in
    ap (λ n. drop n (text ++ t ∷ [])) many ∙ drop-append-le (length text - k) text (t ∷ []) fewer

front_more : (k : ℕ) (text : List Token) (t : Token) → front (suc k) (text ++ t ∷ []) ≡ front k text
front_more k text t =
    let fewer : length text - k ≤ length text = omega arith in
    let many : length (text ++ t ∷ []) - suc k ≡ length text - k = omega (arith, length-append text (t ∷ [])) in
    ap (λ n. take n (text ++ t ∷ [])) many ∙ take-append-le (length text - k) text (t ∷ []) fewer

fits_more : (d text : List Token) (t : Token) (k : ℕ) → k < length d → fits d (text ++ t ∷ []) (suc k) ≡ (fits d text k && is_same t (get_or d k t))
fits_more d text t k within =
    rw (back_more k text t, front_more k text t, take-suc d k t within, same_last (back k text) (take k d) t (get_or d k t))
    (swapped (are_same (back k text) (take k d)) (is_same t (get_or d k t)) (depth (front k text) == 0))

-- ---- as many as can

chosen_most : (b : Bool) (n m : ℕ) → m ≤ n → cond b (suc n) m ≤ suc n
chosen_most true n m h = omega arith
chosen_most false n m h = omega arith

pub matched_most : (n : ℕ) (d text : List Token) → matched_to n d text ≤ n
matched_most zero d text = omega arith
matched_most (suc n) d text = chosen_most (fits d text (suc n)) n (matched_to n d text) (matched_most n d text)

Fits : List Token → List Token → ℕ → Type 0
Fits d text n = (n ≡ 0) ⊎ (fits d text n ≡ true)

chosen_fits : (d text : List Token) (n m : ℕ) (b : Bool) → fits d text (suc n) ≡ b → Fits d text m → Fits d text (cond b (suc n) m)
unfolding Fits
chosen_fits d text n m true is other = inr is
chosen_fits d text n m false is other = other

matched_fits : (n : ℕ) (d text : List Token) → Fits d text (matched_to n d text)
unfolding Fits
matched_fits zero d text = inl refl
matched_fits (suc n) d text = chosen_fits d text n (matched_to n d text) (fits d text (suc n)) refl (matched_fits n d text)

chosen_not : (d text : List Token) (n m k : ℕ) (b : Bool) → fits d text (suc n) ≡ b → (m < k → k ≤ n → fits d text k ≡ false) → cond b (suc n) m < k → k ≤ suc n → fits d text k ≡ false
chosen_not d text n m k true is other more most = absurd (omega arith)
chosen_not d text n m k false is other more most = at (k == suc n) refl
  where
    at : (c : Bool) → (k == suc n) ≡ c → fits d text k ≡ false
    at true same = let e : k ≡ suc n = eqb-true k (suc n) same in rw e is
    at false differs = let e : k ≢ suc n = eqb-false k (suc n) differs in other more (omega arith)

matched_not : (n : ℕ) (d text : List Token) (k : ℕ) → matched_to n d text < k → k ≤ n → fits d text k ≡ false
matched_not zero d text k more most = absurd (omega arith)
matched_not (suc n) d text k more most = chosen_not d text n (matched_to n d text) k (fits d text (suc n)) refl (matched_not n d text k) more most

-- what of the delimiter ends the text is as it stands there
pub matched_back : (d text : List Token) → back (matched d text) text ≡ take (matched d text) d
unfolding Fits
matched_back d text = elim (matched_fits (length d) d text) [
  | inl none ↦ rw none (drop_all text)
  | inr fit ↦ all_equal (back (matched d text) text) (take (matched d text) d) (both (are_same (back (matched d text) text) (take (matched d text) d)) (depth (front (matched d text) text) == 0) fit).0
]
  where
    drop_length : (l : List Token) → drop (length l) l ≡ []
    drop_length [] = refl
    drop_length (t ∷ l) = drop_length l

    drop_all : (l : List Token) → drop (length l - 0) l ≡ []
    drop_all l = let all : length l - 0 ≡ length l = omega arith in ap (λ n. drop n l) all ∙ drop_length l

-- ---- what ends the text after one more token

module _ (d text : List Token) (t : Token) where
  more_to : (b c : Bool) (k m : ℕ) → b ≡ c → cond b (suc k) m ≡ cond c (suc k) m
  more_to b c k m same = ap (λ b. cond b (suc k) m) same

  descend : (low : ℕ) → ((k : ℕ) → low ≤ k → k < length d → fits d text k ≡ false) → (j : ℕ) → low ≤ j → j ≤ length d
      → matched_to j d (text ++ t ∷ []) ≡ matched_to low d (text ++ t ∷ [])
  descend low none zero least most = let e : low ≡ 0 = omega arith in ap (λ n. matched_to n d (text ++ t ∷ [])) (sym e)
  descend low none (suc j) least most = at (low == suc j) refl (descend low none j)
    where
      at : (c : Bool) → (low == suc j) ≡ c → (low ≤ j → j ≤ length d → matched_to j d (text ++ t ∷ []) ≡ matched_to low d (text ++ t ∷ []))
          → matched_to (suc j) d (text ++ t ∷ []) ≡ matched_to low d (text ++ t ∷ [])
      at true same further = let e : low ≡ suc j = eqb-true low (suc j) same in ap (λ n. matched_to n d (text ++ t ∷ [])) (sym e)
      at false differs further =
          let e : low ≢ suc j = eqb-false low (suc j) differs in
          let within : j < length d = omega arith in
          let misfit = fits_more d text t j within ∙ ap (λ b. b && is_same t (get_or d j t)) (none j (omega arith) within) in
          more_to (fits d (text ++ t ∷ []) (suc j)) false j (matched_to j d (text ++ t ∷ [])) misfit ∙ further (omega arith) (omega arith)

  meets : (n : ℕ) → ((k : ℕ) → k ≤ n → k < length d → fits d text k ≡ is_border d n k) → (j : ℕ) → j ≤ suc n → j ≤ length d
      → matched_to j d (text ++ t ∷ []) ≡ next_to d n t j
  meets n same zero least most = refl
  meets n same (suc j) least most =
      let within : j < length d = omega arith in
      let test = fits_more d text t j within ∙ ap (λ b. b && is_same t (get_or d j t)) (same j (omega arith) within) in
      more_to (fits d (text ++ t ∷ []) (suc j)) (is_border d n j && is_same t (get_or d j t)) j (matched_to j d (text ++ t ∷ [])) test
      ∙ ap (λ m. cond (is_border d n j && is_same t (get_or d j t)) (suc j) m) (meets n same j (omega arith) (omega arith))

-- the last tokens of a text, few of the many
back_back : (few many : ℕ) (text : List Token) → few ≤ many → many ≤ length text → back few (back many text) ≡ back few text
back_back few many text fewer most =
    let size : length (back many text) ≡ many = length-drop (length text - many) text ∙ omega arith in
    let place : (length text - many) + (length (back many text) - few) ≡ length text - few = omega (arith, size) in
    drop-drop (length (back many text) - few) (length text - many) text ∙ ap (λ n. drop n text) place

pub matched_within : (d text : List Token) → matched d text ≤ length text
matched_within d text =
    let most = matched_most (length d) d text in
    let sizes : length (back (matched d text) text) ≡ length (take (matched d text) d) = ap length (matched_back d text) in
    let left : length (take (matched d text) d) ≡ matched d text = length-take-le (matched d text) d most in
    let right : length (back (matched d text) text) ≡ length text - (length text - matched d text) = length-drop (length text - matched d text) text in
    omega (arith, sizes, left, right)

-- Where what ends the text has no brace, as many groups are open before it as after it.
depth_front : (k : ℕ) (text list : List Token) → back k text ≡ list → AreNoBraces list → depth (front k text) ≡ depth text
depth_front k text list same plain =
    sym (depth_plain (depth (front k text)) list plain)
    ∙ ap (λ l. depth_from (depth (front k text)) l) (sym same)
    ∙ sym (depth_append 0 (front k text) (back k text))
    ∙ ap depth (take-append-drop (length text - k) text)

zero_test : (n : ℕ) → n ≡ 0 → (n == 0) ≡ true
zero_test n h = rw h refl

zero_is : (n : ℕ) → (n == 0) ≡ true → n ≡ 0
zero_is n h = eqb-true n 0 h

border : (d text : List Token) → IsDelimiter d → depth text ≡ 0 → (k : ℕ) → k ≤ matched d text → k < length d → fits d text k ≡ is_border d (matched d text) k
border d text is closed k fewer within =
    let n = matched d text in
    let same : back k text ≡ back k (take n d) = sym (back_back k n text fewer (matched_within d text)) ∙ ap (back k) (matched_back d text) in
    at (are_same (back k text) (take k d)) refl ∙ ap (λ l. are_same l (take k d)) same
  where
    at : (b : Bool) → are_same (back k text) (take k d) ≡ b → (are_same (back k text) (take k d) && (depth (front k text) == 0)) ≡ are_same (back k text) (take k d)
    at true h =
        let e = all_equal (back k text) (take k d) h in
        let none = depth_front k text (take k d) e (plain_within d k is within) ∙ closed in
        ap (λ b. are_same (back k text) (take k d) && b) (zero_test (depth (front k text)) none) ∙ and_true (are_same (back k text) (take k d))
    at false h = ap (λ b. b && (depth (front k text) == 0)) h ∙ sym h

inside : (d text : List Token) → IsDelimiter d → 0 < depth text → (k : ℕ) → k < length d → fits d text k ≡ false
inside d text is opened k within = at (fits d text k) refl
  where
    at : (b : Bool) → fits d text k ≡ b → fits d text k ≡ false
    at false h = h
    at true h =
        let two = both (are_same (back k text) (take k d)) (depth (front k text) == 0) h in
        let e = all_equal (back k text) (take k d) two.0 in
        let same = depth_front k text (take k d) e (plain_within d k is within) in
        let none = zero_is (depth (front k text)) two.1 in
        absurd (omega (arith, same, none))

pub next_most : (d : List Token) (n : ℕ) (t : Token) (j : ℕ) → next_to d n t j ≤ j
next_most d n t zero = omega arith
next_most d n t (suc j) = chosen_most (is_border d n j && is_same t (get_or d j t)) j (next_to d n t j) (next_most d n t j)

-- Where no group is open, what the delimiter itself tells.
pub next_outside : (d text : List Token) (t : Token) → IsDelimiter d → depth text ≡ 0 → matched d text < length d → matched d (text ++ t ∷ []) ≡ next_match d (matched d text) t
next_outside d text t is closed within =
    descend d text t (suc (matched d text)) (λ k least most. matched_not (length d) d text k (omega arith) (omega arith)) (length d) (omega arith) (omega arith)
    ∙ meets d text t (matched d text) (border d text is closed) (suc (matched d text)) (omega arith) (omega arith)

-- Inside a group nothing of it does.
pub next_inside : (d text : List Token) (t : Token) → IsDelimiter d → 0 < depth text → matched d (text ++ t ∷ []) ≡ 0
next_inside d text t is opened = descend d text t 0 (λ k least most. inside d text is opened k most) (length d) (omega arith) (omega arith)

-- ---- what becomes certain of the argument

front_after : (d text : List Token) (t : Token) (m : ℕ) → m ≤ suc (matched d text)
    → front m (text ++ t ∷ []) ≡ argument d text ++ take (suc (matched d text) - m) (take (matched d text) d ++ t ∷ [])
front_after d text t m most =
    let n = matched d text in
    let within = matched_within d text in
    let whole : text ++ t ∷ [] ≡ argument d text ++ (take n d ++ t ∷ []) =
    ap (λ l. l ++ t ∷ []) (sym (take-append-drop (length text - n) text)) ∙ append_assoc (front n text) (back n text) (t ∷ [])
    ∙ ap (λ l. front n text ++ (l ++ t ∷ [])) (matched_back d text) in
    let size : length (argument d text) ≡ length text - n = length-take-le (length text - n) text (omega arith) in
    let many : length (text ++ t ∷ []) - m ≡ length (argument d text) + (suc n - m) = omega (arith, length-append text (t ∷ []), size, within) in
    ap (λ k. take k (text ++ t ∷ [])) many ∙ ap (λ l. take (length (argument d text) + (suc n - m)) l) whole
    ∙ take-append-add (argument d text) (take n d ++ t ∷ []) (suc n - m)

pub par_more : (d text : List Token) (t : Token) (m : ℕ) → m ≤ suc (matched d text)
    → has_par (front m (text ++ t ∷ [])) ≡ (has_par (argument d text) || has_par (take (suc (matched d text) - m) (take (matched d text) d ++ t ∷ [])))
par_more d text t m most =
    ap has_par (front_after d text t m most) ∙ list_any-append is_par (argument d text) (take (suc (matched d text) - m) (take (matched d text) d ++ t ∷ []))

-- ---- slices of a delimiter

pub border_slice : (d : List Token) (many few : ℕ) → few ≤ many → many ≤ length d → take (many - (many - few)) (drop (many - few) d) ≡ back few (take many d)
border_slice d many few fewer most =
    let one : many - (many - few) ≡ few = omega arith in
    let two : (many - few) + few ≡ many = omega arith in
    let three : many - few ≡ length (take many d) - few = ap (λ n. n - few) (sym (length-take-le many d most)) in
    ap (λ n. take n (drop (many - few) d)) one ∙ sym (drop-take (many - few) few d)
    ∙ ap (λ n. drop (many - few) (take n d)) two ∙ ap (λ n. drop n (take many d)) three

-- A token that doesn't come after so many tokens may come after fewer.
pub next_fewer : (d : List Token) (many few : ℕ) (t : Token) → few ≢ 0 → (is_border d many few && is_same t (get_or d few t)) ≡ false
    → next_to d many t (suc few) ≡ next_to d many t (suc (few - 1))
next_fewer d many few t some not_here =
    let one : few ≡ suc (few - 1) = omega (arith, some) in
    ap (λ b. cond b (suc few) (next_to d many t few)) not_here ∙ ap (next_to d many t) one

-- At most one token more of the delimiter ends the text than before.
pub next_within : (d text : List Token) (t : Token) → matched d (text ++ t ∷ []) ≤ suc (matched d text)
unfolding Fits
next_within d text t = at (nat_le (matched d (text ++ t ∷ [])) (suc (matched d text))) refl
  where
    never : (m : ℕ) → matched d (text ++ t ∷ []) ≡ m → suc (matched d text) < m → ⊥
    never zero same more = absurd (omega arith)
    never (suc k) same more =
        let most = matched_most (length d) d (text ++ t ∷ []) in
        let within : k < length d = omega (arith, most, same) in
        let misfit = fits_more d text t k within ∙ ap (λ b. b && is_same t (get_or d k t)) (matched_not (length d) d text k (omega arith) (omega arith)) in
        elim (matched_fits (length d) d (text ++ t ∷ [])) [
          | inl none ↦ absurd (omega (arith, none, same))
          | inr fit ↦ let fits_so : fits d (text ++ t ∷ []) (suc k) ≡ true = ap (fits d (text ++ t ∷ [])) (sym same) ∙ fit in absurd cc
        ]

    at : (b : Bool) → nat_le (matched d (text ++ t ∷ [])) (suc (matched d text)) ≡ b → matched d (text ++ t ∷ []) ≤ suc (matched d text)
    at true h = leb-true (matched d (text ++ t ∷ [])) (suc (matched d text)) h
    at false h = let more = leb-false (matched d (text ++ t ∷ [])) (suc (matched d text)) h in absurd (never (matched d (text ++ t ∷ [])) refl (omega (arith, more)))

-- ---- where a delimiter ends a text

all_of : (d text : List Token) → is_ended d text ≡ true → matched d text ≡ length d
all_of d text is = eqb-true (matched d text) (length d) is

pub ended_text : (d text : List Token) → 0 < length d → is_ended d text ≡ true → argument d text ++ d ≡ text
ended_text d text some is =
    let whole = all_of d text is in
    let last : back (matched d text) text ≡ d = matched_back d text ∙ ap (λ n. take n d) whole ∙ take-length d in
    ap (λ l. argument d text ++ l) (sym last) ∙ take-append-drop (length text - matched d text) text

pub ended_groups : (d text : List Token) → 0 < length d → is_ended d text ≡ true → depth (argument d text) ≡ 0
unfolding Fits
ended_groups d text some is =
    elim (matched_fits (length d) d text) [
      | inl none ↦ let whole = all_of d text is in absurd (omega (arith, none, whole))
      | inr fit ↦ zero_is (depth (front (matched d text) text)) (both (are_same (back (matched d text) text) (take (matched d text) d)) (depth (front (matched d text) text) == 0) fit).1
    ]

own_token : (a : Token) → is_same a a ≡ true
own_token (Char c k) = two_true (c == c) (k == k) (eq-eqb c c refl) (eq-eqb k k refl)
own_token (Ja c) = two_true (c.row == c.row) (c.cell == c.cell) (eq-eqb c.row c.row refl) (eq-eqb c.cell c.cell refl)
own_token (Name c) = eq-eqb c.0 c.0 refl
own_token (Kept c) = eq-eqb c.0 c.0 refl
own_token (Param c) = eq-eqb c c refl

own_list : (l : List Token) → are_same l l ≡ true
own_list [] = refl
own_list (t ∷ l) = two_true (is_same t t) (are_same l l) (own_token t) (own_list l)

whole_first : (n : ℕ) (d text : List Token) → length d ≡ n → fits d text n ≡ true → matched_to n d text ≡ n
whole_first zero d text size fit = refl
whole_first (suc n) d text size fit = ap (λ c. cond c (suc n) (matched_to n d text)) fit

pub ended_there : (d front_text : List Token) → depth front_text ≡ 0 → is_ended d (front_text ++ d) ≡ true
ended_there d l none =
    let n = length d in
    let text = l ++ d in
    let size : length text - n ≡ length l = omega (arith, length-append l d) in
    let last : back n text ≡ d = ap (λ k. drop k text) size ∙ drop-append_seam l d in
    let first : front n text ≡ l = ap (λ k. take k text) size ∙ take-append_seam l d in
    let same : are_same (back n text) (take n d) ≡ true = ap (λ k. are_same k (take n d)) last ∙ ap (are_same d) (take-length d) ∙ own_list d in
    let closed : (depth (front n text) == 0) ≡ true = ap (λ k. depth k == 0) first ∙ zero_test (depth l) none in
    let fit : fits d text n ≡ true = two_true (are_same (back n text) (take n d)) (depth (front n text) == 0) same closed in
    ap (λ k. k == n) (whole_first n d text refl fit) ∙ eq-eqb n n refl
