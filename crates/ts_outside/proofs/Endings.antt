-- The ending of a name, byte by byte.
use Rattle.std.proofs.Common.{◌≡◌, ℕ, ◌+◌, ◌<◌, List, [], ◌∷◌, ◌++◌, length, take, get_or, Bool, true, false, cond, refl, sym, ap, ◌∙◌}
use Rattle.std.specs.Prelude.{◌||◌}
use Rattle.std.specs.List.{list_any}
use Rattle.std.proofs.lemmas.List.Folds.{list_any-append}
use Rattle.std.proofs.lemmas.List.{take_more}
use Rattle.ts_outside.specs.Endings.{is_dot, is_slash, last_part}

or_false : (a : Bool) → (a || false) ≡ a
or_false true = refl
or_false false = refl

or_true : (a : Bool) → (a || true) ≡ true
or_true true = refl
or_true false = refl

with_last : (s : Bool) (xs ys : List ℕ) (b : ℕ) → cond s (xs ++ b ∷ []) (ys ++ b ∷ []) ≡ cond s xs ys ++ b ∷ []
with_last true xs ys b = refl
with_last false xs ys b = refl

any-snoc : (test : ℕ → Bool) (bytes : List ℕ) (b : ℕ) → list_any test (bytes ++ b ∷ []) ≡ (list_any test bytes || test b)
any-snoc test bytes b = list_any-append test bytes (b ∷ []) ∙ ap (λ (r : Bool). list_any test bytes || r) (or_false (test b))

-- a slash at the end leaves no last part
after_slash : (bytes : List ℕ) (b : ℕ) → is_slash b ≡ true → last_part (bytes ++ b ∷ []) ≡ []
after_slash [] b slash = rw slash refl
after_slash (x ∷ bytes) b slash = rw (any-snoc is_slash bytes b, slash, or_true (list_any is_slash bytes), or_true (is_slash x)) (after_slash bytes b slash)

-- another byte belongs to it
after_other : (bytes : List ℕ) (b : ℕ) → is_slash b ≡ false → last_part (bytes ++ b ∷ []) ≡ last_part bytes ++ b ∷ []
after_other [] b other = rw other refl
after_other (x ∷ bytes) b other =
    rw (any-snoc is_slash bytes b, other, or_false (list_any is_slash bytes), after_other bytes b other) (with_last (is_slash x || list_any is_slash bytes) (last_part bytes) (x ∷ bytes) b)

or_swap : (a b : Bool) → (a || b) ≡ (b || a)
or_swap true true = refl
or_swap true false = refl
or_swap false true = refl
or_swap false false = refl

one_more : (b : ℕ) (slash : Bool) → is_slash b ≡ slash → (bytes : List ℕ) → cond slash false (is_dot b || list_any is_dot (last_part bytes)) ≡ list_any is_dot (last_part (bytes ++ b ∷ []))
one_more b true is bytes = rw (after_slash bytes b is) refl
one_more b false is bytes = rw (after_other bytes b is, any-snoc is_dot (last_part bytes) b) (or_swap (is_dot b) (list_any is_dot (last_part bytes)))

pub ending_more : (text : List ℕ) (i : ℕ) (ending more : Bool) → i < length text → ending ≡ list_any is_dot (last_part (take i text)) → more ≡ cond (is_slash (get_or text i 0)) false (is_dot (get_or text i 0) || ending)
    → more ≡ list_any is_dot (last_part (take (i + 1) text))
ending_more text i ending more within so_far now =
    let b = get_or text i 0 in
    let one : more ≡ list_any is_dot (last_part (take i text ++ b ∷ [])) = now ∙ ap (λ (e : Bool). cond (is_slash b) false (is_dot b || e)) so_far ∙ one_more b (is_slash b) refl (take i text) in
    one ∙ ap (λ (t : List ℕ). list_any is_dot (last_part t)) (sym (take_more text i 0 within))
