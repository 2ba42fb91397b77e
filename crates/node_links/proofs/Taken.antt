-- The first of the elements of a list, one more at a time.
use Prim.Native.Nat.{zero, suc}
use Rattle.std.proofs.Common.{◌≡◌, ℕ, ◌+◌, ◌≤◌, List, [], ◌∷◌, ◌++◌, length, slice_get, take, Some, None, ap, ◌∙◌, sym, arith, length-append}

pub ends_at : {X : Type 0} (xs : List X) (k : ℕ) → slice_get xs k ≡ None → length xs ≤ k
ends_at [] k none = omega arith
ends_at (x ∷ xs) zero none = absurd (grind arith)
ends_at (x ∷ xs) (suc k) none = omega (arith, ends_at xs k none)

more : {X : Type 0} (xs : List X) (k : ℕ) (x : X) → slice_get xs k ≡ Some x → take (suc k) xs ≡ take k xs ++ x ∷ []
more [] k x is = absurd (grind arith)
more {X = X} (first ∷ xs) zero x is = let same : first ≡ x = grind arith in ap (λ (y : X). y ∷ []) same
more {X = X} (first ∷ xs) (suc k) x is = ap (λ (rest : List X). first ∷ rest) (more xs k x is)

-- the first of the elements, with the next one at the end
pub with_next : {X : Type 0} (xs taken after : List X) (x : X) → taken ≡ take (length taken) xs → slice_get xs (length taken) ≡ Some x → after ≡ taken ++ x ∷ [] → (length after ≡ length taken + 1) × (after ≡ take (length after) xs)
with_next {X = X} xs taken after x so_far is put =
    let size : length after ≡ length taken + 1 = ap length put ∙ length-append taken (x ∷ []) in
    let count : length after ≡ suc (length taken) = omega (arith, size) in
    (size, put ∙ ap (λ (front : List X). front ++ x ∷ []) so_far ∙ sym (ap (λ (n : ℕ). take n xs) count ∙ more xs (length taken) x is))
