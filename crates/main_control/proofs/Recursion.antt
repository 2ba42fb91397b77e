-- The equation of a recursion on less.
use Rattle.std.proofs.Common.{◌≡◌, ℕ, zero, suc, ◌<◌, refl, arith, ap, Bool, true, false, nat_lt, cond}
use Rattle.std.proofs.lemmas.Bool.{ltb-true}
use Rattle.main_control.specs.Recursion.{below, fix_at, fix}

cut : {A : Type 0} (b : Bool) (x y e : A) → (b ≡ true → x ≡ y) → cond b x e ≡ cond b y e
cut true x y e h = h refl
cut false x y e h = refl

module _ {C R : Type 0} (rank : C → ℕ) (stop : C → R) (step : (C → R) → C → R) where
  below_same : (k : ℕ) (f g : C → R) → ((c : C) → rank c < k → f c ≡ g c) → below rank stop k f ≡ below rank stop k g
  below_same k f g same = λ i c. cut (nat_lt (rank c) k) (f c) (g c) (stop c) (λ h. same c (ltb-true (rank c) k h)) i

  agree : (n m : ℕ) (c : C) → rank c < n → rank c < m → fix_at rank stop step n c ≡ fix_at rank stop step m c
  unfolding fix_at
  agree zero m c in_n in_m = absurd (omega (arith, in_n))
  agree (suc n) zero c in_n in_m = absurd (omega (arith, in_m))
  agree (suc n) (suc m) c in_n in_m =
      ap (λ (f : C → R). step f c) (below_same (rank c) (fix_at rank stop step n) (fix_at rank stop step m) (λ d h. agree n m d (omega arith) (omega arith)))

  pub fix-is : (c : C) → fix rank stop step c ≡ step (below rank stop (rank c) (fix rank stop step)) c
  unfolding fix fix_at
  fix-is c = ap (λ (f : C → R). step f c) (below_same (rank c) (fix_at rank stop step (rank c)) (fix rank stop step) (λ d h. agree (rank c) (suc (rank d)) d h (omega arith)))
