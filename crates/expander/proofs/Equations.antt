-- The equation of the expansion: each call is its step, over calls that stand below it.
use Rattle.std.proofs.Common.{◌≡◌, ℕ, zero, suc, ◌<◌, refl, arith, ap, Bool, true, false, nat_lt, cond}
use Rattle.std.proofs.lemmas.Bool.{ltb-true, lt-ltb}
use Rattle.expander.specs.Worlds.{World}
use Rattle.expander.specs.Steps.{Call, Calls, step}
use Rattle.expander.specs.Expansion.{rank, gives_up, below, calls_at, run}

-- two that are equal where the test holds
cut : {A : Type 0} (b : Bool) (x y e : A) → (b ≡ true → x ≡ y) → cond b x e ≡ cond b y e
cut true x y e h = h refl
cut false x y e h = refl

-- the same calls on less than k
below_same : (k : ℕ) (f g : Calls) → ((c : Call) (w : World) → rank c w < k → f c w ≡ g c w) → below k f ≡ below k g
below_same k f g same = λ i c w. cut (nat_lt (rank c w) k) (f c w) (g c w) (gives_up c w) (λ h. same c w (ltb-true (rank c w) k h)) i

-- enough levels are enough
agree_at : (n m : ℕ) (c : Call) (w : World) → rank c w < n → rank c w < m → calls_at n c w ≡ calls_at m c w
unfolding calls_at
agree_at zero m c w in_n in_m = absurd (omega (arith, in_n))
agree_at (suc n) zero c w in_n in_m = absurd (omega (arith, in_m))
agree_at (suc n) (suc m) c w in_n in_m =
    ap (λ (f : Calls). step f c w) (below_same (rank c w) (calls_at n) (calls_at m) (λ d v h. agree_at n m d v (omega arith) (omega arith)))

pub run_is : (c : Call) (w : World) → run c w ≡ step (below (rank c w) run) c w
unfolding run calls_at
run_is c w = ap (λ (f : Calls). step f c w) (below_same (rank c w) (calls_at (rank c w)) run (λ d v h. agree_at (rank c w) (suc (rank d v)) d v h (omega arith)))

pub below_run : (k : ℕ) (c : Call) (w : World) → rank c w < k → below k run c w ≡ run c w
below_run k c w h = rw (lt-ltb (rank c w) k h) refl
