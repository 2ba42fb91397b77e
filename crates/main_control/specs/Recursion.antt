-- Recursion where each call is made on less than the call that makes it: one that isn't gives up.
use Rattle.std.specs.Prelude.{ℕ, zero, suc, nat_lt, if◌then◌else◌}

-- the calls on less than k
abbrev pub below : {C R : Type 0} → (C → ℕ) → (C → R) → ℕ → (C → R) → C → R
below rank stop k f c = if nat_lt (rank c) k then f c else stop c

unfoldable pub fix_at : {C R : Type 0} → (C → ℕ) → (C → R) → ((C → R) → C → R) → ℕ → C → R
fix_at rank stop step zero c = stop c
fix_at rank stop step (suc n) c = step (below rank stop (rank c) (fix_at rank stop step n)) c

unfoldable pub fix : {C R : Type 0} → (C → ℕ) → (C → R) → ((C → R) → C → R) → C → R
fix rank stop step c = fix_at rank stop step (suc (rank c)) c
