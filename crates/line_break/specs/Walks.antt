-- Walks of admissible lines, and what is said of the best of them.
use Rattle.std.specs.Prelude.{◌≡◌, ℕ, suc, Bool, true, false, ◌&&◌, IfSome, ◌<◌, List, [], ◌∷◌, IsTrue, ℤ, pos, ◌+ℤ◌, ◌≤ℤ◌, IsSomeAnd}
use Rattle.line_break.specs.declared.weight.Class.{Class}
use Rattle.line_break.specs.declared.weight.Class.TheVariants.{Decent}
use Rattle.line_break.specs.Lines.{Pass, weight, demerits}
use Rattle.line_break.specs.Best.{State, is_admissible, last_break, chosen, reached, all_close, states_to}

-- the breaks before b, the latest first, are a walk of admissible lines from the start to b
abbrev pub IsWalk : Pass → ℕ → List ℕ → Type 0
IsWalk p b [] = b ≡ 0
IsWalk p b (s ∷ earlier) = (s < b) × IsTrue (is_admissible p s b) × IsWalk p s earlier

-- the class of the line that ends at b; the start is decent
abbrev pub class_at : Pass → ℕ → List ℕ → Class
class_at p b [] = Decent
class_at p b (s ∷ earlier) = (weight p s b).class

-- the sum of the demerits of its lines
abbrev pub walk_sum : Pass → ℕ → List ℕ → ℤ
walk_sum p b [] = pos 0
walk_sum p b (s ∷ earlier) = walk_sum p s earlier +ℤ demerits p (class_at p s earlier) s b

-- no walk of admissible lines to the last break has a lower sum than the state that is chosen
abbrev pub IsLeast : Pass → Type 0
IsLeast p = (walk : List ℕ) → IsWalk p (last_break p) walk →
    IsSomeAnd (chosen p) (λ x. x.sum ≤ℤ walk_sum p (last_break p) walk)

abbrev pub is_empty : List State → Bool
is_empty [] = true
is_empty (x ∷ xs) = false

-- whether a line that isn't admissible is taken at b
abbrev pub rescues : Pass → ℕ → List State → Bool
rescues p b states = is_empty (reached p b states) && (p.is_last && all_close p b states)

abbrev pub NeedsNoRescue : Pass → Type 0
NeedsNoRescue p = (k : ℕ) → k < last_break p → rescues p (suc k) (states_to p k) ≡ false

-- the state that is chosen stands for a walk of admissible lines with its sum
abbrev pub IsOfAdmissibleLines : Pass → Type 0
IsOfAdmissibleLines p =
    IfSome (chosen p) (λ x. IsWalk p (last_break p) x.walk × (walk_sum p (last_break p) x.walk
    ≡ x.sum))
