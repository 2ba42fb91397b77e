-- Decimal fractions from the last digit on.
use Rattle.std.proofs.Common.{◌≡◌, ℕ, ◌-◌, ◌<◌, ◌≤◌, suc, zero, List, drop, take, length, get_or, refl, arith}
use Rattle.std.proofs.Math.Seq.{drop-cons}
use Rattle.std.proofs.lemmas.List.{get_or-take, length-take}
use Rattle.ts_geometry.specs.Numbers.{half_units, half_units_before}

pub half_units-drop : (digits : List ℕ) (k : ℕ) → 0 < k → k ≤ 17 → k ≤ length digits → half_units (drop (k - 1) (take 17 digits)) ≡ half_units_before (get_or digits (k - 1) 0) (half_units (drop k (take 17 digits)))
half_units-drop digits zero h _ _ = absurd (omega arith)
half_units-drop digits (suc j) h few there =
    let at : suc j - 1 ≡ j = omega arith in
    let below : j < 17 = omega arith in
    let inside : j < length (take 17 digits) = omega (arith, length-take 17 digits) in
    rw at (rw (drop-cons (take 17 digits) j 0, get_or-take 17 digits j 0 below) refl)
