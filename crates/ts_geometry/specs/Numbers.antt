-- The arithmetic of typesetting, over all whole numbers.
use Rattle.std.specs.Prelude.{ℕ, suc, ◌+◌, ◌*◌, ◌/◌, ◌^◌, ◌==◌, ℤ, pos, negsuc, ◌*ℤ◌, ◌≤ℤ◌, neg_ℤ, unsigned_abs, nat_le, int_le, List, [], ◌∷◌, take, if◌then◌else◌}
use Rattle.std.specs.Int.{int_min, int_max}

-- A number is at most so far from 0.
abbrev pub IsWithin : ℕ → ℤ → Type 0
IsWithin most z = (neg_ℤ (pos most) ≤ℤ z) × (z ≤ℤ pos most)

-- the greatest dimension of a source, 2^30 - 1 scaled points (The TeXbook, chapter 10)
abbrev pub max_dimen : ℕ
max_dimen = 1073741823

-- within which the calls of this crate work
abbrev pub far : ℕ
far = 2 ^ 60

-- ---- badness

-- shortfall / stretch in units of about 1 / 297, so that its cube is about 100 * 2^18 times that of shortfall / stretch
abbrev pub stretch_ratio : ℕ → ℕ → ℕ
stretch_ratio shortfall stretch =
    if nat_le shortfall 7230584 then (297 * shortfall) / stretch
    else (if nat_le 1663497 stretch then shortfall / (stretch / 297) else shortfall)

abbrev pub badness_of_ratio : ℕ → ℕ
badness_of_ratio ratio = if nat_le ratio 1290 then (ratio * ratio * ratio + 2 ^ 17) / 2 ^ 18 else 10000

-- how bad it is to make up for a shortfall by this much stretch, or for an excess by this much shrink: about
-- 100 (shortfall / stretch)^3, and at most 10000 (TeX: The Program, section 108)
abbrev pub badness : ℕ → ℤ → ℕ
badness shortfall stretch =
    if shortfall == 0 then 0
    else (if int_le stretch (pos 0) then 10000
    else badness_of_ratio (stretch_ratio shortfall (unsigned_abs stretch)))

-- ---- scaling

-- z / n, rounded down
abbrev pub floor_div : ℤ → ℕ → ℤ
floor_div (pos a) n = pos (a / n)
floor_div (negsuc a) n = negsuc (a / n)

-- a number of a metric file, in units of 2^-20 of the font's size, in the units of that size (TeX: The Program, sections 571
-- and 572)
abbrev pub scale : ℤ → ℕ → ℤ
scale fix_word size = floor_div (fix_word *ℤ pos size) (2 ^ 20)

-- ---- decimal fractions

-- a digit and the fraction after it, in units of 2^-17, rounded down
abbrev pub half_units_before : ℕ → ℕ → ℕ
half_units_before digit after = (after + 2 ^ 17 * digit) / 10

-- the fraction that decimal digits spell, in units of 2^-17, rounded down digit by digit from the last one
abbrev pub half_units : List ℕ → ℕ
half_units [] = 0
half_units (digit ∷ digits) = half_units_before digit (half_units digits)

-- the fraction that decimal digits spell, in units of 2^-16 (TeX: The Program, section 102); only the first 17 digits count
-- (section 452)
abbrev pub decimal : List ℕ → ℕ
decimal digits = (half_units (take 17 digits) + 1) / 2

-- ---- shares of glue

-- n / d rounded to the nearest whole number, halves upwards
abbrev pub nearest : ℕ → ℕ → ℕ
nearest n d = (2 * n + d) / (2 * d)

-- n / d rounded to the nearest whole number, halves away from zero
abbrev pub rounded : ℤ → ℤ → ℤ
rounded (pos n) (pos d) = pos (nearest n d)
rounded (negsuc n) (pos d) = neg_ℤ (pos (nearest (suc n) d))
rounded (pos n) (negsuc d) = neg_ℤ (pos (nearest n (suc d)))
rounded (negsuc n) (negsuc d) = pos (nearest (suc n) (suc d))

-- the number nearest to z from -10^9 to 10^9
abbrev pub bounded : ℤ → ℤ
bounded z = int_max (neg_ℤ (pos (10 ^ 9))) (int_min z (pos (10 ^ 9)))

-- how much of an excess falls to a part of the stretch or shrink, where all of it comes to the total
abbrev pub share : ℤ → ℤ → ℤ → ℤ
share part excess total = bounded (rounded (part *ℤ excess) total)
