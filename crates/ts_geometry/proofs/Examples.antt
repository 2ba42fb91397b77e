-- Small values of the definitions.
use Rattle.std.proofs.Common.{◌≡◌, [], ◌∷◌, refl, pos, negsuc}
use Rattle.ts_geometry.specs.declared.direction.Dir.TheVariants.{Yoko, Tate, Dtou}
use Rattle.ts_geometry.specs.declared.measure.Measures.{Measures}
use Rattle.ts_geometry.specs.Numbers.{badness, scale, decimal, share}
use Rattle.ts_geometry.specs.Crossings.{measures, seen}

badness-full : badness 100 (pos 100) ≡ 100
badness-full = refl

badness-rigid : badness 1 (pos 0) ≡ 10000
badness-rigid = refl

badness-great_shortfall : badness 7230585 (pos 1663497) ≡ 8189
badness-great_shortfall = refl

badness-great_shortfall_little_stretch : badness 7230585 (pos 1663496) ≡ 10000
badness-great_shortfall_little_stretch = refl

-- the greatest ratio that counts, and the next one
badness-greatest_ratio : badness 1290 (pos 297) ≡ 8189
badness-greatest_ratio = refl

badness-next_ratio : badness 1291 (pos 297) ≡ 10000
badness-next_ratio = refl

scale-ten_points : scale (pos 917504) 655360 ≡ pos 573440
scale-ten_points = refl

scale-below_zero : scale (negsuc 0) 1 ≡ negsuc 0
scale-below_zero = refl

decimal-four : decimal (4 ∷ []) ≡ 26214
decimal-four = refl

-- 2^-17 has 17 digits, and is rounded up
decimal-half_unit : decimal (0 ∷ 0 ∷ 0 ∷ 0 ∷ 0 ∷ 7 ∷ 6 ∷ 2 ∷ 9 ∷ 3 ∷ 9 ∷ 4 ∷ 5 ∷ 3 ∷ 1 ∷ 2 ∷ 5 ∷ []) ≡ 1
decimal-half_unit = refl

decimal-below_half_unit : decimal (0 ∷ 0 ∷ 0 ∷ 0 ∷ 0 ∷ 7 ∷ 6 ∷ 2 ∷ 9 ∷ 3 ∷ 9 ∷ 4 ∷ 5 ∷ 3 ∷ 1 ∷ 2 ∷ []) ≡ 0
decimal-below_half_unit = refl

share-half : share (pos 1) (pos 1) (pos 2) ≡ pos 1
share-half = refl

share-half_below_zero : share (pos 1) (negsuc 0) (pos 2) ≡ negsuc 0
share-half_below_zero = refl

share-no_more : share (pos 3000000000) (pos 1) (pos 1) ≡ pos 1000000000
share-no_more = refl

-- a box of 3, 5, 7, set in yoko, in a list in a list in a list
from_tate : Measures
from_tate = seen (measures (pos 3) (pos 5) (pos 7)) Yoko Tate

from_dtou : Measures
from_dtou = seen (from_tate) Tate Dtou

seen-from_tate : from_tate ≡ measures (pos 12) (pos 2) (pos 1)
unfolding from_tate
seen-from_tate = refl

seen-from_dtou : from_dtou ≡ measures (pos 12) (pos 1) (pos 2)
unfolding from_dtou from_tate
seen-from_dtou = refl

seen-from_yoko : seen from_dtou Dtou Yoko ≡ measures (pos 3) (pos 12) (pos 0)
unfolding from_dtou from_tate
seen-from_yoko = refl
