-- Boxes in a list of another direction.
use Rattle.std.proofs.Common.{◌≡◌, refl, ap, arith, ◌∙◌, sym}
use Rattle.std.proofs.lemmas.Int.{ints}
use Rattle.ts_geometry.specs.declared.direction.Dir.{Dir}
use Rattle.ts_geometry.specs.declared.direction.Dir.TheVariants.{Yoko, Tate, Dtou}
use Rattle.ts_geometry.specs.declared.measure.Point.{Point}
use Rattle.ts_geometry.specs.declared.measure.Measures.{Measures}
use Rattle.ts_geometry.specs.Directions.{rect}
use Rattle.ts_geometry.specs.Crossings.{seen, inner_point, IsInnerPoint}
use Rattle.ts_geometry.specs.Laws.{InnerPointsAreUnique}
use Rattle.ts_geometry.proofs.Moved.{same_rectangle, rect-injective}

pub rect-inner_point : (m : Measures) (own : Dir) (p : Point) (from : Dir) → rect m (inner_point m own p from) own ≡ rect (seen m own from) p from
rect-inner_point m Yoko p Yoko = refl
rect-inner_point m Yoko p Tate = same_rectangle _ _ _ _ _ _ _ _ (omega (arith, ints)) (omega (arith, ints)) (omega (arith, ints)) (omega (arith, ints))
rect-inner_point m Yoko p Dtou = same_rectangle _ _ _ _ _ _ _ _ (omega (arith, ints)) (omega (arith, ints)) (omega (arith, ints)) (omega (arith, ints))
rect-inner_point m Tate p Yoko = same_rectangle _ _ _ _ _ _ _ _ (omega (arith, ints)) (omega (arith, ints)) (omega (arith, ints)) (omega (arith, ints))
rect-inner_point m Tate p Tate = refl
rect-inner_point m Tate p Dtou = same_rectangle _ _ _ _ _ _ _ _ (omega (arith, ints)) (omega (arith, ints)) (omega (arith, ints)) (omega (arith, ints))
rect-inner_point m Dtou p Yoko = same_rectangle _ _ _ _ _ _ _ _ (omega (arith, ints)) (omega (arith, ints)) (omega (arith, ints)) (omega (arith, ints))
rect-inner_point m Dtou p Tate = same_rectangle _ _ _ _ _ _ _ _ (omega (arith, ints)) (omega (arith, ints)) (omega (arith, ints)) (omega (arith, ints))
rect-inner_point m Dtou p Dtou = refl

pub is_inner_point : (m : Measures) (own : Dir) (p : Point) (from : Dir) (q : Point) → q ≡ inner_point m own p from → IsInnerPoint m own p from q
is_inner_point m own p from q e = record { same_rectangle = ap (λ (r : Point). rect m r own) e ∙ rect-inner_point m own p from }

pub inner_points_are_unique : InnerPointsAreUnique
inner_points_are_unique m own p from q = (λ h. rect-injective m own q (inner_point m own p from) (h.same_rectangle ∙ sym (rect-inner_point m own p from)), is_inner_point m own p from q)
