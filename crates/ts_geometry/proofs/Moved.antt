-- Boxes that move.
use Rattle.std.proofs.Common.{◌≡◌, ℤ, ap, arith}
use Rattle.std.proofs.lemmas.Int.{ints}
use Rattle.ts_geometry.specs.declared.direction.Dir.{Dir}
use Rattle.ts_geometry.specs.declared.direction.Dir.TheVariants.{Yoko, Tate, Dtou}
use Rattle.ts_geometry.specs.declared.measure.Point.{Point}
use Rattle.ts_geometry.specs.declared.measure.Measures.{Measures}
use Rattle.ts_geometry.specs.declared.measure.Rect.{Rect}
use Rattle.ts_geometry.specs.Directions.{point, rectangle, rect}
use Rattle.ts_geometry.specs.Laws.{StepsMoveRectangles}

pub same_point : (a b a' b' : ℤ) → a ≡ a' → b ≡ b' → point a b ≡ point a' b'
same_point a b a' b' p q = cc

pub same_rectangle : (a b c d a' b' c' d' : ℤ) → a ≡ a' → b ≡ b' → c ≡ c' → d ≡ d' → rectangle a b c d ≡ rectangle a' b' c' d'
same_rectangle a b c d a' b' c' d' p q r s = cc

pub steps_move_rectangles : StepsMoveRectangles
steps_move_rectangles m p Yoko Yoko along across = same_rectangle _ _ _ _ _ _ _ _ (omega (arith, ints)) (omega (arith, ints)) (omega (arith, ints)) (omega (arith, ints))
steps_move_rectangles m p Yoko Tate along across = same_rectangle _ _ _ _ _ _ _ _ (omega (arith, ints)) (omega (arith, ints)) (omega (arith, ints)) (omega (arith, ints))
steps_move_rectangles m p Yoko Dtou along across = same_rectangle _ _ _ _ _ _ _ _ (omega (arith, ints)) (omega (arith, ints)) (omega (arith, ints)) (omega (arith, ints))
steps_move_rectangles m p Tate Yoko along across = same_rectangle _ _ _ _ _ _ _ _ (omega (arith, ints)) (omega (arith, ints)) (omega (arith, ints)) (omega (arith, ints))
steps_move_rectangles m p Tate Tate along across = same_rectangle _ _ _ _ _ _ _ _ (omega (arith, ints)) (omega (arith, ints)) (omega (arith, ints)) (omega (arith, ints))
steps_move_rectangles m p Tate Dtou along across = same_rectangle _ _ _ _ _ _ _ _ (omega (arith, ints)) (omega (arith, ints)) (omega (arith, ints)) (omega (arith, ints))
steps_move_rectangles m p Dtou Yoko along across = same_rectangle _ _ _ _ _ _ _ _ (omega (arith, ints)) (omega (arith, ints)) (omega (arith, ints)) (omega (arith, ints))
steps_move_rectangles m p Dtou Tate along across = same_rectangle _ _ _ _ _ _ _ _ (omega (arith, ints)) (omega (arith, ints)) (omega (arith, ints)) (omega (arith, ints))
steps_move_rectangles m p Dtou Dtou along across = same_rectangle _ _ _ _ _ _ _ _ (omega (arith, ints)) (omega (arith, ints)) (omega (arith, ints)) (omega (arith, ints))

-- a rectangle shows the point at which it was set
pub rect-injective : (m : Measures) (dir : Dir) (p q : Point) → rect m p dir ≡ rect m q dir → p ≡ q
rect-injective m Yoko p q e =
    let left = ap (λ (r : Rect). r.left.0) e in
    let top = ap (λ (r : Rect). r.top.0) e in
    let right = ap (λ (r : Rect). r.right.0) e in
    let bottom = ap (λ (r : Rect). r.bottom.0) e in
    same_point p.x.0 p.y.0 q.x.0 q.y.0 (omega (arith, ints)) (omega (arith, ints))
rect-injective m Tate p q e =
    let left = ap (λ (r : Rect). r.left.0) e in
    let top = ap (λ (r : Rect). r.top.0) e in
    let right = ap (λ (r : Rect). r.right.0) e in
    let bottom = ap (λ (r : Rect). r.bottom.0) e in
    same_point p.x.0 p.y.0 q.x.0 q.y.0 (omega (arith, ints)) (omega (arith, ints))
rect-injective m Dtou p q e =
    let left = ap (λ (r : Rect). r.left.0) e in
    let top = ap (λ (r : Rect). r.top.0) e in
    let right = ap (λ (r : Rect). r.right.0) e in
    let bottom = ap (λ (r : Rect). r.bottom.0) e in
    same_point p.x.0 p.y.0 q.x.0 q.y.0 (omega (arith, ints)) (omega (arith, ints))
