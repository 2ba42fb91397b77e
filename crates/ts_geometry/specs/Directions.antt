-- Directions of writing on a page, where x grows to the right and y downwards. The directions are those of pTeX.
use Rattle.std.specs.Prelude.{ℤ, ◌+ℤ◌, ◌-ℤ◌}
use Rattle.ts_geometry.specs.declared.direction.Dir.{Dir}
use Rattle.ts_geometry.specs.declared.direction.Dir.TheVariants.{Yoko, Tate, Dtou}
use Rattle.ts_geometry.specs.declared.measure.Sp.{Sp}
use Rattle.ts_geometry.specs.declared.measure.Point.{Point}
use Rattle.ts_geometry.specs.declared.measure.Measures.{Measures}
use Rattle.ts_geometry.specs.declared.measure.Rect.{Rect}
use Rattle.ts_geometry.specs.Numbers.{IsWithin, far}

abbrev pub sp : ℤ → Sp
sp z = record { 0 = z }

abbrev pub point : ℤ → ℤ → Point
point x y = record { x = sp x; y = sp y }

abbrev pub rectangle : ℤ → ℤ → ℤ → ℤ → Rect
rectangle left top right bottom = record { left = sp left; top = sp top; right = sp right; bottom = sp bottom }

-- the point that lies so far along a direction, and so far across it, from p
abbrev pub step : Point → Dir → Sp → Sp → Point
step p Yoko along across = point (p.x.0 +ℤ along.0) (p.y.0 +ℤ across.0)
step p Tate along across = point (p.x.0 -ℤ across.0) (p.y.0 +ℤ along.0)
step p Dtou along across = point (p.x.0 +ℤ across.0) (p.y.0 -ℤ along.0)

-- what a box with its reference point at p covers
abbrev pub rect : Measures → Point → Dir → Rect
rect m p Yoko = rectangle p.x.0 (p.y.0 -ℤ m.ht.0) (p.x.0 +ℤ m.wd.0) (p.y.0 +ℤ m.dp.0)
rect m p Tate = rectangle (p.x.0 -ℤ m.dp.0) p.y.0 (p.x.0 +ℤ m.ht.0) (p.y.0 +ℤ m.wd.0)
rect m p Dtou = rectangle (p.x.0 -ℤ m.ht.0) (p.y.0 -ℤ m.wd.0) (p.x.0 +ℤ m.dp.0) p.y.0

-- the rectangle whose corners have both taken this step
abbrev pub step_rect : Rect → Dir → Sp → Sp → Rect
step_rect r dir along across =
    let first = step (record { x = r.left; y = r.top }) dir along across in
    let last = step (record { x = r.right; y = r.bottom }) dir along across in
    record { left = first.x; top = first.y; right = last.x; bottom = last.y }

-- how wide and how high a rectangle is
abbrev pub extent : Rect → Point
extent r = point (r.right.0 -ℤ r.left.0) (r.bottom.0 -ℤ r.top.0)

-- ---- the numbers for which the calls work

pub record PointIsWithin (p : Point) : Type 0 where
  pub x : IsWithin far p.x.0
  pub y : IsWithin far p.y.0

pub record MeasuresAreWithin (m : Measures) : Type 0 where
  pub wd : IsWithin far m.wd.0
  pub ht : IsWithin far m.ht.0
  pub dp : IsWithin far m.dp.0
