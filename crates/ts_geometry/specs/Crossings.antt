-- A box in a list of another direction than its own: the measures that the list sees, and the point from which the box itself is set.
use Rattle.std.specs.Prelude.{◌≡◌, ℤ, pos, ◌+ℤ◌, ◌-ℤ◌}
use Rattle.ts_geometry.specs.declared.direction.Dir.{Dir}
use Rattle.ts_geometry.specs.declared.direction.Dir.TheVariants.{Yoko, Tate, Dtou}
use Rattle.ts_geometry.specs.declared.measure.Point.{Point}
use Rattle.ts_geometry.specs.declared.measure.Measures.{Measures}
use Rattle.ts_geometry.specs.Numbers.{floor_div}
use Rattle.ts_geometry.specs.Directions.{sp, point, rect}

abbrev pub measures : ℤ → ℤ → ℤ → Measures
measures wd ht dp = record { wd = sp wd; ht = sp ht; dp = sp dp }

-- half a width, rounded down
abbrev pub half : ℤ → ℤ
half width = floor_div width 2

-- the measures that a list of direction `from` sees of a box whose own direction is `own`
abbrev pub seen : Measures → Dir → Dir → Measures
seen m Yoko Yoko = m
seen m Yoko Tate = measures (m.ht.0 +ℤ m.dp.0) (m.wd.0 -ℤ half m.wd.0) (half m.wd.0)
seen m Yoko Dtou = measures (m.ht.0 +ℤ m.dp.0) m.wd.0 (pos 0)
seen m Tate Yoko = measures (m.ht.0 +ℤ m.dp.0) m.wd.0 (pos 0)
seen m Tate Tate = m
seen m Tate Dtou = measures m.wd.0 m.dp.0 m.ht.0
seen m Dtou Yoko = measures (m.ht.0 +ℤ m.dp.0) m.wd.0 (pos 0)
seen m Dtou Tate = measures m.wd.0 m.dp.0 m.ht.0
seen m Dtou Dtou = m

-- the inner point q of a box that a list has at p: set from q in its own direction, the box covers what the list sees at p
pub record IsInnerPoint (m : Measures) (own : Dir) (p : Point) (from : Dir) (q : Point) : Type 0 where
  pub same_rectangle : rect m q own ≡ rect (seen m own from) p from

-- the table of inner points; the law `there_is_one_inner_point` says that each is one, and the only one
abbrev pub inner_point : Measures → Dir → Point → Dir → Point
inner_point m Yoko p Yoko = p
inner_point m Yoko p Tate = point (p.x.0 -ℤ half m.wd.0) (p.y.0 +ℤ m.ht.0)
inner_point m Yoko p Dtou = point (p.x.0 -ℤ m.wd.0) (p.y.0 -ℤ m.dp.0)
inner_point m Tate p Yoko = point (p.x.0 +ℤ m.dp.0) (p.y.0 -ℤ m.wd.0)
inner_point m Tate p Tate = p
inner_point m Tate p Dtou = point p.x.0 (p.y.0 -ℤ m.wd.0)
inner_point m Dtou p Yoko = point (p.x.0 +ℤ m.ht.0) p.y.0
inner_point m Dtou p Tate = point p.x.0 (p.y.0 +ℤ m.wd.0)
inner_point m Dtou p Dtou = p
