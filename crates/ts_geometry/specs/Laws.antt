-- Laws of the definitions.
use Rattle.std.specs.Prelude.{◌≡◌, ◌↔◌, ℕ, ◌+◌, ◌*◌, ◌<◌, ◌≤◌, ℤ, pos, ◌+ℤ◌, ◌*ℤ◌, ◌≤ℤ◌, ◌<ℤ◌}
use Rattle.ts_geometry.specs.declared.direction.Dir.{Dir}
use Rattle.ts_geometry.specs.declared.measure.Sp.{Sp}
use Rattle.ts_geometry.specs.declared.measure.Point.{Point}
use Rattle.ts_geometry.specs.declared.measure.Measures.{Measures}
use Rattle.ts_geometry.specs.Numbers.{floor_div, nearest}
use Rattle.ts_geometry.specs.Directions.{step, rect, step_rect, extent}
use Rattle.ts_geometry.specs.Crossings.{seen, inner_point, IsInnerPoint}

-- n times the floor of z / n isn't above z, and n more is
abbrev pub FloorsAreGreatest : Type 0
FloorsAreGreatest = (z : ℤ) (n : ℕ) → 0 < n →
    ((floor_div z n *ℤ pos n) ≤ℤ z) × (z <ℤ ((floor_div z n *ℤ pos n) +ℤ pos n))

-- n / d lies from half below the number nearest to it, and to below half above it
abbrev pub NearestIsWithinHalf : Type 0
NearestIsWithinHalf = (n d : ℕ) → 0 < d →
    (2 * (nearest n d * d) ≤ 2 * n + d) × (2 * n < 2 * (nearest n d * d) + d)

-- where the reference point of a box takes a step, so do the corners of what it covers
abbrev pub StepsMoveRectangles : Type 0
StepsMoveRectangles = (m : Measures) (p : Point) (own dir : Dir) (along across : Sp) →
    rect m (step p dir along across) own ≡ step_rect (rect m p own) dir along across

-- one point, and no other, is the inner point: that of the table
abbrev pub InnerPointsAreUnique : Type 0
InnerPointsAreUnique = (m : Measures) (own : Dir) (p : Point) (from : Dir) (q : Point) →
    IsInnerPoint m own p from q ↔ (q ≡ inner_point m own p from)

-- the measures that a list sees cover as much as the box's own, wherever each is set
abbrev pub CrossingsKeepExtents : Type 0
CrossingsKeepExtents = (m : Measures) (own from : Dir) (p q : Point) →
    extent (rect (seen m own from) p from) ≡ extent (rect m q own)

-- where the point of a crossed box takes a step, so does its inner point
abbrev pub CrossingsMoveAlong : Type 0
CrossingsMoveAlong = (m : Measures) (own from dir : Dir) (p : Point) (along across : Sp) →
    inner_point m own (step p dir along across) from ≡ step (inner_point m own p from) dir along across

-- every point is the inner point of some point
abbrev pub EachPointIsInner : Type 0
EachPointIsInner = (m : Measures) (own from : Dir) (inner : Point) →
    (p : Point) × (inner_point m own p from ≡ inner)

-- the inner point of a box that a list of direction `from` has at p in a list of direction `through`
abbrev pub nested_point : Measures → Dir → Dir → Point → Dir → Point
nested_point m own through p from = inner_point m own (inner_point (seen m own through) through p from) through

-- what the outer list sees of a box through a list of another direction is what the box covers from its inner point
abbrev pub CrossingsNest : Type 0
CrossingsNest = (m : Measures) (own through : Dir) (p : Point) (from : Dir) →
    rect (seen (seen m own through) through from) p from ≡ rect m (nested_point m own through p from) own

-- straight at q or through another direction at p: both see the same rectangle where they lead to the same inner point
abbrev pub WaysOfSeeingAgree : Type 0
WaysOfSeeingAgree = (m : Measures) (own through from : Dir) (p q : Point) →
    inner_point m own q from ≡ nested_point m own through p from →
    rect (seen m own from) q from ≡ rect (seen (seen m own through) through from) p from
