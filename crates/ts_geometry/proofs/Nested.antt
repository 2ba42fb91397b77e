-- Boxes in lists in lists.
use Rattle.std.proofs.Common.{◌-ℤ◌, ◌≡◌, ap, arith, ◌∙◌, sym}
use Rattle.std.proofs.lemmas.Int.{ints}
use Rattle.ts_geometry.specs.declared.direction.Dir.{Dir}
use Rattle.ts_geometry.specs.declared.direction.Dir.TheVariants.{Yoko, Tate, Dtou}
use Rattle.ts_geometry.specs.declared.measure.Sp.{Sp}
use Rattle.ts_geometry.specs.declared.measure.Point.{Point}
use Rattle.ts_geometry.specs.declared.measure.Measures.{Measures}
use Rattle.ts_geometry.specs.declared.measure.Rect.{Rect}
use Rattle.ts_geometry.specs.Directions.{sp, step, rect, step_rect, extent}
use Rattle.ts_geometry.specs.Crossings.{seen, inner_point}
use Rattle.ts_geometry.specs.Laws.{CrossingsKeepExtents, CrossingsMoveAlong, EachPointIsInner, CrossingsNest, WaysOfSeeingAgree}
use Rattle.ts_geometry.proofs.Moved.{same_point, rect-injective, steps_move_rectangles}
use Rattle.ts_geometry.proofs.Crossed.{rect-inner_point}

-- what a box covers is as wide and high wherever it is set
extent-rect : (m : Measures) (dir : Dir) (p q : Point) → extent (rect m p dir) ≡ extent (rect m q dir)
extent-rect m Yoko p q = same_point _ _ _ _ (omega (arith, ints)) (omega (arith, ints))
extent-rect m Tate p q = same_point _ _ _ _ (omega (arith, ints)) (omega (arith, ints))
extent-rect m Dtou p q = same_point _ _ _ _ (omega (arith, ints)) (omega (arith, ints))

pub crossings_keep_extents : CrossingsKeepExtents
crossings_keep_extents m own from p q = ap extent (sym (rect-inner_point m own p from)) ∙ extent-rect m own (inner_point m own p from) q

-- both cover what the list sees at the point that the step leads to
pub crossings_move_along : CrossingsMoveAlong
crossings_move_along m own from dir p along across =
    rect-injective m own (inner_point m own (step p dir along across) from) (step (inner_point m own p from) dir along across)
    (rect-inner_point m own (step p dir along across) from
    ∙ steps_move_rectangles (seen m own from) p from dir along across
    ∙ sym (ap (λ (r : Rect). step_rect r dir along across) (rect-inner_point m own p from))
    ∙ sym (steps_move_rectangles m (inner_point m own p from) own dir along across))

-- the point that lies from the wanted one as the wanted one lies from its own inner point
pub each_point_is_inner : EachPointIsInner
each_point_is_inner m own from inner =
    let start : Point = inner_point m own inner from in
    let right : Sp = sp (inner.x.0 -ℤ start.x.0) in
    let down : Sp = sp (inner.y.0 -ℤ start.y.0) in
    (step inner Yoko right down, crossings_move_along m own from Yoko inner right down ∙ same_point _ _ inner.x.0 inner.y.0 (omega (arith, ints)) (omega (arith, ints)))

pub crossings_nest : CrossingsNest
crossings_nest m own through p from =
    sym (rect-inner_point (seen m own through) through p from)
    ∙ sym (rect-inner_point m own (inner_point (seen m own through) through p from) through)

pub ways_of_seeing_agree : WaysOfSeeingAgree
ways_of_seeing_agree m own through from p q e =
    sym (rect-inner_point m own q from)
    ∙ ap (λ (r : Point). rect m r own) e
    ∙ sym (crossings_nest m own through p from)
