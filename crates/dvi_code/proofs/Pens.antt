-- What a pen keeps and what it means.
use Rattle.std.proofs.Common.{◌≡◌, List, [], ◌∷◌, ◌++◌, Ok, Err, refl, ap, ◌∙◌, ℤ, Some, None, Bool, true, false, cond}
use Rattle.std.specs.Prelude.{◌&&◌}
use Rattle.std.proofs.lemmas.List.{append-nil}
use Rattle.ts_geometry.specs.declared.measure.Point.{Point}
use Rattle.ts_geometry.specs.Directions.{sp, point}
use Rattle.dvi_commands.specs.declared.fault.DviKind.TheVariants as kinds
use Rattle.dvi_code.specs.declared.mark.Mark.{Mark}
use Rattle.dvi_code.specs.declared.pen.Spot as spots
use Rattle.ts_base.specs.Agreement.{AgreesFault}
use Rattle.dvi_structure.specs.declared.refusal.Refusal.{Refusal}
use Rattle.dvi_structure.specs.declared.refusal.Refusal.TheVariants as refusals
use Rattle.dvi_structure.specs.Answers.{refused, refusal_cause}
use Rattle.dvi_code.specs.Pages.{Spot, Pen, moved, is_in_range, back_to}
use Rattle.dvi_code.specs.Straight.{spot_of, saved_of, near_point, coordinate, point_of}

pub saved_push : (ss : List spots.Spot) (s : spots.Spot) → saved_of (ss ++ s ∷ []) ≡ spot_of s ∷ saved_of ss
saved_push [] s = refl
saved_push (t ∷ ts) s = ap (λ (xs : List Spot). xs ++ spot_of t ∷ []) (saved_push ts s)

pub near_is : (a b : ℤ) → near_point (point a b) ≡ point_of (coordinate a) (coordinate b)
near_is a b = by_ranges (is_in_range a) (is_in_range b)
  where
    by_ranges : (p q : Bool) → cond (p && q) (Ok (point a b)) (Err kinds.Range) ≡ point_of (cond p (Some (sp a)) None) (cond q (Some (sp b)) None)
    by_ranges true true = refl
    by_ranges true false = refl
    by_ranges false q = refl

-- ---- moves

range_ok : (b : Bool) (q at : Point) → refused (cond b (Ok q) (Err kinds.Range)) ≡ Ok at → (b ≡ true) × (q ≡ at)
range_ok true q at e = (refl, cc)
range_ok false q at e = absurd cc

pub moved_ok : (p : Pen) (s : Spot) (at : Point) (more : List Mark) → refused (near_point s.at) ≡ Ok at
    → refused (moved p s more) ≡ Ok (record { spot = record s { at = at }; saved = p.saved; chosen = p.chosen; marks = p.marks ++ more })
moved_ok p s at more e =
    let r = range_ok (is_in_range s.at.x.0 && is_in_range s.at.y.0) s.at at e in
    rw r.0 (ap (λ (q : Point). Ok (record { spot = record s { at = q }; saved = p.saved; chosen = p.chosen; marks = p.marks ++ more })) r.1)

pub moved_still : (p : Pen) (s : Spot) (at : Point) → refused (near_point s.at) ≡ Ok at
    → refused (moved p s []) ≡ Ok (record { spot = record s { at = at }; saved = p.saved; chosen = p.chosen; marks = p.marks })
moved_still p s at e = moved_ok p s at [] e ∙ ap (λ (ms : List Mark). Ok (record { spot = record s { at = at }; saved = p.saved; chosen = p.chosen; marks = ms })) (append-nil p.marks)

range_err : (b : Bool) (q : Point) (p : Pen) (e : Refusal) → AgreesFault (refusal_cause e) e (refused (cond b (Ok q) (Err kinds.Range))) → AgreesFault (refusal_cause e) e (refused (cond b (Ok p) (Err kinds.Range)))
range_err true q p (refusals.Kind k) a = absurd cc
range_err false q p (refusals.Kind k) a = let same : kinds.Range ≡ k = cc in rw same refl
range_err b q p refusals.NoMemory a = tt

pub moved_err : (e : Refusal) (p : Pen) (s : Spot) (more : List Mark) → AgreesFault (refusal_cause e) e (refused (near_point s.at)) → AgreesFault (refusal_cause e) e (refused (moved p s more))
moved_err e p s more a = range_err (is_in_range s.at.x.0 && is_in_range s.at.y.0) s.at _ e a

pub back_none : (p : Pen) (ss : List spots.Spot) → ss ≡ [] → back_to p (saved_of ss) ≡ Err kinds.Stack
back_none p ss e = rw e refl

pub back_some : (p : Pen) (ss new : List spots.Spot) (s : spots.Spot) → ss ≡ new ++ s ∷ [] → back_to p (saved_of ss) ≡ Ok (record { spot = spot_of s; saved = saved_of new; chosen = p.chosen; marks = p.marks })
back_some p ss new s e = rw (e, saved_push new s) refl
