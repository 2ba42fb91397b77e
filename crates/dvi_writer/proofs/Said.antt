-- One glyph or rule that is written.
use Rattle.std.proofs.Common.{◌≡◌, [], ◌∷◌, refl, arith, pos, Bool, true, false, subst}
use Rattle.std.specs.Prelude.{◌&&◌}
use Rattle.std.proofs.lemmas.Int.{ints}
use Rattle.std.proofs.lemmas.List.{append-nil}
use Rattle.ts_geometry.specs.declared.direction.Dir.{Dir}
use Rattle.ts_geometry.specs.declared.direction.Dir.TheVariants.{Yoko, Tate, Dtou}
use Rattle.ts_geometry.specs.declared.measure.Point.{Point}
use Rattle.ts_geometry.specs.declared.measure.Sp.{Sp}
use Rattle.ts_geometry.specs.Directions.{sp, step}
use Rattle.ts_geometry.specs.Numbers.{IsWithin}
use Rattle.box_tree.specs.Bounds.{IsDimen}
use Rattle.box_marks.specs.Bounds.{IsSoundPiece}
use Rattle.box_marks.specs.declared.placed.Piece.{Piece}
use Rattle.box_marks.specs.declared.placed.Piece.TheVariants.{Glyph, Rule}
use Rattle.box_marks.specs.declared.placed.Placed.{Placed}
use Rattle.dvi_writer.specs.declared.hand.Hand.{Hand}
use Rattle.dvi_writer.specs.declared.pen.Pen.{Pen}
use Rattle.dvi_writer.specs.Saying.{said, after, width_of, is_on_page, is_short, fits, most_coordinate, IsOnPage, IsInReach}
use Rattle.dvi_writer.specs.Wrote.{Wrote, Writes, HasByte}

-- ---- what fits

-- nothing follows from true
abbrev IfTrue : Bool → Type 0
IfTrue true = ⊥
IfTrue false = Unit {0}

pub both_true : (a b : Bool) → (a && b) ≡ true → (a ≡ true) × (b ≡ true)
both_true true b e = (refl, e)
both_true false b e = absurd (subst (λ (c : Bool). IfTrue c) e tt)

on_page_if : (s : Sp) → is_on_page s ≡ true → IsWithin most_coordinate s.0
on_page_if s e = grind (arith, ints)

pub on_page : (p : Placed) → fits p ≡ true → IsOnPage p.at
unfolding fits
on_page p e =
    let a = both_true (is_on_page p.at.x) _ e in
    let b = both_true (is_on_page p.at.y) _ a.1 in
    record { x = on_page_if p.at.x a.0; y = on_page_if p.at.y b.0 }

pub is_short_there : (p : Placed) → fits p ≡ true → is_short p.piece ≡ true
unfolding fits
is_short_there p e = (both_true (is_on_page p.at.y) _ (both_true (is_on_page p.at.x) _ e).1).1

-- ---- where writing stands after it

width_sound : (piece : Piece) → IsSoundPiece piece → IsDimen (width_of piece)
width_sound (Glyph font code width) s = s
width_sound (Rule height width) s = s.width_near

step_near : (p : Point) (dir : Dir) (width : Sp) → IsOnPage p → IsDimen width → IsInReach (step p dir width (sp (pos 0)))
step_near p Yoko width on d = record { x = (omega (arith, ints, on.x), omega (arith, ints, on.x)); y = (omega (arith, ints, on.y), omega (arith, ints, on.y)) }
step_near p Tate width on d = record { x = (omega (arith, ints, on.x), omega (arith, ints, on.x)); y = (omega (arith, ints, on.y), omega (arith, ints, on.y)) }
step_near p Dtou width on d = record { x = (omega (arith, ints, on.x), omega (arith, ints, on.x)); y = (omega (arith, ints, on.y), omega (arith, ints, on.y)) }

pub after_near : (h : Hand) (p : Placed) → fits p ≡ true → IsSoundPiece p.piece → IsInReach (after h p).at
after_near h p e s = step_near p.at p.dir (width_of p.piece) (on_page p e) (width_sound p.piece s)

pub writes_one : (old new : Pen) (p : Placed) → Wrote old.out.items new.out.items (said old.hand p) → new.hand ≡ after old.hand p → fits p ≡ true → IsSoundPiece p.piece → HasByte p.piece
    → Writes old new (p ∷ [])
writes_one old new p w e f s b = record {
  wrote = rw (append-nil (said old.hand p)) w;
  hand = e;
  fit = rw f refl;
  sound = (s, (b, tt));
  near = rw e (after_near old.hand p f s);
}
