-- The commands that are said of glyphs and rules draw them.
use Rattle.std.proofs.Common.{◌≡◌, ℕ, List, [], ◌∷◌, ◌++◌, map, refl, ap, ◌∙◌, append_assoc, arith, ℤ, pos, Bool, true, false, Option, Some, None, Ok, subst, if◌then◌else◌}
use Rattle.std.specs.Prelude.{neg_ℤ, ◌≤ℤ◌, ◌<ℤ◌, int_lt, nat_eq}
use Rattle.std.specs.Ordering.{int_eq}
use Rattle.std.proofs.lemmas.Int.{ints}
use Rattle.std.proofs.lemmas.List.{append-nil}
use Rattle.ts_geometry.specs.declared.direction.Dir.{Dir}
use Rattle.ts_geometry.specs.declared.direction.Dir.TheVariants.{Yoko, Tate, Dtou}
use Rattle.ts_geometry.specs.declared.measure.Point.{Point}
use Rattle.ts_geometry.specs.declared.measure.Sp.{Sp}
use Rattle.ts_geometry.specs.Directions.{sp, point, step}
use Rattle.box_tree.specs.declared.item.FontNo.{FontNo}
use Rattle.box_marks.specs.declared.placed.Piece.{Piece}
use Rattle.box_marks.specs.declared.placed.Piece.TheVariants.{Glyph, Rule}
use Rattle.box_marks.specs.declared.placed.Placed.{Placed}
use Rattle.box_marks.specs.Bounds.{IsSoundPiece}
use Rattle.box_marks.specs.Marks.{font_at, mark_of}
use Rattle.dvi_commands.specs.declared.font.FontDef.{FontDef}
use Rattle.dvi_commands.specs.Commands as c
use Rattle.dvi_commands.specs.Commands.{Command}
use Rattle.dvi_structure.specs.Structure.{font_of}
use Rattle.dvi_code.specs.declared.mark.Mark.{Mark}
use Rattle.dvi_code.specs.Laws.{CommandsDrawOn, NothingDrawn, OneDrawn}
use Rattle.dvi_code.specs.Pages.{Widths, Pen, Spot, drawn, moved, is_in_range, stepped, rule, glyph_set}
use Rattle.dvi_code.specs.Reading.{Draws}
use Rattle.dvi_writer.specs.declared.hand.Hand.{Hand}
use Rattle.dvi_writer.specs.Saying.{same_dir, along, across, turn_said, right_said, down_said, is_chosen, font_said, piece_said, said, width_of, font_after, after, all_said, all_after, fits, all_fit, IsOnPage, IsInReach}
use Rattle.dvi_writer.specs.Tables.{numbered, width_in}
use Rattle.dvi_writer.specs.Wrote.{AreSound}
use Rattle.dvi_writer.proofs.Said.{both_true, on_page, after_near}

-- ---- pens

abbrev spot_at : Point → Dir → Spot
spot_at at dir = record { at = at; dir = dir; w = pos 0; x = pos 0; y = pos 0; z = pos 0 }

abbrev pen : Point → Dir → Option FontDef → List Mark → Pen
pen at dir chosen ms = record { spot = spot_at at dir; saved = []; chosen = chosen; marks = ms }

abbrev chosen_of : List FontDef → Option FontNo → Option FontDef
chosen_of fonts None = None
chosen_of fonts (Some n) = font_of fonts (pos n.0)

abbrev pub pen_of : List FontDef → Hand → List Mark → Pen
pen_of fonts h ms = pen h.at h.dir (chosen_of fonts h.font) ms

in_range : (z : ℤ) → neg_ℤ (pos 2147483647) ≤ℤ z → z ≤ℤ pos 2147483647 → is_in_range z ≡ true
in_range z low high = grind (arith, ints)

reach_x : (p : Point) → IsInReach p → is_in_range p.x.0 ≡ true
reach_x p r = in_range p.x.0 (omega (arith, ints, r.x)) (omega (arith, ints, r.x))

reach_y : (p : Point) → IsInReach p → is_in_range p.y.0 ≡ true
reach_y p r = in_range p.y.0 (omega (arith, ints, r.y)) (omega (arith, ints, r.y))

page_reach : (p : Point) → IsOnPage p → IsInReach p
page_reach p r = record { x = (omega (arith, ints, r.x), omega (arith, ints, r.x)); y = (omega (arith, ints, r.y), omega (arith, ints, r.y)) }

point_is : (a b d e : ℤ) → a ≡ d → b ≡ e → point a b ≡ point d e
point_is a b d e f g = ap (λ (z : ℤ). point z b) f ∙ ap (λ (z : ℤ). point d z) g

moved_to : (at to : Point) (dir : Dir) (chosen : Option FontDef) (ms : List Mark) (s : Spot) (more : List Mark) → s ≡ spot_at to dir → IsInReach to → moved (pen at dir chosen ms) s more ≡ Ok (pen to dir chosen (ms ++ more))
moved_to at to dir chosen ms s more e r = rw (e, reach_x to r, reach_y to r) refl

-- ---- movements

-- where the movement along ends, before that across
abbrev half : Dir → Point → Point → Point
half Yoko p q = point q.x.0 p.y.0
half Tate p q = point p.x.0 q.y.0
half Dtou p q = point p.x.0 q.y.0

half_reach : (dir : Dir) (p q : Point) → IsInReach p → IsInReach q → IsInReach (half dir p q)
half_reach Yoko p q r s = record { x = s.x; y = r.y }
half_reach Tate p q r s = record { x = r.x; y = s.y }
half_reach Dtou p q r s = record { x = r.x; y = s.y }

went_along : (dir : Dir) (p q : Point) → stepped (spot_at p dir) (along dir p q) (pos 0) ≡ spot_at (half dir p q) dir
went_along Yoko p q = ap (λ (t : Point). spot_at t Yoko) (point_is _ _ _ _ (omega (arith, ints)) (omega (arith, ints)))
went_along Tate p q = ap (λ (t : Point). spot_at t Tate) (point_is _ _ _ _ (omega (arith, ints)) (omega (arith, ints)))
went_along Dtou p q = ap (λ (t : Point). spot_at t Dtou) (point_is _ _ _ _ (omega (arith, ints)) (omega (arith, ints)))

went_across : (dir : Dir) (p q : Point) → stepped (spot_at (half dir p q) dir) (pos 0) (across dir p q) ≡ spot_at q dir
went_across Yoko p q = ap (λ (t : Point). spot_at t Yoko) (point_is _ _ _ _ (omega (arith, ints)) (omega (arith, ints)))
went_across Tate p q = ap (λ (t : Point). spot_at t Tate) (point_is _ _ _ _ (omega (arith, ints)) (omega (arith, ints)))
went_across Dtou p q = ap (λ (t : Point). spot_at t Dtou) (point_is _ _ _ _ (omega (arith, ints)) (omega (arith, ints)))

stood_along : (dir : Dir) (p q : Point) → along dir p q ≡ pos 0 → p ≡ half dir p q
stood_along Yoko p q e = point_is _ _ _ _ (omega (arith, ints)) refl
stood_along Tate p q e = point_is _ _ _ _ refl (omega (arith, ints))
stood_along Dtou p q e = point_is _ _ _ _ refl (omega (arith, ints))

stood_across : (dir : Dir) (p q : Point) → across dir p q ≡ pos 0 → half dir p q ≡ q
stood_across Yoko p q e = point_is _ _ _ _ refl (omega (arith, ints))
stood_across Tate p q e = point_is _ _ _ _ (omega (arith, ints)) refl
stood_across Dtou p q e = point_is _ _ _ _ (omega (arith, ints)) refl

is_zero : (z : ℤ) → int_eq z (pos 0) ≡ true → z ≡ pos 0
is_zero z e = grind (arith, ints)

pub same_number : (m n : ℕ) → nat_eq m n ≡ true → m ≡ n
same_number m n e = grind arith

-- ---- what glyphs need

abbrev pub HasFont : List FontDef → List FontDef → Piece → Type 0
HasFont fonts table (Glyph font code width) = font_of fonts (pos font.0) ≡ Some (numbered font.0 (font_at table font))
HasFont fonts table (Rule height width) = Unit {0}

abbrev pub HasWidth : Widths → List FontDef → Piece → Type 0
HasWidth widths table (Glyph font code width) = width_in widths table font code ≡ Some width
HasWidth widths table (Rule height width) = Unit {0}

abbrev pub AllHave : Widths → List FontDef → List FontDef → List Placed → Type 0
AllHave widths fonts table [] = Unit {0}
AllHave widths fonts table (p ∷ ps) = HasFont fonts table p.piece × (HasWidth widths table p.piece × AllHave widths fonts table ps)

module _ (nothing : NothingDrawn) (one : OneDrawn) (on : CommandsDrawOn) (widths : Widths) (fonts : List FontDef) where
  just : (p q : Pen) (cmd : Command) → drawn widths fonts p cmd ≡ Ok q → Draws widths fonts p (cmd ∷ []) q
  just p q cmd e = one widths fonts p q q cmd [] e (nothing widths fonts q)

  -- a command that is left out where it would change nothing
  unless : (left_out : Bool) (p q : Pen) (cmd : Command) → (left_out ≡ true → p ≡ q) → drawn widths fonts p cmd ≡ Ok q → Draws widths fonts p (if left_out then [] else cmd ∷ []) q
  unless true p q cmd same step = subst (Draws widths fonts p []) (same refl) (nothing widths fonts p)
  unless false p q cmd same step = just p q cmd step

  -- ---- a turn

  draws_turn : (at : Point) (from to : Dir) (chosen : Option FontDef) (ms : List Mark) → Draws widths fonts (pen at from chosen ms) (turn_said (same_dir from to) to) (pen at to chosen ms)
  unfolding drawn
  draws_turn at Yoko Yoko chosen ms = nothing widths fonts _
  draws_turn at Yoko Tate chosen ms = just _ _ _ refl
  draws_turn at Yoko Dtou chosen ms = just _ _ _ refl
  draws_turn at Tate Yoko chosen ms = just _ _ _ refl
  draws_turn at Tate Tate chosen ms = nothing widths fonts _
  draws_turn at Tate Dtou chosen ms = just _ _ _ refl
  draws_turn at Dtou Yoko chosen ms = just _ _ _ refl
  draws_turn at Dtou Tate chosen ms = just _ _ _ refl
  draws_turn at Dtou Dtou chosen ms = nothing widths fonts _

  draws_along : (dir : Dir) (p q : Point) (chosen : Option FontDef) (ms : List Mark) → IsInReach p → IsInReach q → Draws widths fonts (pen p dir chosen ms) (right_said (along dir p q)) (pen (half dir p q) dir chosen ms)
  unfolding drawn
  draws_along dir p q chosen ms r s =
      unless (int_eq (along dir p q) (pos 0)) (pen p dir chosen ms) (pen (half dir p q) dir chosen ms) (c.right (along dir p q))
      (λ e. ap (λ (t : Point). pen t dir chosen ms) (stood_along dir p q (is_zero (along dir p q) e)))
      (moved_to p (half dir p q) dir chosen ms _ [] (went_along dir p q) (half_reach dir p q r s) ∙ ap (λ (ts : List Mark). Ok (pen (half dir p q) dir chosen ts)) (append-nil ms))

  draws_across : (dir : Dir) (p q : Point) (chosen : Option FontDef) (ms : List Mark) → IsInReach q → Draws widths fonts (pen (half dir p q) dir chosen ms) (down_said (across dir p q)) (pen q dir chosen ms)
  unfolding drawn
  draws_across dir p q chosen ms s =
      unless (int_eq (across dir p q) (pos 0)) (pen (half dir p q) dir chosen ms) (pen q dir chosen ms) (c.down (across dir p q))
      (λ e. ap (λ (t : Point). pen t dir chosen ms) (stood_across dir p q (is_zero (across dir p q) e)))
      (moved_to (half dir p q) q dir chosen ms _ [] (went_across dir p q) s ∙ ap (λ (ts : List Mark). Ok (pen q dir chosen ts)) (append-nil ms))

  -- ---- a glyph or a rule

  draws_font : (at : Point) (dir : Dir) (from : Option FontNo) (font : FontNo) (ms : List Mark)
      → Draws widths fonts (pen at dir (chosen_of fonts from) ms) (font_said (is_chosen from font) font) (pen at dir (font_of fonts (pos font.0)) ms)
  unfolding drawn
  draws_font at dir None font ms = just _ _ _ refl
  draws_font at dir (Some from) font ms =
      unless (nat_eq from.0 font.0) _ _ (c.font (pos font.0)) (λ e. ap (λ (n : ℕ). pen at dir (font_of fonts (pos n)) ms) (same_number from.0 font.0 e)) refl

  draws_set : (table : List FontDef) (at : Point) (dir : Dir) (font : FontNo) (code : ℕ) (width : Sp) (ms : List Mark)
      → IsInReach (step at dir width (sp (pos 0))) → font_of fonts (pos font.0) ≡ Some (numbered font.0 (font_at table font)) → width_in widths table font code ≡ Some width
      → Draws widths fonts (pen at dir (font_of fonts (pos font.0)) ms) (c.set code ∷ [])
      (pen (step at dir width (sp (pos 0))) dir (font_of fonts (pos font.0)) (ms ++ mark_of table (record { piece = Glyph font code width; at = at; dir = dir }) ∷ []))
  unfolding drawn
  draws_set table at dir font code width ms r has given =
      let f : FontDef = numbered font.0 (font_at table font) in
      let to : Point = step at dir width (sp (pos 0)) in
      let more : List Mark = mark_of table (record { piece = Glyph font code width; at = at; dir = dir }) ∷ [] in
      let set : glyph_set (pen at dir (Some f) ms) f code (widths f code) ≡ Ok (pen to dir (Some f) (ms ++ more)) =
      ap (glyph_set (pen at dir (Some f) ms) f code) given ∙ moved_to at to dir (Some f) ms _ more refl r in
      rw has (just (pen at dir (Some f) ms) (pen to dir (Some f) (ms ++ more)) (c.set code) set)

  draws_rule : (table : List FontDef) (at : Point) (dir : Dir) (height width : Sp) (chosen : Option FontDef) (ms : List Mark)
      → IsInReach (step at dir width (sp (pos 0))) → pos 0 <ℤ height.0 → pos 0 <ℤ width.0
      → Draws widths fonts (pen at dir chosen ms) (c.set_rule height.0 width.0 ∷ [])
      (pen (step at dir width (sp (pos 0))) dir chosen (ms ++ mark_of table (record { piece = Rule height width; at = at; dir = dir }) ∷ []))
  unfolding drawn
  draws_rule table at dir height width chosen ms r high wide =
      let to : Point = step at dir width (sp (pos 0)) in
      let more : List Mark = mark_of table (record { piece = Rule height width; at = at; dir = dir }) ∷ [] in
      let h : int_lt (pos 0) height.0 ≡ true = grind (arith, ints) in
      let w : int_lt (pos 0) width.0 ≡ true = grind (arith, ints) in
      let is : rule height.0 width.0 (spot_at at dir) ≡ more = rw (h, w) refl in
      just _ _ _ (ap (moved (pen at dir chosen ms) (stepped (spot_at at dir) width.0 (pos 0))) is ∙ moved_to at to dir chosen ms _ more refl r)

  draws_piece : (table : List FontDef) (from : Option FontNo) (piece : Piece) (at : Point) (dir : Dir) (ms : List Mark)
      → IsInReach (step at dir (width_of piece) (sp (pos 0))) → IsSoundPiece piece → HasFont fonts table piece → HasWidth widths table piece
      → Draws widths fonts (pen at dir (chosen_of fonts from) ms) (piece_said from piece)
      (pen (step at dir (width_of piece) (sp (pos 0))) dir (chosen_of fonts (font_after from piece)) (ms ++ mark_of table (record { piece = piece; at = at; dir = dir }) ∷ []))
  draws_piece table from (Glyph font code width) at dir ms r sound has given =
      on widths fonts _ _ _ (font_said (is_chosen from font) font) (c.set code ∷ []) (draws_font at dir from font ms) (draws_set table at dir font code width ms r has given)
  draws_piece table from (Rule height width) at dir ms r sound has given = draws_rule table at dir height width (chosen_of fonts from) ms r sound.high sound.wide

  draws_said : (table : List FontDef) (h : Hand) (p : Placed) (ms : List Mark) → IsInReach h.at → fits p ≡ true → IsSoundPiece p.piece → HasFont fonts table p.piece → HasWidth widths table p.piece
      → Draws widths fonts (pen_of fonts h ms) (said h p) (pen_of fonts (after h p) (ms ++ mark_of table p ∷ []))
  draws_said table h p ms r fit sound has given =
      let s : IsInReach p.at = page_reach p.at (on_page p fit) in
      let chosen : Option FontDef = chosen_of fonts h.font in
      on widths fonts _ _ _ (turn_said (same_dir h.dir p.dir) p.dir) _ (draws_turn h.at h.dir p.dir chosen ms)
      (on widths fonts _ _ _ (right_said (along p.dir h.at p.at)) _ (draws_along p.dir h.at p.at chosen ms r s)
      (on widths fonts _ _ _ (down_said (across p.dir h.at p.at)) (piece_said h.font p.piece) (draws_across p.dir h.at p.at chosen ms s)
      (draws_piece table h.font p.piece p.at p.dir ms (after_near h p fit sound) sound has given)))

  pub draws_all : (table : List FontDef) (h : Hand) (ps : List Placed) (ms : List Mark) → IsInReach h.at → all_fit ps ≡ true → AreSound ps → AllHave widths fonts table ps
      → Draws widths fonts (pen_of fonts h ms) (all_said h ps) (pen_of fonts (all_after h ps) (ms ++ map (mark_of table) ps))
  draws_all table h [] ms r fit sound has = rw (append-nil ms) (nothing widths fonts (pen_of fonts h ms))
  draws_all table h (p ∷ ps) ms r fit sound has =
      let split = both_true (fits p) (all_fit ps) fit in
      let first = draws_said table h p ms r split.0 sound.0 has.0 has.1.0 in
      let others = draws_all table (after h p) ps (ms ++ mark_of table p ∷ []) (after_near h p split.0 sound.0) split.1 sound.1.1 has.1.1 in
      let all = on widths fonts _ _ _ (said h p) (all_said (after h p) ps) first others in
      let same : (ms ++ mark_of table p ∷ []) ++ map (mark_of table) ps ≡ ms ++ mark_of table p ∷ map (mark_of table) ps = append_assoc ms (mark_of table p ∷ []) (map (mark_of table) ps) in
      subst (λ (ts : List Mark). Draws widths fonts (pen_of fonts h ms) (said h p ++ all_said (after h p) ps) (pen_of fonts (all_after (after h p) ps) ts)) same all
