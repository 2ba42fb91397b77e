-- What the bytes of the glyphs say and draw.
use Rattle.std.proofs.Common.{◌≡◌, ℕ, ◌+◌, ◌*◌, List, [], ◌∷◌, ◌++◌, length, map, refl, ap, ◌∙◌, append_assoc, arith, ℤ, pos, true, Option, Some, None, Ok, subst, length-append}
use Rattle.std.specs.Prelude.{neg_ℤ, ◌≤ℤ◌, ◌+ℤ◌}
use Rattle.std.specs.Int.{w32}
use Rattle.std.specs.Int.RustNames.{FitsSigned}
use Rattle.std.specs.List.{flat_map, AllByRecursion}
use Rattle.std.proofs.lemmas.Int.{ints}
use Rattle.std.proofs.lemmas.List.{append-nil}
use Rattle.std.proofs.lemmas.List.Concat.{flat_map-cons}
use Rattle.ts_geometry.specs.declared.measure.Sp.{Sp}
use Rattle.ts_geometry.specs.declared.direction.Dir.TheVariants.{Yoko}
use Rattle.dvi_commands.specs.declared.font.FontDef.{FontDef}
use Rattle.dvi_code.specs.declared.mark.Mark.{Mark}
use Rattle.dvi_commands.specs.Commands as c
use Rattle.dvi_commands.specs.Commands.{Command}
use Rattle.dvi_structure.specs.Structure.{Inside, inside}
use Rattle.dvi_code.specs.Pages.{Widths, Pen, Spot, spot, drawn, moved, is_in_range, stepped, glyph_set}
use Rattle.dvi_commands.specs.Spelling.{Spells}
use Rattle.dvi_code.specs.Reading.{all_inside, Draws}
use Rattle.dvi_commands.specs.Laws.{SpellingsJoin, SaysPush, SaysPop, SaysEop, SaysRight, SaysDown, SaysSet, SaysFontDef, SaysPost, SaysPostPost}
use Rattle.dvi_code.specs.Laws.{CommandsLead, BytesLeadOn, CommandsDrawOn, BodiesJoin, BodiesLead, LastPlaced, NothingDrawn, OneDrawn}
use Rattle.ts_job.specs.declared.writer.page.Glyph.{Glyph}
use Rattle.ts_job.specs.Written.{right_bytes, down_bytes, set_bytes, glyph_bytes}
use Rattle.std.specs.Option.{IsSomeAnd}
use Rattle.ts_geometry.specs.Numbers.{IsWithin, max_dimen}
use Rattle.ts_job.specs.Meant.{max_coordinate, FitsGlyph, mark_meant}

-- what the meaning of DVI says of bytes and commands, from the laws that the code calls
pub record DviLaws : Type 0 where
  pub join : SpellingsJoin
  pub push : SaysPush
  pub pop : SaysPop
  pub eop : SaysEop
  pub right : SaysRight
  pub down : SaysDown
  pub set : SaysSet
  pub font_def : SaysFontDef
  pub post : SaysPost
  pub post_post : SaysPostPost
  pub lead : CommandsLead
  pub lead_on : BytesLeadOn
  pub draw_on : CommandsDrawOn
  pub bodies : BodiesJoin
  pub body : BodiesLead
  pub last : LastPlaced
  pub none : NothingDrawn
  pub one : OneDrawn

abbrev pub glyph_said : Glyph → List Command
glyph_said g = c.push ∷ c.right g.at.x.0 ∷ c.down g.at.y.0 ∷ c.set g.code ∷ c.pop ∷ []

-- ---- bytes

fits_short : (z : Sp) → IsWithin max_coordinate z.0 → FitsSigned w32 z.0
fits_short z short = omega (arith, ints)

glyph_spelt : (l : DviLaws) → (g : Glyph) → FitsGlyph g → Spells (glyph_bytes g) (glyph_said g)
unfolding glyph_bytes
glyph_spelt l g fits =
    let rest4 : List ℕ = 142 ∷ [] in
    let rest3 : List ℕ = set_bytes g.code ++ rest4 in
    let rest2 : List ℕ = down_bytes g.at.y ++ rest3 in
    let rest1 : List ℕ = right_bytes g.at.x ++ rest2 in (
      141 ∷ [],
      rest1,
      refl,
      l.push,
      (
        right_bytes g.at.x,
        rest2,
        refl,
        l.right g.at.x.0 (fits_short g.at.x fits.x),
        (
          down_bytes g.at.y,
          rest3,
          refl,
          l.down g.at.y.0 (fits_short g.at.y fits.y),
          (set_bytes g.code, rest4, refl, l.set g.code fits.code, (142 ∷ [], [], refl, l.pop, refl)),
        ),
      ),
    )

pub glyphs_spelt : (l : DviLaws) → (gs : List Glyph) → AllByRecursion FitsGlyph gs → Spells (flat_map glyph_bytes gs) (flat_map glyph_said gs)
glyphs_spelt l [] fits = refl
glyphs_spelt l (g ∷ gs) fits =
    rw (flat_map-cons glyph_bytes g gs) (l.join (glyph_said g) (flat_map glyph_said gs) (glyph_bytes g) (flat_map glyph_bytes gs) (glyph_spelt l g fits.0) (glyphs_spelt l gs fits.1))

length-glyph : (g : Glyph) → length (glyph_bytes g) ≡ 15
unfolding glyph_bytes
length-glyph g = refl

pub length-glyphs : (gs : List Glyph) → length (flat_map glyph_bytes gs) ≡ 15 * length gs
length-glyphs [] = refl
length-glyphs (g ∷ gs) =
    let long : length (flat_map glyph_bytes (g ∷ gs)) ≡ length (glyph_bytes g) + length (flat_map glyph_bytes gs) = ap length (flat_map-cons glyph_bytes g gs) ∙ length-append (glyph_bytes g) (flat_map glyph_bytes gs) in
    let one = length-glyph g in
    let others = length-glyphs gs in
    omega arith

-- ---- the structure

abbrev chosen : Inside
chosen = record { depth = 0; chosen = true }

glyph_inside : (fonts : List FontDef) (g : Glyph) → all_inside fonts chosen (glyph_said g) ≡ Ok chosen
unfolding inside
glyph_inside fonts g = refl

pub glyphs_inside : (l : DviLaws) → (fonts : List FontDef) (gs : List Glyph) → all_inside fonts (record { depth = 0; chosen = true }) (flat_map glyph_said gs) ≡ Ok (record { depth = 0; chosen = true })
glyphs_inside l fonts [] = refl
glyphs_inside l fonts (g ∷ gs) =
    ap (λ (cs : List Command). all_inside fonts chosen cs) (flat_map-cons glyph_said g gs) ∙ l.bodies fonts (glyph_said g) (flat_map glyph_said gs) chosen chosen chosen (glyph_inside fonts g) (glyphs_inside l fonts gs)

-- ---- the marks

abbrev pen : ℤ → ℤ → List Spot → Option FontDef → List Mark → Pen
pen x y saved font marks = record { spot = spot x y Yoko; saved = saved; chosen = font; marks = marks }

in_range : (z : ℤ) → neg_ℤ (pos 2147483647) ≤ℤ z → z ≤ℤ pos 2147483647 → is_in_range z ≡ true
in_range z low high = grind (arith, ints)

spot_is : (x y v w : ℤ) → x ≡ v → y ≡ w → spot x y Yoko ≡ spot v w Yoko
spot_is x y v w e f = ap (λ (z : ℤ). spot z y Yoko) e ∙ ap (λ (z : ℤ). spot v z Yoko) f

moved_to : (p : Pen) (s : Spot) (x y : ℤ) (more : List Mark) → s ≡ spot x y Yoko → is_in_range x ≡ true → is_in_range y ≡ true → moved p s more ≡ Ok (pen x y p.saved p.chosen (p.marks ++ more))
moved_to p s x y more e f g = rw (e, f, g) refl

-- from the origin
to_x : (x : ℤ) → stepped (spot (pos 0) (pos 0) Yoko) x (pos 0) ≡ spot x (pos 0) Yoko
to_x x = spot_is _ _ _ _ (omega (arith, ints)) (omega (arith, ints))

to_y : (x y : ℤ) → stepped (spot x (pos 0) Yoko) (pos 0) y ≡ spot x y Yoko
to_y x y = spot_is _ _ _ _ (omega (arith, ints)) (omega (arith, ints))

stepped_on : (x y w : ℤ) → stepped (spot x y Yoko) w (pos 0) ≡ spot (x +ℤ w) y Yoko
stepped_on x y w = spot_is _ _ _ _ refl (omega (arith, ints))

-- a glyph with a width
set_glyph : (f : FontDef) (g : Glyph) (width : Option Sp) (saved : List Spot) (marks : List Mark) → FitsGlyph g → IsSomeAnd width (λ w. IsWithin max_dimen w.0)
    → (x : ℤ) × (glyph_set (pen g.at.x.0 g.at.y.0 saved (Some f) marks) f g.code width ≡ Ok (pen x g.at.y.0 saved (Some f) (marks ++ mark_meant f g ∷ [])))
set_glyph f g None saved marks fits wide = absurd wide
set_glyph f g (Some w) saved marks fits wide =
    let x : ℤ = g.at.x.0 in
    let y : ℤ = g.at.y.0 in
    (x +ℤ w.0, moved_to (pen x y saved (Some f) marks) _ (x +ℤ w.0) y (mark_meant f g ∷ []) (stepped_on x y w.0) (in_range (x +ℤ w.0) (omega (arith, ints, fits.x)) (omega (arith, ints, fits.x))) (in_range y (omega (arith, ints, fits.y)) (omega (arith, ints, fits.y))))

glyph_drawn : (l : DviLaws) → (widths : Widths) (fonts : List FontDef) (f : FontDef) (g : Glyph) (marks : List Mark) → FitsGlyph g → IsSomeAnd (widths f g.code) (λ width. IsWithin max_dimen width.0)
    → Draws widths fonts (pen (pos 0) (pos 0) [] (Some f) marks) (glyph_said g) (pen (pos 0) (pos 0) [] (Some f) (marks ++ mark_meant f g ∷ []))
unfolding drawn
glyph_drawn l widths fonts f g marks fits wide =
    let x : ℤ = g.at.x.0 in
    let y : ℤ = g.at.y.0 in
    let saved : List Spot = spot (pos 0) (pos 0) Yoko ∷ [] in
    let font : Option FontDef = Some f in
    let p0 : Pen = pen (pos 0) (pos 0) [] font marks in
    let p1 : Pen = pen (pos 0) (pos 0) saved font marks in
    let p2 : Pen = pen x (pos 0) saved font (marks ++ []) in
    let p3 : Pen = pen x y saved font ((marks ++ []) ++ []) in
    let x_in : is_in_range x ≡ true = in_range x (omega (arith, ints, fits.x)) (omega (arith, ints, fits.x)) in
    let y_in : is_in_range y ≡ true = in_range y (omega (arith, ints, fits.y)) (omega (arith, ints, fits.y)) in
    let e2 : drawn widths fonts p1 (c.right x) ≡ Ok p2 = moved_to p1 _ x (pos 0) [] (to_x x) x_in (in_range (pos 0) (omega (arith, ints)) (omega (arith, ints))) in
    let e3 : drawn widths fonts p2 (c.down y) ≡ Ok p3 = moved_to p2 _ x y [] (to_y x y) x_in y_in in
    let set = set_glyph f g (widths f g.code) saved ((marks ++ []) ++ []) fits wide in
    let p4 : Pen = pen set.0 y saved font (((marks ++ []) ++ []) ++ mark_meant f g ∷ []) in
    let p5 : Pen = pen (pos 0) (pos 0) [] font (((marks ++ []) ++ []) ++ mark_meant f g ∷ []) in
    let all : Draws widths fonts p0 (glyph_said g) p5 =
    l.one widths fonts p0 p1 _ _ _ refl (l.one widths fonts p1 p2 _ _ _ e2 (l.one widths fonts p2 p3 _ _ _ e3 (l.one widths fonts p3 p4 _ _ _ set.1 (l.one widths fonts p4 p5 _ _ _ refl (l.none widths fonts p5))))) in
    let same : (marks ++ []) ++ [] ≡ marks = append-nil (marks ++ []) ∙ append-nil marks in
    subst (λ (ms : List Mark). Draws widths fonts p0 (glyph_said g) (pen (pos 0) (pos 0) [] font (ms ++ mark_meant f g ∷ []))) same all

pub glyphs_drawn : (l : DviLaws) → (widths : Widths) (fonts : List FontDef) (f : FontDef) (gs : List Glyph) (marks : List Mark) → AllByRecursion FitsGlyph gs → AllByRecursion (λ g. IsSomeAnd (widths f g.code) (λ width. IsWithin max_dimen width.0)) gs
    → Draws widths fonts (pen (pos 0) (pos 0) [] (Some f) marks) (flat_map glyph_said gs) (pen (pos 0) (pos 0) [] (Some f) (marks ++ map (mark_meant f) gs))
glyphs_drawn l widths fonts f [] marks fits wide = rw (append-nil marks) (l.none widths fonts (pen (pos 0) (pos 0) [] (Some f) marks))
glyphs_drawn l widths fonts f (g ∷ gs) marks fits wide =
    let first = glyph_drawn l widths fonts f g marks fits.0 wide.0 in
    let others = glyphs_drawn l widths fonts f gs (marks ++ mark_meant f g ∷ []) fits.1 wide.1 in
    let all = l.draw_on widths fonts _ _ _ (glyph_said g) (flat_map glyph_said gs) first others in
    let same : (marks ++ mark_meant f g ∷ []) ++ map (mark_meant f) gs ≡ marks ++ mark_meant f g ∷ map (mark_meant f) gs = append_assoc marks (mark_meant f g ∷ []) (map (mark_meant f) gs) in
    rw (flat_map-cons glyph_said g gs) (subst (λ (ms : List Mark). Draws widths fonts (pen (pos 0) (pos 0) [] (Some f) marks) (glyph_said g ++ flat_map glyph_said gs) (pen (pos 0) (pos 0) [] (Some f) ms)) same all)
