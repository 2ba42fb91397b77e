-- What boxes mark.
use Rattle.std.proofs.Common.{◌≡◌, ◌^◌, ◌≤◌, refl, ℤ, pos, ◌+ℤ◌, Option, Some, None, List, [], length, arith, length-append, Bool, true, false, if◌then◌else◌}
use Rattle.std.specs.Prelude.{All, ◌<ℤ◌}
use Rattle.std.proofs.lemmas.Int.{ints}
use Rattle.std.proofs.lemmas.List.Elements.{All-nil, All-cons, All-append}
use Rattle.ts_geometry.specs.declared.direction.Dir.{Dir}
use Rattle.ts_geometry.specs.declared.direction.Dir.TheVariants.{Yoko, Tate, Dtou}
use Rattle.ts_geometry.specs.declared.measure.Measures.{Measures}
use Rattle.ts_geometry.specs.declared.measure.Point.{Point}
use Rattle.ts_geometry.specs.declared.measure.Sp.{Sp}
use Rattle.ts_geometry.specs.Crossings.{inner_point}
use Rattle.ts_geometry.specs.Directions.{rect}
use Rattle.box_tree.specs.declared.frame.Frame.{Frame}
use Rattle.box_tree.specs.Bounds.{HasDimens, PointIsNear}
use Rattle.box_tree.specs.Offsets.{measures_or, item_extent, item_part, offset}
use Rattle.box_tree.specs.Places.{item_point}
use Rattle.box_tree.specs.Sound.{IsSound}
use Rattle.box_tree.specs.Trees.{Plain, glyph, kanji, rule, glue, kern, penalty, BoxTree, node, TreeItems, no_items, item, TreeItem, plain, box, crossed, size_of, dir_of}
use Rattle.box_tree.specs.Weights.{weight, weights, item_weight}
use Rattle.box_marks.specs.declared.placed.Placed.{Placed}
use Rattle.box_marks.specs.Glyphs.{OfGlyphs, PlainMeets, GlyphsMeet, ItemsMeet, ItemMeets, PieceMeets, IsBelow, IsGiven}
use Rattle.box_marks.specs.Bounds.{IsSoundRule}
use Rattle.box_marks.specs.Laws.{FewArePlaced, PlacedFontsAreBelow, PlacedWidthsAreGiven, PagesBeginInTheCorner}
use Rattle.box_marks.specs.Marks.{point_for, corner, page_point}
use Rattle.box_marks.specs.Placing.{total_height, is_marked, plain_placed, listed, box_placed, items_placed, item_placed}

-- ---- how many

few_listed : (p : Option Placed) → length (listed p) ≤ 1
few_listed None = omega arith
few_listed (Some p) = omega arith

mutual
  few_of_box : (b : BoxTree) (at : Point) → length (box_placed b at) ≤ weight b
  few_of_box (node kind dir size set items) at =
      let few = few_of_items (record { kind = kind; dir = dir; size = size; set = set; at = at }) (pos 0) (pos 0) items in
      omega arith

  few_of_items : (f : Frame) (n p : ℤ) (xs : TreeItems) → length (items_placed f n p xs) ≤ weights xs
  few_of_items f n p no_items = omega arith
  few_of_items f n p (item x rest) =
      let at : Point = item_point f (offset f.set n p) x in
      let a : List Placed = item_placed f at x in
      let b : List Placed = items_placed f (n +ℤ item_extent f.kind x) (p +ℤ item_part f.set x) rest in
      let one = few_of_item f at x in
      let others = few_of_items f (n +ℤ item_extent f.kind x) (p +ℤ item_part f.set x) rest in
      omega (arith, length-append a b)

  few_of_item : (f : Frame) (at : Point) (x : TreeItem) → length (item_placed f at x) ≤ item_weight x
  few_of_item f at (plain p) = few_listed (plain_placed f at p)
  few_of_item f at (box b shift) = few_of_box b at
  few_of_item f at (crossed b shift seen) = few_of_box b (inner_point (size_of b) (dir_of b) at f.dir)

pub few_are_placed : FewArePlaced
few_are_placed b at = few_of_box b at

-- ---- glyphs

abbrev Meets : OfGlyphs → Placed → Type 0
Meets P p = PieceMeets P p.piece

rule_meets : (P : OfGlyphs) (seen : Bool) (p : Placed) → Meets P p → All (Meets P) (listed (if seen then Some p else None))
rule_meets P true p m = All-cons (Meets P) p [] m (All-nil (Meets P))
rule_meets P false p m = All-nil (Meets P)

plain_meets : (P : OfGlyphs) (f : Frame) (at : Point) (p : Plain) → PlainMeets P p → All (Meets P) (listed (plain_placed f at p))
plain_meets P f at (glyph font code size shift first last) m = All-cons (Meets P) _ [] m (All-nil (Meets P))
plain_meets P f at (kanji font cell size kind) m = All-cons (Meets P) _ [] m (All-nil (Meets P))
plain_meets P f at (rule wd ht dp) m = rule_meets P (is_marked (measures_or wd ht dp f.size)) _ tt
plain_meets P f at (glue g from) m = All-nil (Meets P)
plain_meets P f at (kern width from) m = All-nil (Meets P)
plain_meets P f at (penalty value auto) m = All-nil (Meets P)

mutual
  box_meets : (P : OfGlyphs) (b : BoxTree) (at : Point) → GlyphsMeet P b → All (Meets P) (box_placed b at)
  box_meets P (node kind dir size set items) at m =
      items_meet P (record { kind = kind; dir = dir; size = size; set = set; at = at }) (pos 0) (pos 0) items m

  items_meet : (P : OfGlyphs) (f : Frame) (n p : ℤ) (xs : TreeItems) → ItemsMeet P xs → All (Meets P) (items_placed f n p xs)
  items_meet P f n p no_items m = All-nil (Meets P)
  items_meet P f n p (item x rest) m =
      let at : Point = item_point f (offset f.set n p) x in
      All-append (Meets P) (item_placed f at x) (items_placed f (n +ℤ item_extent f.kind x) (p +ℤ item_part f.set x) rest)
      (item_meets P f at x m.0) (items_meet P f (n +ℤ item_extent f.kind x) (p +ℤ item_part f.set x) rest m.1)

  item_meets : (P : OfGlyphs) (f : Frame) (at : Point) (x : TreeItem) → ItemMeets P x → All (Meets P) (item_placed f at x)
  item_meets P f at (plain p) m = plain_meets P f at p m
  item_meets P f at (box b shift) m = box_meets P b at m
  item_meets P f at (crossed b shift seen) m = box_meets P b (inner_point (size_of b) (dir_of b) at f.dir) m

pub placed_fonts_are_below : PlacedFontsAreBelow
placed_fonts_are_below count b at m = box_meets (IsBelow count) b at m

pub placed_widths_are_given : PlacedWidthsAreGiven
placed_widths_are_given widths b at m = box_meets (IsGiven widths) b at m

-- ---- the corner

begins : (m : Measures) (dir : Dir) → ((rect m (point_for (rect m corner dir)) dir).left.0 ≡ pos 0) × ((rect m (point_for (rect m corner dir)) dir).top.0 ≡ pos 0)
begins m Yoko = (omega (arith, ints), omega (arith, ints))
begins m Tate = (omega (arith, ints), omega (arith, ints))
begins m Dtou = (omega (arith, ints), omega (arith, ints))

point_for_near : (m : Measures) (dir : Dir) → HasDimens m → PointIsNear (2 ^ 59) (point_for (rect m corner dir))
point_for_near m Yoko d = record { x = (omega (arith, ints), omega (arith, ints)); y = (omega (arith, ints), omega (arith, ints)) }
point_for_near m Tate d = record { x = (omega (arith, ints), omega (arith, ints)); y = (omega (arith, ints), omega (arith, ints)) }
point_for_near m Dtou d = record { x = (omega (arith, ints), omega (arith, ints)); y = (omega (arith, ints), omega (arith, ints)) }

pub page_point_near : (b : BoxTree) → IsSound b → PointIsNear (2 ^ 59) (page_point b)
page_point_near (node kind dir size set items) s = point_for_near size dir s.0

-- ---- rules

pub rule_sound : (m : Measures) (height : Sp) → height ≡ total_height m → pos 0 <ℤ height.0 → pos 0 <ℤ m.wd.0 → HasDimens m → IsSoundRule height m.wd
rule_sound m height e h w d =
    let is : height.0 ≡ m.ht.0 +ℤ m.dp.0 = rw e refl in
    record { high = h; not_too_high = omega (arith, ints, d.ht, d.dp); wide = w; width_near = d.wd }

pub pages_begin_in_the_corner : PagesBeginInTheCorner
pages_begin_in_the_corner b = begins (size_of b) (dir_of b)
