-- What a box that is set from a point marks: its glyphs and its rules, each at its point and in the
-- direction of the list that holds it, in the order of the lists (TeX: The Program, sections 619 to
-- 640; the directions are pTeX's).
use Rattle.std.specs.Prelude.{ℤ, pos, ◌+ℤ◌, int_lt, ◌&&◌, Bool, if◌then◌else◌, Option, Some, None, List, [], ◌∷◌, ◌++◌}
use Rattle.jis_codes.specs.Numbers.{number_of}
use Rattle.jis_codes.specs.Spellings.{jis}
use Rattle.ts_geometry.specs.declared.direction.Dir.{Dir}
use Rattle.ts_geometry.specs.declared.measure.Measures.{Measures}
use Rattle.ts_geometry.specs.declared.measure.Point.{Point}
use Rattle.ts_geometry.specs.declared.measure.Sp.{Sp}
use Rattle.ts_geometry.specs.Crossings.{inner_point}
use Rattle.ts_geometry.specs.Directions.{sp, step}
use Rattle.box_tree.specs.declared.frame.Frame.{Frame}
use Rattle.box_tree.specs.Offsets.{measures_or, item_extent, item_part, offset}
use Rattle.box_tree.specs.Places.{item_point}
use Rattle.box_tree.specs.Trees.{Plain, glyph, kanji, rule, glue, kern, penalty, BoxTree, node, TreeItems, no_items, item, TreeItem, plain, box, crossed, size_of, dir_of}
use Rattle.box_marks.specs.declared.placed.Piece.{Piece}
use Rattle.box_marks.specs.declared.placed.Piece.TheVariants.{Glyph, Rule}
use Rattle.box_marks.specs.declared.placed.Placed.{Placed}

abbrev pub placed_at : Piece → Point → Dir → Placed
placed_at piece at dir = record { piece = piece; at = at; dir = dir }

-- ---- items

-- a height with depth
abbrev pub total_height : Measures → Sp
total_height m = sp (m.ht.0 +ℤ m.dp.0)

-- a rule is marked where its height with depth and its width are above 0
abbrev pub is_marked : Measures → Bool
is_marked m = int_lt (pos 0) (total_height m).0 && int_lt (pos 0) m.wd.0

-- a rule of these measures, at the point moved across by its depth
abbrev pub rule_placed : Frame → Point → Measures → Option Placed
rule_placed f at m = if is_marked m
    then Some (placed_at (Rule (total_height m) m.wd) (step at f.dir (sp (pos 0)) m.dp) f.dir)
    else None

-- what an item without a box marks whose reference point this is
abbrev pub plain_placed : Frame → Point → Plain → Option Placed
plain_placed f at (glyph font code size shift first last) =
    Some (placed_at (Glyph font code size.wd) at f.dir)
plain_placed f at (kanji font cell size kind) =
    Some (placed_at (Glyph font (number_of jis cell) size.wd) at f.dir)
-- a measure that is absent runs to that of the box
plain_placed f at (rule wd ht dp) = rule_placed f at (measures_or wd ht dp f.size)
plain_placed f at (glue g from) = None
plain_placed f at (kern width from) = None
plain_placed f at (penalty value auto) = None

-- what an item itself marks
abbrev pub own_placed : Frame → Point → TreeItem → Option Placed
own_placed f at (plain p) = plain_placed f at p
own_placed f at (box b shift) = None
own_placed f at (crossed b shift seen) = None

abbrev pub listed : Option Placed → List Placed
listed None = []
listed (Some p) = p ∷ []

-- ---- boxes

abbrev mutual
  -- what a box marks that is set from this point
  pub box_placed : BoxTree → Point → List Placed
  box_placed (node kind dir size set items) at =
      let f : Frame = record { kind = kind; dir = dir; size = size; set = set; at = at } in
      items_placed f (pos 0) (pos 0) items

  -- what items mark before which this natural sum and this stretch or shrink of the set order stand
  pub items_placed : Frame → ℤ → ℤ → TreeItems → List Placed
  items_placed f natural part no_items = []
  items_placed f natural part (item x rest) =
      item_placed f (item_point f (offset f.set natural part) x) x
      ++ items_placed f (natural +ℤ item_extent f.kind x) (part +ℤ item_part f.set x) rest

  -- what an item marks whose reference point this is; a box of another direction is set from its
  -- inner point
  pub item_placed : Frame → Point → TreeItem → List Placed
  item_placed f at (plain p) = listed (plain_placed f at p)
  item_placed f at (box b shift) = box_placed b at
  item_placed f at (crossed b shift seen) =
      box_placed b (inner_point (size_of b) (dir_of b) at f.dir)
