-- The places of a set box: the reference points of the box, of its items, and of what is in them.
use Rattle.std.specs.Prelude.{ℕ, ℤ, pos, ◌+ℤ◌, ◌-ℤ◌}
use Rattle.ts_geometry.specs.declared.measure.Point.{Point}
use Rattle.ts_geometry.specs.declared.measure.Sp.{Sp}
use Rattle.ts_geometry.specs.Directions.{sp, step}
use Rattle.ts_geometry.specs.Crossings.{inner_point}
use Rattle.box_tree.specs.declared.node.BoxKind.{BoxKind}
use Rattle.box_tree.specs.declared.node.BoxKind.TheVariants.{Horizontal, Vertical}
use Rattle.box_tree.specs.declared.frame.Frame.{Frame}
use Rattle.box_tree.specs.declared.frame.Sums.{Sums}
use Rattle.box_tree.specs.Bounds.{PointIsNear}
use Rattle.box_tree.specs.Offsets.{or_else, item_extent, item_part, offset}
use Rattle.box_tree.specs.Trees.{Plain, glyph, kanji, rule, glue, kern, penalty, BoxTree, node, TreeItems, no_items, item, TreeItem, plain, box, crossed, size_of, dir_of}

-- a box that is set from a point, as the list in it sees it
abbrev pub frame_of : BoxTree → Point → Frame
frame_of (node kind dir size set items) at = record { kind = kind; dir = dir; size = size; set = set; at = at }

-- the sums after an item
abbrev pub after : Frame → Sums → TreeItem → Sums
after f s x = record { natural = sp (s.natural.0 +ℤ item_extent f.kind x); part = sp (s.part.0 +ℤ item_part f.set x) }

-- ---- how an item is moved

abbrev pub plain_shift : Plain → Sp
plain_shift (glyph font code size shift first last) = shift
plain_shift (kanji font cell size kind) = sp (pos 0)
plain_shift (rule wd ht dp) = sp (pos 0)
plain_shift (glue g from) = sp (pos 0)
plain_shift (kern width from) = sp (pos 0)
plain_shift (penalty value auto) = sp (pos 0)

abbrev pub item_shift : TreeItem → Sp
item_shift (plain p) = plain_shift p
item_shift (box b shift) = shift
item_shift (crossed b shift seen) = shift

abbrev pub plain_height : Plain → Sp
plain_height (glyph font code size shift first last) = size.ht
plain_height (kanji font cell size kind) = size.ht
plain_height (rule wd ht dp) = or_else ht (sp (pos 0))
plain_height (glue g from) = sp (pos 0)
plain_height (kern width from) = sp (pos 0)
plain_height (penalty value auto) = sp (pos 0)

abbrev pub item_height : TreeItem → Sp
item_height (plain p) = plain_height p
item_height (box b shift) = (size_of b).ht
item_height (crossed b shift seen) = seen.ht

-- ---- reference points

-- how far the reference point of an item at this offset from the top edge lies across from the box's own
abbrev pub down : ℤ → Sp → Sp → ℤ
down off height top = (off +ℤ height.0) -ℤ top.0

-- The reference point of an item of this shift and height. In a horizontal box it lies along by the offset and across by the
-- shift; in a vertical one across by the offset from the top edge and then by the height, and along by the shift.
abbrev pub place : BoxKind → Frame → ℤ → Sp → Sp → Point
place Horizontal f off shift height = step f.at f.dir (sp off) shift
place Vertical f off shift height = step f.at f.dir shift (sp (down off height f.size.ht))

abbrev pub item_point : Frame → ℤ → TreeItem → Point
item_point f off x = place f.kind f off (item_shift x) (item_height x)

-- ---- every place

abbrev mutual
  -- each place of a box that is set from this point is at most n away from 0
  pub PlacesAreNear : ℕ → BoxTree → Point → Type 0
  PlacesAreNear n (node kind dir size set items) at =
      PointIsNear n at × ItemsAreNear n (record { kind = kind; dir = dir; size = size; set = set; at = at }) (pos 0) (pos 0) items

  -- so is each place of items before which this natural sum and this stretch or shrink of the set order stand
  pub ItemsAreNear : ℕ → Frame → ℤ → ℤ → TreeItems → Type 0
  ItemsAreNear n f natural part no_items = Unit {0}
  ItemsAreNear n f natural part (item x rest) =
      ItemIsNear n f (item_point f (offset f.set natural part) x) x
      × ItemsAreNear n f (natural +ℤ item_extent f.kind x) (part +ℤ item_part f.set x) rest

  -- so is each place of an item whose reference point this is; a box of another direction is set from its inner point
  pub ItemIsNear : ℕ → Frame → Point → TreeItem → Type 0
  ItemIsNear n f at (plain p) = PointIsNear n at
  ItemIsNear n f at (box b shift) = PlacesAreNear n b at
  ItemIsNear n f at (crossed b shift seen) = PointIsNear n at × PlacesAreNear n b (inner_point (size_of b) (dir_of b) at f.dir)
