-- What the items of a list come to: sums, greatest values and the depth at the end (The TeXbook, chapters 12 and 21; TeX:
-- The Program, sections 649 to 656 and 668 to 671). The natural length of a list is `extents` of box_tree.
use Rattle.std.specs.Prelude.{ℤ, pos, ◌+ℤ◌, ◌-ℤ◌}
use Rattle.std.specs.Int.{int_max}
use Rattle.ts_geometry.specs.declared.glue.Order.{Order}
use Rattle.ts_geometry.specs.declared.measure.Measures.{Measures}
use Rattle.ts_geometry.specs.Directions.{sp}
use Rattle.box_tree.specs.declared.node.SetGlue.TheVariants.{Stretch, Shrink}
use Rattle.box_tree.specs.Offsets.{or_else, measures_or, nothing, parts}
use Rattle.box_tree.specs.Places.{item_shift}
use Rattle.box_tree.specs.Trees.{Plain, glyph, kanji, rule, glue, kern, penalty, TreeItems, no_items, item, TreeItem, plain, box, crossed, size_of}

-- ---- stretch and shrink

-- the sum of the stretch of one order; what is shared out among it doesn't count in `parts`
abbrev pub stretch_of : TreeItems → Order → ℤ
stretch_of items order = parts (Stretch order (sp (pos 0)) (sp (pos 0))) items

-- the sum of the shrink of one order
abbrev pub shrink_of : TreeItems → Order → ℤ
shrink_of items order = parts (Shrink order (sp (pos 0)) (sp (pos 0))) items

-- ---- horizontal lists

-- the measures of an item; those of a rule that are absent are 0
abbrev pub plain_size : Plain → Measures
plain_size (glyph font code size shift first last) = size
plain_size (kanji font cell size kind) = size
plain_size (rule wd ht dp) = measures_or wd ht dp nothing
plain_size (glue g from) = nothing
plain_size (kern width from) = nothing
plain_size (penalty value auto) = nothing

abbrev pub item_size : TreeItem → Measures
item_size (plain p) = plain_size p
item_size (box b shift) = size_of b
item_size (crossed b shift seen) = seen

-- how far an item reaches above the baseline and below it, moved down by its shift
abbrev pub moved_height : TreeItem → ℤ
moved_height x = (item_size x).ht.0 -ℤ (item_shift x).0

abbrev pub moved_depth : TreeItem → ℤ
moved_depth x = (item_size x).dp.0 +ℤ (item_shift x).0

-- the greatest of 0 and these
abbrev pub greatest_height : TreeItems → ℤ
greatest_height no_items = pos 0
greatest_height (item x rest) = int_max (moved_height x) (greatest_height rest)

abbrev pub greatest_depth : TreeItems → ℤ
greatest_depth no_items = pos 0
greatest_depth (item x rest) = int_max (moved_depth x) (greatest_depth rest)

-- ---- vertical lists

-- the width of a rule, or of a box with its shift; other items count as 0
abbrev pub plain_width : Plain → ℤ
plain_width (glyph font code size shift first last) = pos 0
plain_width (kanji font cell size kind) = pos 0
plain_width (rule wd ht dp) = (or_else wd (sp (pos 0))).0
plain_width (glue g from) = pos 0
plain_width (kern width from) = pos 0
plain_width (penalty value auto) = pos 0

abbrev pub moved_width : TreeItem → ℤ
moved_width (plain p) = plain_width p
moved_width (box b shift) = (size_of b).wd.0 +ℤ shift.0
moved_width (crossed b shift seen) = seen.wd.0 +ℤ shift.0

-- the greatest of 0 and these
abbrev pub greatest_width : TreeItems → ℤ
greatest_width no_items = pos 0
greatest_width (item x rest) = int_max (moved_width x) (greatest_width rest)

-- the depth after an item, where the depth before it was this: its own where it is a box or a rule, and 0 after glue or a kern
abbrev pub plain_depth : ℤ → Plain → ℤ
plain_depth before (glyph font code size shift first last) = before
plain_depth before (kanji font cell size kind) = before
plain_depth before (rule wd ht dp) = (or_else dp (sp (pos 0))).0
plain_depth before (glue g from) = pos 0
plain_depth before (kern width from) = pos 0
plain_depth before (penalty value auto) = before

abbrev pub depth_after : ℤ → TreeItem → ℤ
depth_after before (plain p) = plain_depth before p
depth_after before (box b shift) = (size_of b).dp.0
depth_after before (crossed b shift seen) = seen.dp.0

-- that at the end of these items: of the last box or rule where neither glue nor a kern follows it
abbrev pub end_depth : ℤ → TreeItems → ℤ
end_depth before no_items = before
end_depth before (item x rest) = end_depth (depth_after before x) rest

-- the height of an item that is a box or a rule, and else 0
abbrev pub plain_height : Plain → ℤ
plain_height (glyph font code size shift first last) = pos 0
plain_height (kanji font cell size kind) = pos 0
plain_height (rule wd ht dp) = (or_else ht (sp (pos 0))).0
plain_height (glue g from) = pos 0
plain_height (kern width from) = pos 0
plain_height (penalty value auto) = pos 0

abbrev pub solid_height : TreeItem → ℤ
solid_height (plain p) = plain_height p
solid_height (box b shift) = (size_of b).ht.0
solid_height (crossed b shift seen) = seen.ht.0

-- that of the first item
abbrev pub first_height : TreeItems → ℤ
first_height no_items = pos 0
first_height (item x rest) = solid_height x
