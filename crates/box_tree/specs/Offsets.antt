-- Where the items of a set box stand: the sum of the extents before an item, and the share of the excess that falls to the
-- glue before it (The TeXbook, chapter 12).
use Rattle.std.specs.Prelude.{ℤ, pos, ◌+ℤ◌, ◌-ℤ◌, Bool, true, false, if◌then◌else◌, Option, Some, None}
use Rattle.ts_geometry.specs.declared.glue.Glue.{Glue}
use Rattle.ts_geometry.specs.declared.glue.Order.{Order}
use Rattle.ts_geometry.specs.declared.glue.Order.TheVariants.{Normal, Fil, Fill, Filll}
use Rattle.ts_geometry.specs.declared.measure.Measures.{Measures}
use Rattle.ts_geometry.specs.declared.measure.Sp.{Sp}
use Rattle.ts_geometry.specs.Numbers.{share}
use Rattle.ts_geometry.specs.Directions.{sp}
use Rattle.box_tree.specs.declared.node.BoxKind.{BoxKind}
use Rattle.box_tree.specs.declared.node.BoxKind.TheVariants.{Horizontal, Vertical}
use Rattle.box_tree.specs.declared.node.SetGlue.{SetGlue}
use Rattle.box_tree.specs.declared.node.SetGlue.TheVariants.{Plain as AsIs, Stretch, Shrink}
use Rattle.box_tree.specs.Trees.{Plain, glyph, kanji, rule, glue, kern, penalty, TreeItems, no_items, item, TreeItem, plain, box, crossed, size_of}

-- ---- extents

-- a width in a horizontal box, a height with depth in a vertical one
abbrev pub extent : BoxKind → Measures → ℤ
extent Horizontal m = m.wd.0
extent Vertical m = m.ht.0 +ℤ m.dp.0

abbrev pub or_else : Option Sp → Sp → Sp
or_else None other = other
or_else (Some s) other = s

-- the measures of a rule, with those of other measures where they are absent
abbrev pub measures_or : Option Sp → Option Sp → Option Sp → Measures → Measures
measures_or wd ht dp m = record { wd = or_else wd m.wd; ht = or_else ht m.ht; dp = or_else dp m.dp }

abbrev pub nothing : Measures
nothing = record { wd = sp (pos 0); ht = sp (pos 0); dp = sp (pos 0) }

abbrev pub plain_extent : BoxKind → Plain → ℤ
plain_extent kind (glyph font code size shift first last) = extent kind size
plain_extent kind (kanji font cell size k) = extent kind size
-- a measure that is absent counts as 0
plain_extent kind (rule wd ht dp) = extent kind (measures_or wd ht dp nothing)
plain_extent kind (glue g from) = g.width.0
plain_extent kind (kern width from) = width.0
plain_extent kind (penalty value auto) = pos 0

-- how far an item leads on
abbrev pub item_extent : BoxKind → TreeItem → ℤ
item_extent kind (plain p) = plain_extent kind p
item_extent kind (box b shift) = extent kind (size_of b)
item_extent kind (crossed b shift seen) = extent kind seen

-- ---- set glue

abbrev pub same_order : Order → Order → Bool
same_order Normal Normal = true
same_order Normal Fil = false
same_order Normal Fill = false
same_order Normal Filll = false
same_order Fil Normal = false
same_order Fil Fil = true
same_order Fil Fill = false
same_order Fil Filll = false
same_order Fill Normal = false
same_order Fill Fil = false
same_order Fill Fill = true
same_order Fill Filll = false
same_order Filll Normal = false
same_order Filll Fil = false
same_order Filll Fill = false
same_order Filll Filll = true

-- the stretch or shrink of glue that counts where a box is set: that of the set order
abbrev pub glue_part : SetGlue → Glue → ℤ
glue_part AsIs g = pos 0
glue_part (Stretch order excess total) g = if same_order g.stretch_order order then g.stretch.0 else pos 0
glue_part (Shrink order excess total) g = if same_order g.shrink_order order then g.shrink.0 else pos 0

abbrev pub plain_part : SetGlue → Plain → ℤ
plain_part set (glyph font code size shift first last) = pos 0
plain_part set (kanji font cell size k) = pos 0
plain_part set (rule wd ht dp) = pos 0
plain_part set (glue g from) = glue_part set g
plain_part set (kern width from) = pos 0
plain_part set (penalty value auto) = pos 0

abbrev pub item_part : SetGlue → TreeItem → ℤ
item_part set (plain p) = plain_part set p
item_part set (box b shift) = pos 0
item_part set (crossed b shift seen) = pos 0

-- ---- sums and offsets

-- the natural sum of these items
abbrev pub extents : BoxKind → TreeItems → ℤ
extents kind no_items = pos 0
extents kind (item x rest) = item_extent kind x +ℤ extents kind rest

-- their stretch or shrink of the set order
abbrev pub parts : SetGlue → TreeItems → ℤ
parts set no_items = pos 0
parts set (item x rest) = item_part set x +ℤ parts set rest

-- how much of the excess falls to a part of the total
unfoldable pub share_of : ℤ → Sp → Sp → ℤ
share_of part excess total = share part excess.0 total.0

-- the offset of an item before which this natural sum and this stretch or shrink of the set order stand
abbrev pub offset : SetGlue → ℤ → ℤ → ℤ
offset AsIs natural part = natural
offset (Stretch order excess total) natural part = natural +ℤ share_of part excess total
offset (Shrink order excess total) natural part = natural -ℤ share_of part excess total

-- the offset of an item before which these items stand
abbrev pub offset_after : BoxKind → SetGlue → TreeItems → ℤ
offset_after kind set before = offset set (extents kind before) (parts set before)
