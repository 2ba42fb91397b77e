-- What stands before an item, as the code adds it up.
use Rattle.std.specs.Prelude.{◌≡◌, ℕ, ℤ, pos, ◌+ℤ◌, ◌-ℤ◌}
use Rattle.std.specs.Int.{int_max, int_min}
use Rattle.ts_geometry.specs.declared.glue.Order.{Order}
use Rattle.ts_geometry.specs.declared.glue.Order.TheVariants.{Normal, Fil, Fill, Filll}
use Rattle.ts_geometry.specs.declared.measure.Measures.{Measures}
use Rattle.ts_geometry.specs.declared.measure.Sp.{Sp}
use Rattle.ts_geometry.specs.Crossings.{measures}
use Rattle.ts_geometry.specs.Directions.{sp}
use Rattle.ts_geometry.specs.Numbers.{IsWithin}
use Rattle.ts_geometry.specs.declared.direction.Dir.{Dir}
use Rattle.box_tree.specs.declared.node.BoxSize.{BoxSize}
use Rattle.box_tree.specs.declared.node.BoxKind.{BoxKind}
use Rattle.box_tree.specs.declared.node.BoxKind.TheVariants.{Horizontal, Vertical}
use Rattle.box_tree.specs.Offsets.{item_extent, extents}
use Rattle.box_tree.specs.Trees.{Plain, glyph, kanji, rule, glue, kern, penalty, TreeItem, plain, box, crossed, TreeItems}
use Rattle.packaging.specs.declared.long.Long.{Long}
use Rattle.packaging.specs.declared.long.LongMeasures.{LongMeasures}
use Rattle.packaging.specs.declared.flex.Flex.{Flex}
use Rattle.packaging.specs.declared.totals.Totals.{Totals}
use Rattle.packaging.specs.declared.pack.Target.{Target}
use Rattle.packaging.specs.declared.horizontal.HorizontalSums.{HorizontalSums}
use Rattle.packaging.specs.declared.vertical.VerticalSums.{VerticalSums}
use Rattle.packaging.specs.Packing.{length_for, excess_for}
use Rattle.packaging.specs.Lists.{stretch_of, shrink_of, moved_height, moved_depth, moved_width, depth_after, greatest_height, greatest_depth, greatest_width, end_depth}

abbrev pub long : ℤ → Long
long z = record { 0 = z }

abbrev pub plus : Long → Sp → Long
plus a s = long (a.0 +ℤ s.0)

abbrev pub measures_of : LongMeasures → Measures
measures_of m = measures m.wd.0 m.ht.0 m.dp.0

-- ---- totals of stretch and shrink

abbrev pub total : Flex → Order → ℤ
total t Normal = t.normal.0
total t Fil = t.fil.0
total t Fill = t.fill.0
total t Filll = t.filll.0

abbrev pub none : Flex
none = record { normal = long (pos 0); fil = long (pos 0); fill = long (pos 0); filll = long (pos 0) }

abbrev pub added : Flex → Order → Sp → Flex
added t Normal s = record { normal = plus t.normal s; fil = t.fil; fill = t.fill; filll = t.filll }
added t Fil s = record { normal = t.normal; fil = plus t.fil s; fill = t.fill; filll = t.filll }
added t Fill s = record { normal = t.normal; fil = t.fil; fill = plus t.fill s; filll = t.filll }
added t Filll s = record { normal = t.normal; fil = t.fil; fill = t.fill; filll = plus t.filll s }

abbrev pub plain_stretched : Flex → Plain → Flex
plain_stretched t (glyph font code size shift first last) = t
plain_stretched t (kanji font cell size kind) = t
plain_stretched t (rule wd ht dp) = t
plain_stretched t (glue g from) = added t g.stretch_order g.stretch
plain_stretched t (kern width from) = t
plain_stretched t (penalty value auto) = t

abbrev pub plain_shrunk : Flex → Plain → Flex
plain_shrunk t (glyph font code size shift first last) = t
plain_shrunk t (kanji font cell size kind) = t
plain_shrunk t (rule wd ht dp) = t
plain_shrunk t (glue g from) = added t g.shrink_order g.shrink
plain_shrunk t (kern width from) = t
plain_shrunk t (penalty value auto) = t

abbrev pub stretched : Flex → TreeItem → Flex
stretched t (plain p) = plain_stretched t p
stretched t (box b shift) = t
stretched t (crossed b shift seen) = t

abbrev pub shrunk : Flex → TreeItem → Flex
shrunk t (plain p) = plain_shrunk t p
shrunk t (box b shift) = t
shrunk t (crossed b shift seen) = t

-- ---- totals of a list

abbrev pub no_totals : Totals
no_totals = record { natural = long (pos 0); stretch = none; shrink = none }

abbrev pub totals_with : BoxKind → Totals → TreeItem → Totals
totals_with kind t x = record { natural = long (t.natural.0 +ℤ item_extent kind x); stretch = stretched t.stretch x; shrink = shrunk t.shrink x }

abbrev pub horizontal_with : HorizontalSums → TreeItem → HorizontalSums
horizontal_with r x = record { totals = totals_with Horizontal r.totals x; height = sp (int_max r.height.0 (moved_height x)); depth = sp (int_max r.depth.0 (moved_depth x)) }

abbrev pub vertical_with : VerticalSums → TreeItem → VerticalSums
vertical_with c x = record { totals = totals_with Vertical c.totals x; width = sp (int_max c.width.0 (moved_width x)); depth = sp (depth_after c.depth.0 x) }

abbrev pub no_horizontal : HorizontalSums
no_horizontal = record { totals = no_totals; height = sp (pos 0); depth = sp (pos 0) }

abbrev pub no_vertical : VerticalSums
no_vertical = record { totals = no_totals; width = sp (pos 0); depth = sp (pos 0) }

-- ---- what they are packed to

abbrev pub horizontal_target : HorizontalSums → Dir → BoxSize → Target
horizontal_target r dir size = record {
  kind = Horizontal;
  dir = dir;
  size = record { wd = long (length_for size r.totals.natural.0); ht = long r.height.0; dp = long r.depth.0 };
  excess = long (excess_for size r.totals.natural.0);
}

-- the natural height of a list of this depth
abbrev pub height_over : VerticalSums → Sp → ℤ
height_over c most = c.totals.natural.0 -ℤ int_min c.depth.0 most.0

abbrev pub vertical_target : VerticalSums → Dir → BoxSize → Sp → Target
vertical_target c dir size most = record {
  kind = Vertical;
  dir = dir;
  size = record { wd = long c.width.0; ht = long (length_for size (height_over c most)); dp = long (int_min c.depth.0 most.0) };
  excess = long (excess_for size (height_over c most));
}

-- ---- how far from 0 they lie

pub record IsFlexNear (n : ℕ) (t : Flex) : Type 0 where
  pub normal : IsWithin n t.normal.0
  pub fil : IsWithin n t.fil.0
  pub fill : IsWithin n t.fill.0
  pub filll : IsWithin n t.filll.0

pub record AreNear (n : ℕ) (t : Totals) : Type 0 where
  pub natural : IsWithin n t.natural.0
  pub stretch : IsFlexNear n t.stretch
  pub shrink : IsFlexNear n t.shrink

-- ---- what is added up is what the items come to

pub record AreTotals (kind : BoxKind) (items : TreeItems) (t : Totals) : Type 0 where
  pub natural : t.natural.0 ≡ extents kind items
  pub stretch : total t.stretch ≡ stretch_of items
  pub shrink : total t.shrink ≡ shrink_of items

pub record IsHorizontal (items : TreeItems) (r : HorizontalSums) : Type 0 where
  pub totals : AreTotals Horizontal items r.totals
  pub height : r.height.0 ≡ greatest_height items
  pub depth : r.depth.0 ≡ greatest_depth items

pub record IsVertical (items : TreeItems) (c : VerticalSums) : Type 0 where
  pub totals : AreTotals Vertical items c.totals
  pub width : c.width.0 ≡ greatest_width items
  pub depth : c.depth.0 ≡ end_depth (pos 0) items
