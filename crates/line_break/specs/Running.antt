-- What the code adds up: the totals of the items from a place on, and of those that are kept
-- after a break there.
use Rattle.std.specs.Prelude.{ℕ, suc, ◌-◌, List, [], ◌∷◌, length, drop, map, if◌then◌else◌, ℤ, pos, ◌+ℤ◌, ◌-ℤ◌}
use Rattle.std.specs.List.{filter, range_with_len}
use Rattle.ts_geometry.specs.declared.glue.Order.{Order}
use Rattle.ts_geometry.specs.declared.glue.Order.TheVariants.{Normal, Fil, Fill, Filll}
use Rattle.ts_geometry.specs.Directions.{sp}
use Rattle.ts_geometry.specs.Numbers.{IsWithin}
use Rattle.box_tree.specs.declared.item.Item.{Item}
use Rattle.box_tree.specs.declared.node.BoxKind.TheVariants.{Horizontal}
use Rattle.box_tree.specs.declared.node.SetGlue.TheVariants.{Stretch, Shrink}
use Rattle.box_tree.specs.Nodes.{tree_item}
use Rattle.box_tree.specs.Offsets.{item_extent, item_part}
use Rattle.box_tree.specs.Trees.{TreeItem}
use Rattle.line_break.specs.declared.legal.Break.{Break}
use Rattle.line_break.specs.declared.totals.Totals.{Totals}
use Rattle.line_break.specs.Lines.{is_dropped, is_legal, totals, without_dropped}

-- each at most so far from 0
pub record AreNear (n : ℕ) (t : Totals) : Type 0 where
  pub width : IsWithin n t.width.0
  pub stretch : IsWithin n t.stretch.0
  pub fil : IsWithin n t.fil.0
  pub fill : IsWithin n t.fill.0
  pub filll : IsWithin n t.filll.0
  pub shrink : IsWithin n t.shrink.0

abbrev pub none : Totals
none = record {
  width = sp (pos 0);
  stretch = sp (pos 0);
  fil = sp (pos 0);
  fill = sp (pos 0);
  filll = sp (pos 0);
  shrink = sp (pos 0);
}

abbrev pub item_stretch : Order → TreeItem → ℤ
item_stretch order x = item_part (Stretch order (sp (pos 0)) (sp (pos 0))) x

abbrev pub item_shrink : TreeItem → ℤ
item_shrink x = item_part (Shrink Normal (sp (pos 0)) (sp (pos 0))) x

-- with one more item
abbrev pub totals_with : TreeItem → Totals → Totals
totals_with x t = record {
  width = sp (item_extent Horizontal x +ℤ t.width.0);
  stretch = sp (item_stretch Normal x +ℤ t.stretch.0);
  fil = sp (item_stretch Fil x +ℤ t.fil.0);
  fill = sp (item_stretch Fill x +ℤ t.fill.0);
  filll = sp (item_stretch Filll x +ℤ t.filll.0);
  shrink = sp (item_shrink x +ℤ t.shrink.0);
}

abbrev pub plus : Totals → Totals → Totals
plus t u = record {
  width = sp (t.width.0 +ℤ u.width.0);
  stretch = sp (t.stretch.0 +ℤ u.stretch.0);
  fil = sp (t.fil.0 +ℤ u.fil.0);
  fill = sp (t.fill.0 +ℤ u.fill.0);
  filll = sp (t.filll.0 +ℤ u.filll.0);
  shrink = sp (t.shrink.0 +ℤ u.shrink.0);
}

abbrev pub minus : Totals → Totals → Totals
minus t u = record {
  width = sp (t.width.0 -ℤ u.width.0);
  stretch = sp (t.stretch.0 -ℤ u.stretch.0);
  fil = sp (t.fil.0 -ℤ u.fil.0);
  fill = sp (t.fill.0 -ℤ u.fill.0);
  filll = sp (t.filll.0 -ℤ u.filll.0);
  shrink = sp (t.shrink.0 -ℤ u.shrink.0);
}

-- the place of the first item that is kept, where the first of these stands at this place
abbrev pub kept_place : ℕ → List Item → ℕ
kept_place place [] = place
kept_place place (x ∷ rest) = if is_dropped x then kept_place (suc place) rest else place

-- what a break at this place is, before these items
abbrev pub break_before : ℕ → List Item → Break
break_before place rest = record {
  place = place;
  kept = kept_place place rest;
  from = totals rest;
  after = totals (without_dropped rest);
}

abbrev pub break_at : List Item → ℕ → Break
break_at items place = break_before place (drop place items)

-- the same with one more item before them
abbrev pub with_before : Item → Break → Break
with_before x b =
    let from = totals_with (tree_item x) b.from in
    if is_dropped x then
    record { place = b.place - 1; kept = b.kept; from = from; after = b.after }
    else record { place = b.place - 1; kept = b.place - 1; from = from; after = from }

-- the legal breaks from a place on
abbrev pub breaks_from : List Item → ℕ → List Break
breaks_from items place =
    map (break_at items) (filter (is_legal items) (range_with_len place (length items - place)))

-- at the start nothing is dropped
abbrev pub start_break : List Item → Break
start_break items = record { place = 0; kept = 0; from = totals items; after = totals items }

abbrev pub all_breaks : List Item → List Break
all_breaks items = start_break items ∷ breaks_from items 0
