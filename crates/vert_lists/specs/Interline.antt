-- The items that a box appends to a vertical list: its interline glue, if any, and the box (The TeXbook, chapter 12; TeX: The
-- Program, section 679).
use Rattle.std.specs.Prelude.{ℤ, pos, neg_ℤ, ◌-ℤ◌, if◌then◌else◌, int_lt, int_le, List, [], ◌∷◌, Option, Some, None}
use Rattle.ts_geometry.specs.declared.glue.Glue.{Glue}
use Rattle.ts_geometry.specs.declared.measure.Sp.{Sp}
use Rattle.ts_geometry.specs.Directions.{sp}
use Rattle.box_tree.specs.declared.item.GlueFrom.TheVariants.{Given}
use Rattle.box_tree.specs.declared.item.Item.{Item}
use Rattle.box_tree.specs.declared.item.Item.TheVariants as items
use Rattle.box_tree.specs.Bounds.{IsDimen}
use Rattle.box_tree.specs.Nodes.{tree_item}
use Rattle.box_tree.specs.Places.{item_height}
use Rattle.box_tree.specs.Trees.{TreeItem, plain, box, crossed}
use Rattle.vert_lists.specs.declared.interline.LineShape.{LineShape}

-- ---- what is asked

abbrev pub IsBox : TreeItem → Type 0
IsBox (plain p) = ⊥
IsBox (box b shift) = Unit {0}
IsBox (crossed b shift seen) = Unit {0}

pub record HasDimenNumbers (g : Glue) : Type 0 where
  pub width : IsDimen g.width
  pub stretch : IsDimen g.stretch
  pub shrink : IsDimen g.shrink

pub record IsSoundShape (shape : LineShape) : Type 0 where
  pub baseline : HasDimenNumbers shape.baseline
  pub line_skip : HasDimenNumbers shape.line_skip
  pub limit : IsDimen shape.limit

-- ---- interline glue

-- the depth of the box before at which there is no interline glue, -1000pt, and below it
abbrev pub ignored_depth : ℤ
ignored_depth = neg_ℤ (pos 65536000)

-- what is left of the width of the baseline skip, less the depth of the box before and the height of the next one
abbrev pub space_left : LineShape → ℤ → ℤ → ℤ
space_left shape depth height = (shape.baseline.width.0 -ℤ depth) -ℤ height

-- the baseline skip, brought to this width
abbrev pub baseline_of : LineShape → ℤ → Glue
baseline_of shape width = record {
  width = sp width;
  stretch = shape.baseline.stretch;
  stretch_order = shape.baseline.stretch_order;
  shrink = shape.baseline.shrink;
  shrink_order = shape.baseline.shrink_order;
}

-- or the line skip, where that is below the limit
abbrev pub interline : LineShape → ℤ → ℤ → Glue
interline shape depth height =
    if int_lt (space_left shape depth height) shape.limit.0 then shape.line_skip else baseline_of shape (space_left shape depth height)

-- the interline glue before a box of this height
abbrev pub glue_before : LineShape → Option Sp → ℤ → Option Glue
glue_before shape None height = None
glue_before shape (Some depth) height = if int_le depth.0 ignored_depth then None else Some (interline shape depth.0 height)

-- ---- the items

abbrev pub led_by : Option Glue → Item → List Item
led_by None x = x ∷ []
led_by (Some g) x = items.Glue g Given ∷ x ∷ []

abbrev pub spaced : Item → Option Sp → LineShape → List Item
spaced x last shape = led_by (glue_before shape last (item_height (tree_item x)).0) x
