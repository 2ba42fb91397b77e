-- Boxes and their items as value trees: a shared box stands in each place from which it is reached.
use Rattle.std.specs.Prelude.{ℕ, ℤ, Bool, Option}
use Rattle.jis_codes.specs.Kuten.{Kuten}
use Rattle.ts_geometry.specs.declared.direction.Dir.{Dir}
use Rattle.ts_geometry.specs.declared.glue.Glue.{Glue}
use Rattle.ts_geometry.specs.declared.measure.Measures.{Measures}
use Rattle.ts_geometry.specs.declared.measure.Sp.{Sp}
use Rattle.box_tree.specs.declared.node.BoxKind.{BoxKind}
use Rattle.box_tree.specs.declared.item.FontNo.{FontNo}
use Rattle.box_tree.specs.declared.item.GlueFrom.{GlueFrom}
use Rattle.box_tree.specs.declared.item.KernFrom.{KernFrom}
use Rattle.box_tree.specs.declared.node.SetGlue.{SetGlue}

-- an item that has no box in it
pub data Plain : Type 0 where
  -- font, code, measures, shift, and the first and the last letter of the source
  glyph : FontNo → ℕ → Measures → Sp → ℕ → ℕ → Plain
  -- font, cell, measures and kind
  kanji : FontNo → Kuten → Measures → ℕ → Plain
  -- width, height and depth, each absent where it runs to that of the box
  rule : Option Sp → Option Sp → Option Sp → Plain
  glue : Glue → GlueFrom → Plain
  kern : Sp → KernFrom → Plain
  penalty : ℤ → Bool → Plain

mutual
  pub data BoxTree : Type 0 where
    -- kind, direction, measures, how the glue is set, and the items
    node : BoxKind → Dir → Measures → SetGlue → TreeItems → BoxTree

  pub data TreeItems : Type 0 where
    no_items : TreeItems
    item : TreeItem → TreeItems → TreeItems

  pub data TreeItem : Type 0 where
    plain : Plain → TreeItem
    -- a box of the list's direction, and its shift
    box : BoxTree → Sp → TreeItem
    -- a box of another direction, its shift, and the measures that the list sees
    crossed : BoxTree → Sp → Measures → TreeItem

-- ---- the parts of a box

abbrev pub kind_of : BoxTree → BoxKind
kind_of (node kind dir size set items) = kind

abbrev pub dir_of : BoxTree → Dir
dir_of (node kind dir size set items) = dir

abbrev pub size_of : BoxTree → Measures
size_of (node kind dir size set items) = size

abbrev pub set_of : BoxTree → SetGlue
set_of (node kind dir size set items) = set

abbrev pub items_of : BoxTree → TreeItems
items_of (node kind dir size set items) = items
