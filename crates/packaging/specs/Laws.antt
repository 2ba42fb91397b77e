-- Laws of the definitions.
use Rattle.std.specs.Prelude.{◌≡◌, ◌^◌, ℤ, pos, neg_ℤ, ◌+ℤ◌, Ok}
use Rattle.ts_geometry.specs.declared.direction.Dir.{Dir}
use Rattle.ts_geometry.specs.declared.measure.Measures.{Measures}
use Rattle.ts_geometry.specs.Numbers.{IsWithin}
use Rattle.box_tree.specs.declared.node.BoxKind.{BoxKind}
use Rattle.box_tree.specs.declared.node.SetGlue.{SetGlue}
use Rattle.box_tree.specs.declared.node.SetGlue.TheVariants.{Plain as AsIs, Stretch, Shrink}
use Rattle.box_tree.specs.Bounds.{HasDimens}
use Rattle.box_tree.specs.Offsets.{extents, offset_after}
use Rattle.box_tree.specs.Trees.{BoxTree, node, TreeItems}
use Rattle.packaging.specs.Lists.{stretch_of, shrink_of}
use Rattle.packaging.specs.Packing.{packed}
use Rattle.packaging.specs.Setting.{set_glue}

-- a list that is packed has become this node, with measures that are dimensions
abbrev pub PackedIsItsNode : Type 0
PackedIsItsNode = (kind : BoxKind) (dir : Dir) (m : Measures) (excess : ℤ) (items : TreeItems) (b : BoxTree) →
    packed kind dir m excess items ≡ Ok b →
    HasDimens m × (b ≡ node kind dir m (set_glue excess (stretch_of items) (shrink_of items)) items)

-- the set glue takes the whole of an excess
abbrev pub TakesAll : SetGlue → ℤ → Type 0
TakesAll AsIs excess = excess ≡ pos 0
TakesAll (Stretch order part total) excess = part.0 ≡ excess
TakesAll (Shrink order part total) excess = part.0 ≡ neg_ℤ excess

-- Where it does, and the excess is at most 10^9, the most that a share may be, the offset at the end of the list is its natural
-- length and the excess: the width to which `hpack` packs it, and the height with depth to which `vpack` does.
abbrev pub ListsAreFilled : Type 0
ListsAreFilled = (kind : BoxKind) (items : TreeItems) (excess : ℤ) → IsWithin (10 ^ 9) excess →
    TakesAll (set_glue excess (stretch_of items) (shrink_of items)) excess →
    offset_after kind (set_glue excess (stretch_of items) (shrink_of items)) items ≡ (extents kind items +ℤ excess)
