-- The numbers that are kept with a box.
use Rattle.std.specs.Prelude.{◌≡◌, ◌+◌, ◌≤◌}
use Rattle.box_tree.specs.declared.shared_box.Kept.{Kept}
use Rattle.box_tree.specs.Trees.{BoxTree, TreeItems, items_of}
use Rattle.box_tree.specs.Weights.{weights, greatest_depth, most_weight, most_depth}

-- they are the weight and the depth of a node of these items, which are within the limits
pub record Keeps (items : TreeItems) (kept : Kept) : Type 0 where
  pub weight_is : kept.weight ≡ 1 + weights items
  pub depth_is : kept.depth ≡ 1 + greatest_depth items
  pub not_too_large : kept.weight ≤ most_weight
  pub not_too_deep : kept.depth ≤ most_depth

abbrev pub IsKept : BoxTree → Kept → Type 0
IsKept b kept = Keeps (items_of b) kept
