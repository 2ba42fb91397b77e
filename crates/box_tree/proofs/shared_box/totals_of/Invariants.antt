use Rattle.std.proofs.Common.{◌≡◌, ◌+◌, ◌<◌, ◌≤◌, ◌^◌, drop, max}
use Rattle.box_tree.specs.Weights.{weights, greatest_depth}
use Rattle.box_tree.specs.Nodes.{tree_items}
use Rattle.box_tree.specs.Making.{in_word}
use Rattle.box_tree.proofs.shared_box.totals_of.Given as goal

abbrev pub invariant-loop-item : goal.invariant-loop-item
invariant-loop-item l =
    (in_word (l.weight + weights (tree_items (drop l.item-index l.items))) ≡ in_word (1 + weights (tree_items l.items)))
    × (l.weight < 2 ^ 64)
    × (max l.greatest (greatest_depth (tree_items (drop l.item-index l.items))) ≡ greatest_depth (tree_items l.items))
    × (l.greatest ≤ 200)
