-- Each box and each item weighs something.
use Rattle.std.proofs.Common.{◌≤◌, [], ◌∷◌, arith}
use Rattle.box_tree.specs.Laws.{ListsWeigh}
use Rattle.box_tree.specs.Nodes.{tree_item}
use Rattle.box_tree.specs.Trees.{BoxTree, node, TreeItem, plain, box, crossed}
use Rattle.box_tree.specs.Weights.{weight, item_weight}

weight_pos : (b : BoxTree) → 1 ≤ weight b
weight_pos (node kind dir size set items) = omega arith

pub item_weight_pos : (x : TreeItem) → 1 ≤ item_weight x
item_weight_pos (plain p) = omega arith
item_weight_pos (box b shift) = weight_pos b
item_weight_pos (crossed b shift seen) = weight_pos b

pub lists_weigh : ListsWeigh
lists_weigh [] = omega arith
lists_weigh (x ∷ xs) = let one = item_weight_pos (tree_item x) in let rest = lists_weigh xs in omega arith
