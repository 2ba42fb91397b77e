-- A box that stands in another weighs less.
use Rattle.std.specs.Prelude.{◌+◌, ◌≤◌, List, [], ◌∷◌, max}
use Rattle.std.proofs.Common.{arith}
use denote.Param.Weighed.{most}
use Rattle.box_tree.specs.declared.node.BoxNode.{BoxNode}
use Rattle.box_tree.specs.declared.item.Item.{Item}
use Rattle.box_tree.specs.declared.item.Item.TheVariants.{Glyph, Kanji, Box, Crossed, Rule, Glue, Kern, Penalty}
use Rattle.box_tree.specs.declared.shared_box.SharedBox.TheDeep.{deep-Item, deep-BoxNode}
use Rattle.box_tree.specs.Weights.{weights, item_weight}
use Rattle.box_tree.specs.Nodes.{tree_item, tree_items}

pub item_depth_falls : (x : Item) → deep-Item x ≤ item_weight (tree_item x) + 1
item_depth_falls (Glyph font code size shift first last) = omega arith
item_depth_falls (Kanji font cell size kind) = omega arith
item_depth_falls (Box b shift) = omega arith
item_depth_falls (Crossed b shift seen) = omega arith
item_depth_falls (Rule wd ht dp) = omega arith
item_depth_falls (Glue g from) = omega arith
item_depth_falls (Kern width from) = omega arith
item_depth_falls (Penalty value auto) = omega arith

pub items_fall : (xs : List Item) → most deep-Item xs ≤ 1 + weights (tree_items xs)
items_fall [] = omega arith
items_fall (x ∷ xs) = omega (arith, item_depth_falls x, items_fall xs)

pub node_falls : (n : BoxNode) → max (deep-BoxNode n) 0 ≤ 1 + weights (tree_items n.items)
node_falls n = omega (arith, items_fall n.items)
