-- The value tree of a node, and of items, as the code has them.
use Rattle.std.specs.Prelude.{List, [], ◌∷◌}
use Rattle.box_tree.specs.declared.node.BoxNode.{BoxNode}
use Rattle.box_tree.specs.declared.item.Item.{Item}
use Rattle.box_tree.specs.declared.item.Item.TheVariants.{Glyph, Kanji, Box, Crossed, Rule, Glue, Kern, Penalty}
use Rattle.box_tree.specs.Trees.{glyph, kanji, rule, glue, kern, penalty, BoxTree, node, TreeItems, no_items, item, TreeItem, plain, box, crossed}

abbrev pub tree_item : Item → TreeItem
tree_item (Glyph font code size shift first last) = plain (glyph font code size shift first last)
tree_item (Kanji font cell size kind) = plain (kanji font cell size kind)
tree_item (Box b shift) = box b shift
tree_item (Crossed b shift seen) = crossed b shift seen
tree_item (Rule wd ht dp) = plain (rule wd ht dp)
tree_item (Glue g from) = plain (glue g from)
tree_item (Kern width from) = plain (kern width from)
tree_item (Penalty value auto) = plain (penalty value auto)

abbrev pub tree_items : List Item → TreeItems
tree_items [] = no_items
tree_items (x ∷ xs) = item (tree_item x) (tree_items xs)

abbrev pub tree : BoxNode → BoxTree
tree n = node n.kind n.dir n.size n.set (tree_items n.items)
