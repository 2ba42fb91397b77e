-- The way back from value trees to nodes and items, as code has them.
use Rattle.std.specs.Prelude.{List, [], ◌∷◌}
use Rattle.box_tree.specs.declared.node.BoxNode.{BoxNode}
use Rattle.box_tree.specs.declared.item.Item.{Item}
use Rattle.box_tree.specs.declared.item.Item.TheVariants.{Glyph, Kanji, Box, Crossed, Rule, Glue, Kern, Penalty}
use Rattle.box_tree.specs.Trees.{glyph, kanji, rule, glue, kern, penalty, BoxTree, node, TreeItems, no_items, item, TreeItem, plain, box, crossed}

abbrev pub item_of : TreeItem → Item
item_of (plain (glyph font code size shift first last)) = Glyph font code size shift first last
item_of (plain (kanji font cell size kind)) = Kanji font cell size kind
item_of (plain (rule wd ht dp)) = Rule wd ht dp
item_of (plain (glue g from)) = Glue g from
item_of (plain (kern width from)) = Kern width from
item_of (plain (penalty value auto)) = Penalty value auto
item_of (box b shift) = Box b shift
item_of (crossed b shift seen) = Crossed b shift seen

abbrev pub item_list : TreeItems → List Item
item_list no_items = []
item_list (item x rest) = item_of x ∷ item_list rest

abbrev pub node_of : BoxTree → BoxNode
node_of (node kind dir size set items) = record { kind = kind; dir = dir; size = size; set = set; items = item_list items }
