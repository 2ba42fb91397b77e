-- Trees and nodes give each other back.
use Rattle.std.proofs.Common.{◌≡◌, [], ◌∷◌, refl}
use Rattle.box_tree.specs.declared.item.Item.{Item}
use Rattle.box_tree.specs.declared.item.Item.TheVariants.{Glyph, Kanji, Box, Crossed, Rule, Glue, Kern, Penalty}
use Rattle.box_tree.specs.Trees.{glyph, kanji, rule, glue, kern, penalty, node, no_items, item, TreeItem, plain, box, crossed}
use Rattle.box_tree.specs.Nodes.{tree_item}
use Rattle.box_tree.specs.Unpacking.{item_of}
use Rattle.box_tree.specs.Laws.{NodesComeBack, TreesComeBack, ItemsComeBack, ListsComeBack}

item_back : (x : TreeItem) → tree_item (item_of x) ≡ x
item_back (plain (glyph font code size shift first last)) = refl
item_back (plain (kanji font cell size kind)) = refl
item_back (plain (rule wd ht dp)) = refl
item_back (plain (glue g from)) = refl
item_back (plain (kern width from)) = refl
item_back (plain (penalty value auto)) = refl
item_back (box b shift) = refl
item_back (crossed b shift seen) = refl

pub items_come_back : ItemsComeBack
items_come_back no_items = refl
items_come_back (item x rest) = λ i. item (item_back x i) (items_come_back rest i)

pub nodes_come_back : NodesComeBack
nodes_come_back (node kind dir size set items) = λ i. node kind dir size set (items_come_back items i)

element_back : (x : Item) → item_of (tree_item x) ≡ x
element_back (Glyph font code size shift first last) = refl
element_back (Kanji font cell size kind) = refl
element_back (Box b shift) = refl
element_back (Crossed b shift seen) = refl
element_back (Rule wd ht dp) = refl
element_back (Glue g from) = refl
element_back (Kern width from) = refl
element_back (Penalty value auto) = refl

pub lists_come_back : ListsComeBack
lists_come_back [] = refl
lists_come_back (x ∷ xs) = λ i. element_back x i ∷ lists_come_back xs i

pub trees_come_back : TreesComeBack
trees_come_back n = λ i. record { kind = n.kind; dir = n.dir; size = n.size; set = n.set; items = lists_come_back n.items i }
