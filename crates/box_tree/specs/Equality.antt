-- Whether two value trees are the same: a test for what `≡` says of them. Trees are compared as they are stored.
use Rattle.std.specs.Prelude.{Bool, true, false, ◌&&◌, nat_eq}
use base.Stored.{Gv, gnil, gnum, gcons}
use Rattle.box_tree.specs.Codes.{tree_code, items_code}
use Rattle.box_tree.specs.Trees.{BoxTree, TreeItems}

abbrev pub alike : Gv → Gv → Bool
alike gnil gnil = true
alike gnil (gnum n) = false
alike gnil (gcons c d) = false
alike (gnum m) gnil = false
alike (gnum m) (gnum n) = nat_eq m n
alike (gnum m) (gcons c d) = false
alike (gcons a b) gnil = false
alike (gcons a b) (gnum n) = false
alike (gcons a b) (gcons c d) = alike a c && alike b d

abbrev pub is_same_tree : BoxTree → BoxTree → Bool
is_same_tree b c = alike (tree_code b) (tree_code c)

abbrev pub are_same_items : TreeItems → TreeItems → Bool
are_same_items xs ys = alike (items_code xs) (items_code ys)
