-- How the logic stores what a list stands for.
use Rattle.std.specs.Prelude.{ℕ, List, refl}
use Rattle.std.specs.Coded.{Coded, code_by, coded×, coded_ℕ, coded_list}
use Rattle.box_tree.specs.declared.item.Item.{Item}
use Rattle.node_links.specs.declared.node.NodeNo.{NodeNo}
use Rattle.node_links.specs.Lists.{Linked}

abbrev pub linked_code : Coded Item → Coded NodeNo → Coded Linked
linked_code item number =
    code_by (List Item × (List NodeNo × ℕ))
    (coded× (coded_list item) (coded× (coded_list number) coded_ℕ))
    (λ l. (l.items, (l.numbers, l.spare)))
    (λ t. record { items = t.0; numbers = t.1.0; spare = t.1.1 })
    (λ _. refl)
