-- How the code keeps a list: each node has the number of the node after it. Only the code's own functions speak of this.
use Prim.Native.Nat.{zero, suc}
use Rattle.std.specs.Prelude.{◌≡◌, ℕ, ℤ, ◌-◌, ◌<◌, List, [], ◌∷◌, ◌++◌, length, Option, Some, None}
use Rattle.box_tree.specs.declared.item.Item.{Item}
use Rattle.node_links.specs.declared.node.Node.{Node}
use Rattle.node_links.specs.declared.node.NodeNo.{NodeNo}
use Rattle.node_links.specs.Lists.{Linked, valued, AreApart}

abbrev pub numbered : ℕ → NodeNo
numbered k = record { 0 = k }

-- the node of a number
abbrev pub node_at : List Node → ℕ → Option Node
node_at [] k = None
node_at (node ∷ nodes) zero = Some node
node_at (node ∷ nodes) (suc k) = node_at nodes k

abbrev pub next_in : Option Node → Option NodeNo
next_in None = None
next_in (Some node) = node.next

-- the number of the node after another
abbrev pub next_of : List Node → NodeNo → Option NodeNo
next_of nodes at = next_in (node_at nodes at.0)

-- the numbers from one on, at most so many
abbrev pub follow : ℕ → List Node → Option NodeNo → List NodeNo
follow zero nodes at = []
follow (suc most) nodes None = []
follow (suc most) nodes (Some n) = n ∷ follow most nodes (next_of nodes n)

-- the number of the first node
abbrev pub front : List Node → Option NodeNo
front [] = None
front (node ∷ nodes) = Some (numbered 0)

-- the numbers of all nodes, in the order of the list
abbrev pub chain : List Node → List NodeNo
chain nodes = follow (length nodes) nodes (front nodes)

abbrev pub with_item : Option Node → List Item → List Item
with_item None items = items
with_item (Some node) items = node.item ∷ items

-- the items of the nodes of these numbers
abbrev pub items_at : List Node → List NodeNo → List Item
items_at nodes [] = []
items_at nodes (n ∷ numbers) = with_item (node_at nodes n.0) (items_at nodes numbers)

-- the nodes, after the next one of a node has become that of this number
abbrev pub set_next : List Node → ℕ → NodeNo → List Node
set_next [] k next = []
set_next (node ∷ nodes) zero next = record node { next = Some next } ∷ nodes
set_next (node ∷ nodes) (suc k) next = node ∷ set_next nodes k next

-- the nodes with a new one after that of this number
abbrev pub put_after : List Node → NodeNo → Item → List Node
put_after nodes at item = set_next nodes at.0 (numbered (length nodes)) ++ record { item = item; next = next_of nodes at } ∷ []

-- the nodes, after the penalty of one has got another value
abbrev pub set_value : ℤ → List Node → ℕ → List Node
set_value value [] k = []
set_value value (node ∷ nodes) zero = record node { item = valued value node.item } ∷ nodes
set_value value (node ∷ nodes) (suc k) = node ∷ set_value value nodes k

-- The nodes from one on have these numbers, to the last.
abbrev pub Follows : List Node → Option NodeNo → List NodeNo → Type 0
Follows nodes at [] = at ≡ None
Follows nodes at (n ∷ numbers) = (at ≡ Some n) × (n.0 < length nodes) × Follows nodes (next_of nodes n) numbers

abbrev pub IsLast : List NodeNo → ℕ → Type 0
IsLast [] last = Unit {0}
IsLast (n ∷ []) last = last ≡ n.0
IsLast (n ∷ m ∷ numbers) last = IsLast (m ∷ numbers) last

pub record AreLinked (nodes : List Node) (numbers : List NodeNo) (last : ℕ) : Type 0 where
  pub follows : Follows nodes (front nodes) numbers
  pub apart : AreApart numbers
  pub whole : length numbers ≡ length nodes
  pub ends : IsLast numbers last

-- the list that nodes with room for so many stand for
abbrev pub linked_of : List Node → ℕ → Linked
linked_of nodes room = record { items = items_at nodes (chain nodes); numbers = chain nodes; spare = room - length nodes }
