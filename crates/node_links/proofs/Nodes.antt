-- A node at a place of the nodes, where one has another next one, and one more stands at the end.
use Prim.Native.Nat.{zero, suc}
use Rattle.std.proofs.Common.{◌≡◌, ◌≢◌, ℕ, ◌+◌, ◌<◌, List, [], ◌∷◌, ◌++◌, length, get_or, set, Option, Some, refl, sym, ap, subst, ◌∙◌, arith, length-append}
use Rattle.box_tree.specs.declared.item.Item.{Item}
use Rattle.node_links.specs.declared.node.Node.{Node}
use Rattle.node_links.specs.declared.node.NodeNo.{NodeNo}
use Rattle.node_links.specs.Chains.{numbered, node_at, next_in, next_of, front, with_item, set_next, put_after}

pub next_is_set : (nodes : List Node) (k : ℕ) (node : Node) (next : NodeNo) → k < length nodes → node ≡ get_or nodes k node
    → set nodes k (record node { next = Some next }) ≡ set_next nodes k next
next_is_set [] k node next within at = absurd (omega arith)
next_is_set (first ∷ nodes) zero node next within at = ap (λ (n : Node). record n { next = Some next } ∷ nodes) at
next_is_set (first ∷ nodes) (suc k) node next within at = ap (λ (rest : List Node). first ∷ rest) (next_is_set nodes k node next (omega arith) at)

pub there : (nodes : List Node) (k : ℕ) → k < length nodes → (node : Node) × (node_at nodes k ≡ Some node)
there [] k within = absurd (omega arith)
there (node ∷ nodes) zero within = (node, refl)
there (node ∷ nodes) (suc k) within = there nodes k (omega arith)

pub node_is : (nodes : List Node) (k : ℕ) (node : Node) → k < length nodes → node ≡ get_or nodes k node → node_at nodes k ≡ Some node
node_is [] k node within at = absurd (omega arith)
node_is (first ∷ nodes) zero node within at = ap (λ (n : Node). Some n) (sym at)
node_is (first ∷ nodes) (suc k) node within at = node_is nodes k node (omega arith) at

pub length-set_next : (nodes : List Node) (k : ℕ) (next : NodeNo) → length (set_next nodes k next) ≡ length nodes
length-set_next [] k next = refl
length-set_next (node ∷ nodes) zero next = refl
length-set_next (node ∷ nodes) (suc k) next = ap suc (length-set_next nodes k next)

other_set : (nodes : List Node) (k n : ℕ) (next : NodeNo) → n ≢ k → node_at (set_next nodes k next) n ≡ node_at nodes n
other_set [] k n next apart = refl
other_set (node ∷ nodes) zero zero next apart = absurd (apart refl)
other_set (node ∷ nodes) zero (suc n) next apart = refl
other_set (node ∷ nodes) (suc k) zero next apart = refl
other_set (node ∷ nodes) (suc k) (suc n) next apart = other_set nodes k n next (λ same. apart (ap suc same))

next_set : (nodes : List Node) (k : ℕ) (next : NodeNo) → k < length nodes → next_in (node_at (set_next nodes k next) k) ≡ Some next
next_set [] k next within = absurd (omega arith)
next_set (node ∷ nodes) zero next within = refl
next_set (node ∷ nodes) (suc k) next within = next_set nodes k next (omega arith)

item_set : (nodes : List Node) (k n : ℕ) (next : NodeNo) (rest : List Item) → with_item (node_at (set_next nodes k next) n) rest ≡ with_item (node_at nodes n) rest
item_set [] k n next rest = refl
item_set (node ∷ nodes) zero zero next rest = refl
item_set (node ∷ nodes) zero (suc n) next rest = refl
item_set (node ∷ nodes) (suc k) zero next rest = refl
item_set (node ∷ nodes) (suc k) (suc n) next rest = item_set nodes k n next rest

node_before : (nodes more : List Node) (n : ℕ) → n < length nodes → node_at (nodes ++ more) n ≡ node_at nodes n
node_before [] more n within = absurd (omega arith)
node_before (node ∷ nodes) more zero within = refl
node_before (node ∷ nodes) more (suc n) within = node_before nodes more n (omega arith)

node_after : (nodes : List Node) (node : Node) → node_at (nodes ++ node ∷ []) (length nodes) ≡ Some node
node_after [] node = refl
node_after (first ∷ nodes) node = node_after nodes node

front_set : (nodes more : List Node) (k : ℕ) (next : NodeNo) → k < length nodes → front (set_next nodes k next ++ more) ≡ front nodes
front_set [] more k next within = absurd (omega arith)
front_set (node ∷ nodes) more zero next within = refl
front_set (node ∷ nodes) more (suc k) next within = refl

-- A new node is put after another.
module _ (nodes : List Node) (at : NodeNo) (item : Item) (within : at.0 < length nodes) where
  size : length (set_next nodes at.0 (numbered (length nodes))) ≡ length nodes
  size = length-set_next nodes at.0 (numbered (length nodes))

  pub length-put : length (put_after nodes at item) ≡ length nodes + 1
  length-put = omega (arith, size, length-append (set_next nodes at.0 (numbered (length nodes))) (record { item = item; next = next_of nodes at } ∷ []))

  old_node : (n : ℕ) → n < length nodes → node_at (put_after nodes at item) n ≡ node_at (set_next nodes at.0 (numbered (length nodes))) n
  old_node n inside = node_before (set_next nodes at.0 (numbered (length nodes))) (record { item = item; next = next_of nodes at } ∷ []) n (omega (arith, size))

  new_node : node_at (put_after nodes at item) (length nodes) ≡ Some (record { item = item; next = next_of nodes at })
  new_node = subst (λ (n : ℕ). node_at (put_after nodes at item) n ≡ Some (record { item = item; next = next_of nodes at })) size (node_after (set_next nodes at.0 (numbered (length nodes))) (record { item = item; next = next_of nodes at }))

  pub next_other : (n : NodeNo) → n.0 < length nodes → n.0 ≢ at.0 → next_of (put_after nodes at item) n ≡ next_of nodes n
  next_other n inside apart = ap next_in (old_node n.0 inside ∙ other_set nodes at.0 n.0 (numbered (length nodes)) apart)

  pub next_at : next_of (put_after nodes at item) at ≡ Some (numbered (length nodes))
  next_at = ap next_in (old_node at.0 within) ∙ next_set nodes at.0 (numbered (length nodes)) within

  pub next_new : next_of (put_after nodes at item) (numbered (length nodes)) ≡ next_of nodes at
  next_new = ap next_in new_node

  pub item_other : (n : NodeNo) (rest : List Item) → n.0 < length nodes → with_item (node_at (put_after nodes at item) n.0) rest ≡ with_item (node_at nodes n.0) rest
  item_other n rest inside = ap (λ (node : Option Node). with_item node rest) (old_node n.0 inside) ∙ item_set nodes at.0 n.0 (numbered (length nodes)) rest

  pub item_new : (rest : List Item) → with_item (node_at (put_after nodes at item) (length nodes)) rest ≡ item ∷ rest
  item_new rest = ap (λ (node : Option Node). with_item node rest) new_node

  pub same_front : front (put_after nodes at item) ≡ front nodes
  same_front = front_set nodes (record { item = item; next = next_of nodes at } ∷ []) at.0 (numbered (length nodes)) within
