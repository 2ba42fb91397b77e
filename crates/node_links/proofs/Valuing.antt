-- The list of linked nodes, where a penalty has got another value.
use Prim.Native.Nat.{zero, suc}
use Rattle.std.proofs.Common.{◌≡◌, ◌≢◌, ℕ, ℤ, ◌<◌, List, [], ◌∷◌, length, get_or, slice_get, set, Option, Some, refl, sym, ap, subst, ◌∙◌, arith}
use Rattle.box_tree.specs.declared.item.Item.{Item}
use Rattle.node_links.specs.declared.node.Node.{Node}
use Rattle.node_links.specs.declared.node.NodeNo.{NodeNo}
use Rattle.node_links.specs.Lists.{valued, with_value, IsNoneOf, AreApart}
use Rattle.node_links.specs.Chains.{node_at, next_in, next_of, front, chain, with_item, items_at, set_value, Follows, AreLinked}
use Rattle.node_links.proofs.Nodes.{there}
use Rattle.node_links.proofs.Linking.{follow_is, apart_at}

pub value_is_set : (value : ℤ) (nodes : List Node) (k : ℕ) (node : Node) → k < length nodes → node ≡ get_or nodes k node
    → set nodes k (record node { item = valued value node.item }) ≡ set_value value nodes k
value_is_set value [] k node within at = absurd (omega arith)
value_is_set value (first ∷ nodes) zero node within at = ap (λ (n : Node). record n { item = valued value n.item } ∷ nodes) at
value_is_set value (first ∷ nodes) (suc k) node within at = ap (λ (rest : List Node). first ∷ rest) (value_is_set value nodes k node (omega arith) at)

pub length-set_value : (value : ℤ) (nodes : List Node) (k : ℕ) → length (set_value value nodes k) ≡ length nodes
length-set_value value [] k = refl
length-set_value value (node ∷ nodes) zero = refl
length-set_value value (node ∷ nodes) (suc k) = ap suc (length-set_value value nodes k)

same_next : (value : ℤ) (nodes : List Node) (k n : ℕ) → next_in (node_at (set_value value nodes k) n) ≡ next_in (node_at nodes n)
same_next value [] k n = refl
same_next value (node ∷ nodes) zero zero = refl
same_next value (node ∷ nodes) zero (suc n) = refl
same_next value (node ∷ nodes) (suc k) zero = refl
same_next value (node ∷ nodes) (suc k) (suc n) = same_next value nodes k n

other_item : (value : ℤ) (nodes : List Node) (k n : ℕ) → n ≢ k → node_at (set_value value nodes k) n ≡ node_at nodes n
other_item value [] k n apart = refl
other_item value (node ∷ nodes) zero zero apart = absurd (apart refl)
other_item value (node ∷ nodes) zero (suc n) apart = refl
other_item value (node ∷ nodes) (suc k) zero apart = refl
other_item value (node ∷ nodes) (suc k) (suc n) apart = other_item value nodes k n (λ same. apart (ap suc same))

item_here : (value : ℤ) (nodes : List Node) (k : ℕ) (rest : List Item) → k < length nodes → with_item (node_at (set_value value nodes k) k) rest ≡ with_value value (with_item (node_at nodes k) rest) 0
item_here value [] k rest within = absurd (omega arith)
item_here value (node ∷ nodes) zero rest within = refl
item_here value (node ∷ nodes) (suc k) rest within = item_here value nodes k rest (omega arith)

same_front : (value : ℤ) (nodes : List Node) (k : ℕ) → front (set_value value nodes k) ≡ front nodes
same_front value [] k = refl
same_front value (node ∷ nodes) zero = refl
same_front value (node ∷ nodes) (suc k) = refl

module _ (value : ℤ) (nodes : List Node) (at : NodeNo) where
  abbrev pub after : List Node
  after = set_value value nodes at.0

  same_follows : (from : Option NodeNo) (numbers : List NodeNo) → Follows nodes from numbers → Follows after from numbers
  same_follows from [] follows = follows
  same_follows from (n ∷ numbers) follows =
      (follows.0, omega (arith, follows.1, length-set_value value nodes at.0), subst (λ (x : Option NodeNo). Follows after x numbers) (sym (same_next value nodes at.0 n.0)) (same_follows (next_of nodes n) numbers follows.2))

  same_items : (numbers : List NodeNo) → IsNoneOf at numbers → items_at after numbers ≡ items_at nodes numbers
  same_items [] none = refl
  same_items (n ∷ numbers) none =
      ap (λ (rest : List Item). with_item (node_at after n.0) rest) (same_items numbers none.1)
      ∙ ap (λ (x : Option Node). with_item x (items_at nodes numbers)) (other_item value nodes at.0 n.0 (λ same. none.0 (sym same)))

  valued_items : (from : Option NodeNo) (numbers : List NodeNo) (k : ℕ) → Follows nodes from numbers → AreApart numbers → slice_get numbers k ≡ Some at → items_at after numbers ≡ with_value value (items_at nodes numbers) k
  valued_items from [] k follows apart is = absurd (grind arith)
  valued_items from (n ∷ numbers) zero follows apart is =
      let same : n ≡ at = grind arith in
      let none = subst (λ (x : NodeNo). IsNoneOf x numbers) same apart.0 in
      let within = subst (λ (x : NodeNo). x.0 < length nodes) same follows.1 in
      ap (λ (rest : List Item). with_item (node_at after n.0) rest) (same_items numbers none)
      ∙ subst (λ (x : NodeNo). with_item (node_at after x.0) (items_at nodes numbers) ≡ with_value value (with_item (node_at nodes x.0) (items_at nodes numbers)) 0) (sym same) (item_here value nodes at.0 (items_at nodes numbers) within)
  valued_items from (n ∷ numbers) (suc k) follows apart is =
      let first = there nodes n.0 follows.1 in
      ap (λ (rest : List Item). with_item (node_at after n.0) rest) (valued_items (next_of nodes n) numbers k follows.2 apart.1 is)
      ∙ ap (λ (x : Option Node). with_item x (with_value value (items_at nodes numbers) k)) (other_item value nodes at.0 n.0 (apart_at n numbers k at apart.0 is) ∙ first.1)
      ∙ sym (ap (λ (x : Option Node). with_value value (with_item x (items_at nodes numbers)) (suc k)) first.1)

  -- The whole list, where the node at a place has another value.
  module _ (last : ℕ) (all : AreLinked nodes (chain nodes) last) where
    follows : Follows after (front after) (chain nodes)
    follows = subst (λ (x : Option NodeNo). Follows after x (chain nodes)) (sym (same_front value nodes at.0)) (same_follows (front nodes) (chain nodes) all.follows)

    pub same_chain : chain after ≡ chain nodes
    same_chain = follow_is (length after) after (front after) (chain nodes) follows (omega (arith, all.whole, length-set_value value nodes at.0))

    pub chain_valued : (k : ℕ) → slice_get (chain nodes) k ≡ Some at → items_at after (chain after) ≡ with_value value (items_at nodes (chain nodes)) k
    chain_valued k is = ap (items_at after) same_chain ∙ valued_items (front nodes) (chain nodes) k all.follows all.apart is

    pub still_linked : AreLinked after (chain after) last
    still_linked = rw same_chain (record { follows = follows; apart = all.apart; whole = all.whole ∙ sym (length-set_value value nodes at.0); ends = all.ends })
