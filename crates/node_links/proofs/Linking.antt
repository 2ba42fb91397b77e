-- The list of linked nodes, where a new one is put after another.
use Prim.Native.Nat.{zero, suc}
use Rattle.std.proofs.Common.{◌≡◌, ◌≢◌, ℕ, ◌-◌, ◌<◌, ◌≤◌, List, [], ◌∷◌, length, insert, slice_get, nat_eq, if◌then◌else◌, Option, Some, refl, sym, ap, subst, ◌∙◌, arith}
use Rattle.std.proofs.lemmas.Bool.Decides.{nat_tests}
use Rattle.std.proofs.lemmas.List.Edits.{length-insert}
use Rattle.std.proofs.lemmas.Option.{slice_get_within}
use Rattle.box_tree.specs.declared.item.Item.{Item}
use Rattle.node_links.specs.declared.node.Node.{Node}
use Rattle.node_links.specs.declared.node.NodeNo.{NodeNo}
use Rattle.node_links.specs.Chains.{numbered, node_at, next_of, follow, front, chain, with_item, items_at, put_after, Follows, IsLast, AreLinked}
use Rattle.node_links.specs.Lists.{IsNoneOf, AreApart}
use Rattle.node_links.proofs.Nodes.{there, length-put, next_other, next_at, next_new, item_other, item_new, same_front}

-- ---- the nodes that follow are those of the numbers

pub follow_is : (most : ℕ) (nodes : List Node) (at : Option NodeNo) (numbers : List NodeNo) → Follows nodes at numbers → length numbers ≤ most → follow most nodes at ≡ numbers
follow_is zero nodes at [] follows few = refl
follow_is zero nodes at (n ∷ numbers) follows few = absurd (omega arith)
follow_is (suc most) nodes at [] follows few = ap (follow (suc most) nodes) follows
follow_is (suc most) nodes at (n ∷ numbers) follows few =
    ap (follow (suc most) nodes) follows.0 ∙ ap (λ (rest : List NodeNo). n ∷ rest) (follow_is most nodes (next_of nodes n) numbers follows.2 (omega arith))

pub within_at : (nodes : List Node) (from : Option NodeNo) (numbers : List NodeNo) (k : ℕ) (at : NodeNo) → Follows nodes from numbers → slice_get numbers k ≡ Some at → at.0 < length nodes
within_at nodes from [] k at follows is = absurd (grind arith)
within_at nodes from (n ∷ numbers) zero at follows is = let same : n ≡ at = grind arith in subst (λ (m : NodeNo). m.0 < length nodes) same follows.1
within_at nodes from (n ∷ numbers) (suc k) at follows is = within_at nodes (next_of nodes n) numbers k at follows.2 is

pub next_is : (nodes : List Node) (from : Option NodeNo) (numbers : List NodeNo) (k : ℕ) (at : NodeNo) → Follows nodes from numbers → slice_get numbers k ≡ Some at → next_of nodes at ≡ slice_get numbers (suc k)
next_is nodes from [] k at follows is = absurd (grind arith)
next_is nodes from (n ∷ []) zero at follows is = let same : n ≡ at = grind arith in ap (next_of nodes) (sym same) ∙ follows.2
next_is nodes from (n ∷ m ∷ numbers) zero at follows is = let same : n ≡ at = grind arith in ap (next_of nodes) (sym same) ∙ follows.2.0
next_is nodes from (n ∷ numbers) (suc k) at follows is = next_is nodes (next_of nodes n) numbers k at follows.2 is

pub length-items_at : (nodes : List Node) (from : Option NodeNo) (numbers : List NodeNo) → Follows nodes from numbers → length (items_at nodes numbers) ≡ length numbers
length-items_at nodes from [] follows = refl
length-items_at nodes from (n ∷ numbers) follows =
    let node = there nodes n.0 follows.1 in
    ap (λ (found : Option Node). length (with_item found (items_at nodes numbers))) node.1 ∙ ap suc (length-items_at nodes (next_of nodes n) numbers follows.2)

pub item_is : (nodes : List Node) (from : Option NodeNo) (numbers : List NodeNo) (k : ℕ) (at : NodeNo) (node : Node) → Follows nodes from numbers → slice_get numbers k ≡ Some at → node_at nodes at.0 ≡ Some node
    → slice_get (items_at nodes numbers) k ≡ Some node.item
item_is nodes from [] k at node follows is here = absurd (grind arith)
item_is nodes from (n ∷ numbers) zero at node follows is here =
    let same : n ≡ at = grind arith in
    let found : node_at nodes n.0 ≡ Some node = ap (λ (m : NodeNo). node_at nodes m.0) same ∙ here in
    ap (λ (x : Option Node). slice_get (with_item x (items_at nodes numbers)) 0) found
item_is nodes from (n ∷ numbers) (suc k) at node follows is here =
    let first = there nodes n.0 follows.1 in
    ap (λ (x : Option Node). slice_get (with_item x (items_at nodes numbers)) (suc k)) first.1 ∙ item_is nodes (next_of nodes n) numbers k at node follows.2 is here

-- ---- numbers that stand once

pub apart_at : (n : NodeNo) (numbers : List NodeNo) (k : ℕ) (at : NodeNo) → IsNoneOf n numbers → slice_get numbers k ≡ Some at → n.0 ≢ at.0
apart_at n [] k at none is = absurd (grind arith)
apart_at n (m ∷ numbers) zero at none is = let same : m ≡ at = grind arith in subst (λ (x : NodeNo). n.0 ≢ x.0) same none.0
apart_at n (m ∷ numbers) (suc k) at none is = apart_at n numbers k at none.1 is

none_with : (n new : NodeNo) (numbers : List NodeNo) (k : ℕ) → IsNoneOf n numbers → n.0 ≢ new.0 → IsNoneOf n (insert numbers k new)
none_with n new [] zero none apart = (apart, tt)
none_with n new [] (suc k) none apart = (apart, tt)
none_with n new (m ∷ numbers) zero none apart = (apart, none)
none_with n new (m ∷ numbers) (suc k) none apart = (none.0, none_with n new numbers k none.1 apart)

apart_with : (new : NodeNo) (numbers : List NodeNo) (k : ℕ) → AreApart numbers → IsNoneOf new numbers → AreApart (insert numbers k new)
apart_with new [] zero apart none = (tt, tt)
apart_with new [] (suc k) apart none = (tt, tt)
apart_with new (m ∷ numbers) zero apart none = (none, apart)
apart_with new (m ∷ numbers) (suc k) apart none = (none_with m new numbers k apart.0 (λ same. none.0 (sym same)), apart_with new numbers k apart.1 none.1)

none_is_new : (nodes : List Node) (from : Option NodeNo) (numbers : List NodeNo) → Follows nodes from numbers → IsNoneOf (numbered (length nodes)) numbers
none_is_new nodes from [] follows = tt
none_is_new nodes from (n ∷ numbers) follows = ((λ same. absurd (omega (arith, same, follows.1))), none_is_new nodes (next_of nodes n) numbers follows.2)

-- ---- the last number

last_apart : (n : NodeNo) (m : NodeNo) (numbers : List NodeNo) (last : ℕ) → IsLast (m ∷ numbers) last → IsNoneOf n (m ∷ numbers) → n.0 ≢ last
last_apart n m [] last ends none = λ same. none.0 (same ∙ ends)
last_apart n m (second ∷ numbers) last ends none = last_apart n second numbers last ends none.1

last_with : (new : NodeNo) (numbers : List NodeNo) (k : ℕ) (at : NodeNo) (last : ℕ) → AreApart numbers → IsLast numbers last → slice_get numbers k ≡ Some at
    → IsLast (insert numbers (suc k) new) (if nat_eq at.0 last then new.0 else last)
last_with new [] k at last apart ends is = absurd (grind arith)
last_with new (n ∷ []) zero at last apart ends is =
    let same : n ≡ at = grind arith in
    let here : at.0 ≡ last = ap (λ (x : NodeNo). x.0) (sym same) ∙ sym ends in
    grind (arith, nat_tests, here)
last_with new (n ∷ []) (suc k) at last apart ends is = absurd (grind arith)
last_with new (n ∷ m ∷ numbers) zero at last apart ends is =
    let same : n ≡ at = grind arith in
    let other : at.0 ≢ last = subst (λ (x : NodeNo). x.0 ≢ last) same (last_apart n m numbers last ends apart.0) in
    let stays : (if nat_eq at.0 last then new.0 else last) ≡ last = grind (arith, nat_tests, other) in
    subst (λ (x : ℕ). IsLast (m ∷ numbers) x) (sym stays) ends
last_with new (n ∷ m ∷ numbers) (suc k) at last apart ends is = last_with new (m ∷ numbers) k at last apart.1 ends is

pub last_is : (n : NodeNo) (numbers : List NodeNo) (last : ℕ) → IsLast (n ∷ numbers) last → slice_get (n ∷ numbers) (length numbers) ≡ Some (numbered last)
last_is n [] last ends = ap (λ (k : ℕ). Some (numbered k)) (sym ends)
last_is n (m ∷ numbers) last ends = last_is m numbers last ends

pub last_place : (nodes : List Node) (from : Option NodeNo) (numbers : List NodeNo) (last : ℕ) → Follows nodes from numbers → IsLast numbers last → 0 < length numbers
    → slice_get numbers (length (items_at nodes numbers) - 1) ≡ Some (numbered last)
last_place nodes from [] last follows ends some = absurd (omega arith)
last_place nodes from (n ∷ numbers) last follows ends some =
    let place : length (items_at nodes (n ∷ numbers)) - 1 ≡ length numbers = omega (arith, length-items_at nodes from (n ∷ numbers) follows) in
    rw place (last_is n numbers last ends)

-- ---- a new node

module _ (nodes : List Node) (at : NodeNo) (item : Item) where
  abbrev pub new : NodeNo
  new = numbered (length nodes)

  abbrev pub after : List Node
  after = put_after nodes at item

  still_follows : (from : Option NodeNo) (numbers : List NodeNo) → at.0 < length nodes → Follows nodes from numbers → IsNoneOf at numbers → Follows after from numbers
  still_follows from [] within follows none = follows
  still_follows from (n ∷ numbers) within follows none =
      let next : next_of after n ≡ next_of nodes n = next_other nodes at item within n follows.1 (λ same. none.0 (sym same)) in
      (follows.0, omega (arith, follows.1, length-put nodes at item within), subst (λ (x : Option NodeNo). Follows after x numbers) (sym next) (still_follows (next_of nodes n) numbers within follows.2 none.1))

  pub follows_after : (from : Option NodeNo) (numbers : List NodeNo) (k : ℕ) → Follows nodes from numbers → AreApart numbers → slice_get numbers k ≡ Some at → Follows after from (insert numbers (suc k) new)
  follows_after from [] k follows apart is = absurd (grind arith)
  follows_after from (n ∷ numbers) zero follows apart is =
      let same : n ≡ at = grind arith in
      let within = subst (λ (x : NodeNo). x.0 < length nodes) same follows.1 in
      let none = subst (λ (x : NodeNo). IsNoneOf x numbers) same apart.0 in
      let next : next_of after n ≡ Some new = ap (next_of after) same ∙ next_at nodes at item within in
      let rest : Follows nodes (next_of nodes at) numbers = subst (λ (x : NodeNo). Follows nodes (next_of nodes x) numbers) same follows.2 in
      let onward : Follows after (next_of after new) numbers = subst (λ (x : Option NodeNo). Follows after x numbers) (sym (next_new nodes at item within)) (still_follows (next_of nodes at) numbers within rest none) in
      let tail : Follows after (next_of after n) (new ∷ numbers) = (next, omega (arith, length-put nodes at item within), onward) in
      (follows.0, omega (arith, follows.1, length-put nodes at item within), tail)
  follows_after from (n ∷ numbers) (suc k) follows apart is =
      let within = within_at nodes (next_of nodes n) numbers k at follows.2 is in
      let next : next_of after n ≡ next_of nodes n = next_other nodes at item within n follows.1 (apart_at n numbers k at apart.0 is) in (
        follows.0,
        omega (arith, follows.1, length-put nodes at item within),
        subst (λ (x : Option NodeNo). Follows after x (insert numbers (suc k) new)) (sym next) (follows_after (next_of nodes n) numbers k follows.2 apart.1 is),
      )

  same_items : (from : Option NodeNo) (numbers : List NodeNo) → at.0 < length nodes → Follows nodes from numbers → items_at after numbers ≡ items_at nodes numbers
  same_items from [] within follows = refl
  same_items from (n ∷ numbers) within follows =
      ap (λ (rest : List Item). with_item (node_at after n.0) rest) (same_items (next_of nodes n) numbers within follows.2) ∙ item_other nodes at item within n (items_at nodes numbers) follows.1

  pub items_after : (from : Option NodeNo) (numbers : List NodeNo) (k : ℕ) → Follows nodes from numbers → slice_get numbers k ≡ Some at → items_at after (insert numbers (suc k) new) ≡ insert (items_at nodes numbers) (suc k) item
  items_after from [] k follows is = absurd (grind arith)
  items_after from (n ∷ numbers) zero follows is =
      let within = within_at nodes from (n ∷ numbers) zero at follows is in
      let first = there nodes n.0 follows.1 in
      ap (λ (rest : List Item). with_item (node_at after n.0) (with_item (node_at after (length nodes)) rest)) (same_items (next_of nodes n) numbers within follows.2)
      ∙ ap (λ (rest : List Item). with_item (node_at after n.0) rest) (item_new nodes at item within (items_at nodes numbers))
      ∙ item_other nodes at item within n (item ∷ items_at nodes numbers) follows.1
      ∙ ap (λ (x : Option Node). with_item x (item ∷ items_at nodes numbers)) first.1
      ∙ sym (ap (λ (x : Option Node). insert (with_item x (items_at nodes numbers)) 1 item) first.1)
  items_after from (n ∷ numbers) (suc k) follows is =
      let within = within_at nodes (next_of nodes n) numbers k at follows.2 is in
      let first = there nodes n.0 follows.1 in
      ap (λ (rest : List Item). with_item (node_at after n.0) rest) (items_after (next_of nodes n) numbers k follows.2 is)
      ∙ item_other nodes at item within n (insert (items_at nodes numbers) (suc k) item) follows.1
      ∙ ap (λ (x : Option Node). with_item x (insert (items_at nodes numbers) (suc k) item)) first.1
      ∙ sym (ap (λ (x : Option Node). insert (with_item x (items_at nodes numbers)) (suc (suc k)) item) first.1)

  -- The whole list, with a new node after the one at a place.
  module _ (last k : ℕ) (all : AreLinked nodes (chain nodes) last) (is : slice_get (chain nodes) k ≡ Some at) where
    inside : at.0 < length nodes
    inside = within_at nodes (front nodes) (chain nodes) k at all.follows is

    many : length (insert (chain nodes) (suc k) new) ≡ length after
    many = omega (arith, length-insert (chain nodes) (suc k) new (slice_get_within (chain nodes) k at is), all.whole, length-put nodes at item inside)

    follows : Follows after (front after) (insert (chain nodes) (suc k) new)
    follows = subst (λ (x : Option NodeNo). Follows after x (insert (chain nodes) (suc k) new)) (sym (same_front nodes at item inside)) (follows_after (front nodes) (chain nodes) k all.follows all.apart is)

    pub chain_after : chain after ≡ insert (chain nodes) (suc k) new
    chain_after = follow_is (length after) after (front after) (insert (chain nodes) (suc k) new) follows (omega (arith, many))

    pub chain_items : items_at after (chain after) ≡ insert (items_at nodes (chain nodes)) (suc k) item
    chain_items = ap (items_at after) chain_after ∙ items_after (front nodes) (chain nodes) k all.follows is

    pub linked_after : AreLinked after (chain after) (if nat_eq at.0 last then length nodes else last)
    linked_after = rw chain_after (record {
      follows = follows;
      apart = apart_with new (chain nodes) (suc k) all.apart (none_is_new nodes (front nodes) (chain nodes) all.follows);
      whole = many;
      ends = last_with new (chain nodes) k at last all.apart all.ends is;
    })
