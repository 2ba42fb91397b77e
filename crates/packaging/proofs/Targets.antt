-- What the items come to gives the totals and the excess that packing asks for.
use Rattle.std.proofs.Common.{◌≡◌, ◌+◌, ◌*◌, ◌^◌, ℕ, ℤ, List, arith, refl, subst}
use Rattle.std.proofs.lemmas.Int.{ints}
use Rattle.ts_geometry.specs.declared.direction.Dir.{Dir}
use Rattle.ts_geometry.specs.declared.measure.Sp.{Sp}
use Rattle.ts_geometry.specs.Numbers.{IsWithin}
use Rattle.box_tree.specs.declared.item.Item.{Item}
use Rattle.box_tree.specs.declared.node.BoxKind.TheVariants.{Horizontal}
use Rattle.box_tree.specs.declared.node.BoxSize.{BoxSize}
use Rattle.box_tree.specs.Bounds.{IsDimen}
use Rattle.box_tree.specs.Nodes.{tree_items}
use Rattle.box_tree.specs.Sound.{AreSound}
use Rattle.box_tree.specs.Trees.{TreeItems}
use Rattle.box_tree.specs.Weights.{weights}
use Rattle.packaging.specs.declared.horizontal.HorizontalSums.{HorizontalSums}
use Rattle.packaging.specs.declared.vertical.VerticalSums.{VerticalSums}
use Rattle.packaging.specs.Packing.{vertical_height, IsSoundSize}
use Rattle.packaging.specs.Running.{horizontal_target, vertical_target, height_over, IsHorizontal, IsVertical}
use Rattle.packaging.proofs.Bounds.{extents_within, excess_near, vertical_height_near}

pub horizontal_of_items : (xs ys : List Item) (r : HorizontalSums) → xs ≡ ys → IsHorizontal (tree_items xs) r → IsHorizontal (tree_items ys) r
horizontal_of_items xs ys r e h = subst (λ (zs : List Item). IsHorizontal (tree_items zs) r) e h

pub vertical_of_items : (xs ys : List Item) (c : VerticalSums) → xs ≡ ys → IsVertical (tree_items xs) c → IsVertical (tree_items ys) c
vertical_of_items xs ys c e h = subst (λ (zs : List Item). IsVertical (tree_items zs) c) e h

same_within : (k : ℕ) (a b : ℤ) → a ≡ b → IsWithin k b → IsWithin k a
same_within k a b e h = rw e h

less : (w : ℕ) (z : ℤ) → IsWithin (w * 2 ^ 32 + 2 ^ 31) z → IsWithin (w * 2 ^ 32 + 2 ^ 32) z
less w z h = (omega (arith, ints), omega (arith, ints))

lesser : (w : ℕ) (z : ℤ) → IsWithin (w * 2 ^ 32 + 2 ^ 30 + 2 ^ 31) z → IsWithin (w * 2 ^ 32 + 2 ^ 32) z
lesser w z h = (omega (arith, ints), omega (arith, ints))

pub horizontal_excess : (dir : Dir) (items : TreeItems) (r : HorizontalSums) (size : BoxSize) → AreSound dir items → IsSoundSize size → IsHorizontal items r →
    IsWithin (weights items * 2 ^ 32 + 2 ^ 32) (horizontal_target r dir size).excess.0
horizontal_excess dir items r size a s h =
    less (weights items) _ (excess_near (weights items * 2 ^ 32) size r.totals.natural.0 s (same_within _ _ _ h.totals.natural (extents_within Horizontal dir items a)))

height_is : (items : TreeItems) (c : VerticalSums) (most : Sp) → IsVertical items c → height_over c most ≡ vertical_height items most
height_is items c most h = rw (h.totals.natural, h.depth) refl

pub vertical_excess : (dir : Dir) (items : TreeItems) (c : VerticalSums) (size : BoxSize) (most : Sp) → AreSound dir items → IsSoundSize size → IsDimen most → IsVertical items c →
    IsWithin (weights items * 2 ^ 32 + 2 ^ 32) (vertical_target c dir size most).excess.0
vertical_excess dir items c size most a s d h =
    lesser (weights items) _
    (excess_near (weights items * 2 ^ 32 + 2 ^ 30) size (height_over c most) s (same_within _ _ _ (height_is items c most h) (vertical_height_near dir items most a d)))
