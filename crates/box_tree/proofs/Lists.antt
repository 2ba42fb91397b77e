-- Sums over lists of items.
use Rattle.std.proofs.Common.{ℕ, ◌*◌, ◌^◌, ◌≤◌, List, [], ◌∷◌, ◌++◌, length, take, All, arith}
use Rattle.std.proofs.lemmas.List.{length-take}
use Rattle.std.proofs.lemmas.List.Elements.{All-nil, All-cons, All-head, All-tail, All-take}
use Rattle.std.proofs.lemmas.Int.{ints}
use Rattle.ts_geometry.specs.declared.direction.Dir.{Dir}
use Rattle.box_tree.specs.declared.item.Item.{Item}
use Rattle.box_tree.specs.declared.node.BoxKind.{BoxKind}
use Rattle.box_tree.specs.declared.node.SetGlue.{SetGlue}
use Rattle.ts_geometry.specs.Numbers.{IsWithin}
use Rattle.box_tree.specs.Nodes.{tree_item, tree_items}
use Rattle.box_tree.specs.Sound.{AreSound, IsSoundItem}
use Rattle.box_tree.specs.Weights.{most_weight}
use Rattle.box_tree.specs.Offsets.{extents, parts}
use Rattle.box_tree.specs.Laws.{ExtentsRun, PartsRun, RunningExtentsAreNear, RunningPartsAreNear, EachIsSound, JoinedAreSound}
use Rattle.box_tree.proofs.Near.{farther, item_extent_near, item_part_near}

pub extents_run : ExtentsRun
extents_run kind [] x = omega (arith, ints)
extents_run kind (y ∷ ys) x = let h = extents_run kind ys x in omega (arith, ints)

pub parts_run : PartsRun
parts_run set [] x = omega (arith, ints)
parts_run set (y ∷ ys) x = let h = parts_run set ys x in omega (arith, ints)

extents_near : (kind : BoxKind) (dir : Dir) (xs : List Item) → AreSound dir (tree_items xs) →
    IsWithin (length xs * 2 ^ 32) (extents kind (tree_items xs))
extents_near kind dir [] s = (omega (arith, ints), omega (arith, ints))
extents_near kind dir (x ∷ xs) s =
    let one = item_extent_near kind dir (tree_item x) s.0 in
    let rest = extents_near kind dir xs s.1 in
    (omega (arith, ints), omega (arith, ints))

parts_near : (set : SetGlue) (dir : Dir) (xs : List Item) → AreSound dir (tree_items xs) →
    IsWithin (length xs * 2 ^ 32) (parts set (tree_items xs))
parts_near set dir [] s = (omega (arith, ints), omega (arith, ints))
parts_near set dir (x ∷ xs) s =
    let one = item_part_near set dir (tree_item x) s.0 in
    let rest = parts_near set dir xs s.1 in
    (omega (arith, ints), omega (arith, ints))

each_of : (dir : Dir) (xs : List Item) → AreSound dir (tree_items xs) → All (λ x. IsSoundItem dir (tree_item x)) xs
each_of dir [] s = All-nil (λ x. IsSoundItem dir (tree_item x))
each_of dir (x ∷ xs) s = All-cons (λ y. IsSoundItem dir (tree_item y)) x xs s.0 (each_of dir xs s.1)

all_of : (dir : Dir) (xs : List Item) → All (λ x. IsSoundItem dir (tree_item x)) xs → AreSound dir (tree_items xs)
all_of dir [] s = tt
all_of dir (x ∷ xs) s =
    let each = λ (y : Item). IsSoundItem dir (tree_item y) in
    (All-head each x xs s, all_of dir xs (All-tail each x xs s))

pub each_is_sound : EachIsSound
each_is_sound dir xs = (each_of dir xs, all_of dir xs)

both_sound : (dir : Dir) (xs ys : List Item) → AreSound dir (tree_items (xs ++ ys)) → AreSound dir (tree_items xs) × AreSound dir (tree_items ys)
both_sound dir [] ys s = (tt, s)
both_sound dir (x ∷ xs) ys s = let h = both_sound dir xs ys s.1 in ((s.0, h.0), h.1)

joined_sound : (dir : Dir) (xs ys : List Item) → AreSound dir (tree_items xs) × AreSound dir (tree_items ys) → AreSound dir (tree_items (xs ++ ys))
joined_sound dir [] ys s = s.1
joined_sound dir (x ∷ xs) ys s = (s.0.0, joined_sound dir xs ys (s.0.1, s.1))

pub joined_are_sound : JoinedAreSound
joined_are_sound dir xs ys = (both_sound dir xs ys, joined_sound dir xs ys)

front_sound : (dir : Dir) (xs : List Item) (i : ℕ) → AreSound dir (tree_items xs) → AreSound dir (tree_items (take i xs))
front_sound dir xs i s = all_of dir (take i xs) (All-take (λ x. IsSoundItem dir (tree_item x)) i xs (each_of dir xs s))

front_short : (xs : List Item) (i : ℕ) → length xs ≤ most_weight → length (take i xs) * 2 ^ 32 ≤ 2 ^ 53
front_short xs i l = let h = length-take i xs in omega arith

pub running_extents_are_near : RunningExtentsAreNear
running_extents_are_near kind dir xs i s l =
    farther (length (take i xs) * 2 ^ 32) (2 ^ 53) (extents kind (tree_items (take i xs))) (front_short xs i l)
    (extents_near kind dir (take i xs) (front_sound dir xs i s))

pub running_parts_are_near : RunningPartsAreNear
running_parts_are_near set dir xs i s l =
    farther (length (take i xs) * 2 ^ 32) (2 ^ 53) (parts set (tree_items (take i xs))) (front_short xs i l)
    (parts_near set dir (take i xs) (front_sound dir xs i s))
