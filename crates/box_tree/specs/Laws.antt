-- Laws of the definitions.
use Rattle.std.specs.Prelude.{◌≡◌, ◌↔◌, ℕ, ◌+◌, ◌≤◌, ◌^◌, ℤ, ◌+ℤ◌, List, [], ◌∷◌, ◌++◌, length, take, All, IsTrue}
use Rattle.ts_geometry.specs.declared.direction.Dir.{Dir}
use Rattle.ts_geometry.specs.declared.measure.Point.{Point}
use Rattle.ts_geometry.specs.declared.measure.Sp.{Sp}
use Rattle.box_tree.specs.declared.item.Item.{Item}
use Rattle.box_tree.specs.declared.node.BoxKind.{BoxKind}
use Rattle.box_tree.specs.declared.node.BoxNode.{BoxNode}
use Rattle.box_tree.specs.declared.node.SetGlue.{SetGlue}
use Rattle.box_tree.specs.declared.node.Side.{Side}
use Rattle.box_tree.specs.Bounds.{IsDimen, PointIsNear}
use Rattle.ts_geometry.specs.Numbers.{IsWithin}
use Rattle.box_tree.specs.Trees.{BoxTree, TreeItems, TreeItem}
use Rattle.box_tree.specs.Weights.{weight, weights, depth, most_weight}
use Rattle.box_tree.specs.Nodes.{tree, tree_item, tree_items}
use Rattle.box_tree.specs.Unpacking.{node_of, item_list}
use Rattle.box_tree.specs.Equality.{is_same_tree, are_same_items}
use Rattle.box_tree.specs.Making.{with_measure}
use Rattle.box_tree.specs.Sound.{IsSound, AreSound, IsSoundItem}
use Rattle.box_tree.specs.Offsets.{item_extent, item_part, extents, parts, offset}
use Rattle.box_tree.specs.Places.{PlacesAreNear}

-- ---- trees and nodes

-- a tree and the node that it stands for give each other back, and so do items
abbrev pub NodesComeBack : Type 0
NodesComeBack = (b : BoxTree) → tree (node_of b) ≡ b

abbrev pub TreesComeBack : Type 0
TreesComeBack = (n : BoxNode) → node_of (tree n) ≡ n

abbrev pub ItemsComeBack : Type 0
ItemsComeBack = (xs : TreeItems) → tree_items (item_list xs) ≡ xs

abbrev pub ListsComeBack : Type 0
ListsComeBack = (xs : List Item) → item_list (tree_items xs) ≡ xs

-- the test for the same tree passes exactly where the trees are the same
abbrev pub TreesAreTested : Type 0
TreesAreTested = (b c : BoxTree) → IsTrue (is_same_tree b c) ↔ (b ≡ c)

abbrev pub ItemsAreTested : Type 0
ItemsAreTested = (xs ys : TreeItems) → IsTrue (are_same_items xs ys) ↔ (xs ≡ ys)

-- ---- sound boxes

-- one other measure leaves a sound box sound, with its weight and its depth
abbrev pub MeasuresKeepSound : Type 0
MeasuresKeepSound = (b : BoxTree) (side : Side) (value : Sp) →
    IsSound b → IsDimen value → IsSound (with_measure b side value)

abbrev pub MeasuresKeepWeight : Type 0
MeasuresKeepWeight = (b : BoxTree) (side : Side) (value : Sp) → weight (with_measure b side value) ≡ weight b

abbrev pub MeasuresKeepDepth : Type 0
MeasuresKeepDepth = (b : BoxTree) (side : Side) (value : Sp) → depth (with_measure b side value) ≡ depth b

-- items are sound where each of them is
abbrev pub EachIsSound : Type 0
EachIsSound = (dir : Dir) (xs : List Item) → AreSound dir (tree_items xs) ↔ All (λ x. IsSoundItem dir (tree_item x)) xs

-- two lists joined are sound exactly where both are
abbrev pub JoinedAreSound : Type 0
JoinedAreSound = (dir : Dir) (xs ys : List Item) →
    AreSound dir (tree_items (xs ++ ys)) ↔ (AreSound dir (tree_items xs) × AreSound dir (tree_items ys))

-- ---- sums and places

-- a sound item leads at most 2^32 on, and has at most that much to stretch or to shrink
abbrev pub ItemsLeadNear : Type 0
ItemsLeadNear = (kind : BoxKind) (dir : Dir) (x : TreeItem) → IsSoundItem dir x → IsWithin (2 ^ 32) (item_extent kind x)

abbrev pub ItemPartsAreNear : Type 0
ItemPartsAreNear = (set : SetGlue) (dir : Dir) (x : TreeItem) → IsSoundItem dir x → IsWithin (2 ^ 32) (item_part set x)

-- an offset is at most 10^9 from the natural sum
abbrev pub OffsetsAreNear : Type 0
OffsetsAreNear = (n : ℕ) (set : SetGlue) (natural part : ℤ) → IsWithin n natural → IsWithin (n + 10 ^ 9) (offset set natural part)

-- the sums after one more item
abbrev pub ExtentsRun : Type 0
ExtentsRun = (kind : BoxKind) (xs : List Item) (x : Item) →
    extents kind (tree_items (xs ++ x ∷ [])) ≡ extents kind (tree_items xs) +ℤ item_extent kind (tree_item x)

abbrev pub PartsRun : Type 0
PartsRun = (set : SetGlue) (xs : List Item) (x : Item) →
    parts set (tree_items (xs ++ x ∷ [])) ≡ parts set (tree_items xs) +ℤ item_part set (tree_item x)

-- the sums of at most 2,000,000 sound items, and those of the first i of them, are at most 2^53 from 0
abbrev pub RunningExtentsAreNear : Type 0
RunningExtentsAreNear = (kind : BoxKind) (dir : Dir) (xs : List Item) (i : ℕ) →
    AreSound dir (tree_items xs) → length xs ≤ most_weight → IsWithin (2 ^ 53) (extents kind (tree_items (take i xs)))

abbrev pub RunningPartsAreNear : Type 0
RunningPartsAreNear = (set : SetGlue) (dir : Dir) (xs : List Item) (i : ℕ) →
    AreSound dir (tree_items xs) → length xs ≤ most_weight → IsWithin (2 ^ 53) (parts set (tree_items (take i xs)))

-- a list weighs at least 1 an item
abbrev pub ListsWeigh : Type 0
ListsWeigh = (xs : List Item) → length xs ≤ weights (tree_items xs)

-- each place of a sound box within the limits that is set from a point within 2^59 is within 2^60
abbrev pub SoundPlacesAreNear : Type 0
SoundPlacesAreNear = (b : BoxTree) (at : Point) →
    IsSound b → weight b ≤ most_weight → PointIsNear (2 ^ 59) at → PlacesAreNear (2 ^ 60) b at
