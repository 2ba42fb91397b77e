-- Each place of a sound box is near the point from which the box is set: a unit of its weight leads at most 2^34 away.
use Rattle.std.proofs.Common.{ℕ, ◌+◌, ◌*◌, ◌^◌, ◌≤◌, ℤ, pos, negsuc, ◌+ℤ◌, ◌-ℤ◌, arith}
use Rattle.std.proofs.lemmas.Int.{ints}
use Rattle.ts_geometry.specs.declared.direction.Dir.{Dir}
use Rattle.ts_geometry.specs.declared.direction.Dir.TheVariants.{Yoko, Tate, Dtou}
use Rattle.ts_geometry.specs.declared.measure.Measures.{Measures}
use Rattle.ts_geometry.specs.declared.measure.Point.{Point}
use Rattle.ts_geometry.specs.declared.measure.Sp.{Sp}
use Rattle.ts_geometry.specs.Crossings.{inner_point, half}
use Rattle.ts_geometry.specs.Directions.{step, sp}
use Rattle.box_tree.specs.declared.frame.Frame.{Frame}
use Rattle.box_tree.specs.declared.node.BoxKind.{BoxKind}
use Rattle.box_tree.specs.declared.node.BoxKind.TheVariants.{Horizontal, Vertical}
use Rattle.box_tree.specs.Bounds.{IsDimen, HasDimens, PointIsNear}
use Rattle.ts_geometry.specs.Numbers.{max_dimen, IsWithin}
use Rattle.box_tree.specs.Laws.{SoundPlacesAreNear}
use Rattle.box_tree.specs.Offsets.{item_extent, item_part, offset}
use Rattle.box_tree.specs.Places.{item_shift, item_height, place, item_point, PlacesAreNear, ItemsAreNear, ItemIsNear}
use Rattle.box_tree.specs.Sound.{IsSound, AreSound, IsSoundItem}
use Rattle.box_tree.specs.Trees.{BoxTree, node, TreeItems, no_items, item, TreeItem, plain, box, crossed, size_of, dir_of}
use Rattle.box_tree.specs.Weights.{weight, weights, item_weight}
use Rattle.box_tree.proofs.Weighed.{item_weight_pos}
use Rattle.box_tree.proofs.Near.{offset_near, size_sound, shift_sound, height_sound, item_extent_near}

point_farther : (k n : ℕ) (p : Point) → k ≤ n → PointIsNear k p → PointIsNear n p
point_farther k n p l h = record { x = (omega (arith, ints), omega (arith, ints)); y = (omega (arith, ints), omega (arith, ints)) }

-- a step leads away by its longer part at most
step_near : (k j : ℕ) (p : Point) (dir : Dir) (along across : Sp) → PointIsNear k p → IsWithin j along.0 → IsWithin j across.0 → PointIsNear (k + j) (step p dir along across)
step_near k j p Yoko along across h a c = record { x = (omega (arith, ints), omega (arith, ints)); y = (omega (arith, ints), omega (arith, ints)) }
step_near k j p Tate along across h a c = record { x = (omega (arith, ints), omega (arith, ints)); y = (omega (arith, ints), omega (arith, ints)) }
step_near k j p Dtou along across h a c = record { x = (omega (arith, ints), omega (arith, ints)); y = (omega (arith, ints), omega (arith, ints)) }

place_near : (k j : ℕ) (kind : BoxKind) (f : Frame) (off : ℤ) (shift height : Sp) → HasDimens f.size → PointIsNear k f.at → IsWithin j off → IsDimen shift → IsDimen height →
    PointIsNear (k + (j + 2 ^ 32)) (place kind f off shift height)
place_near k j Horizontal f off shift height d h o s t =
    step_near k (j + 2 ^ 32) f.at f.dir (sp off) shift h (omega (arith, ints), omega (arith, ints)) (omega (arith, ints), omega (arith, ints))
place_near k j Vertical f off shift height d h o s t =
    step_near k (j + 2 ^ 32) f.at f.dir shift (sp ((off +ℤ height.0) -ℤ f.size.ht.0)) h (omega (arith, ints), omega (arith, ints)) (omega (arith, ints), omega (arith, ints))

half_near : (z : ℤ) → IsWithin max_dimen z → IsWithin max_dimen (half z)
half_near (pos a) h = (omega (arith, ints), omega (arith, ints))
half_near (negsuc a) h = (omega (arith, ints), omega (arith, ints))

-- an inner point is at most 2^32 away
inner_near : (k : ℕ) (m : Measures) (own : Dir) (at : Point) (from : Dir) → HasDimens m → PointIsNear k at → PointIsNear (k + 2 ^ 32) (inner_point m own at from)
inner_near k m Yoko at Yoko d h = point_farther _ _ at (omega arith) h
inner_near k m Yoko at Tate d h =
    let w = half_near m.wd.0 d.wd in
    record { x = (omega (arith, ints), omega (arith, ints)); y = (omega (arith, ints), omega (arith, ints)) }
inner_near k m Yoko at Dtou d h = record { x = (omega (arith, ints), omega (arith, ints)); y = (omega (arith, ints), omega (arith, ints)) }
inner_near k m Tate at Yoko d h = record { x = (omega (arith, ints), omega (arith, ints)); y = (omega (arith, ints), omega (arith, ints)) }
inner_near k m Tate at Tate d h = point_farther _ _ at (omega arith) h
inner_near k m Tate at Dtou d h = record { x = (omega (arith, ints), omega (arith, ints)); y = (omega (arith, ints), omega (arith, ints)) }
inner_near k m Dtou at Yoko d h = record { x = (omega (arith, ints), omega (arith, ints)); y = (omega (arith, ints), omega (arith, ints)) }
inner_near k m Dtou at Tate d h = record { x = (omega (arith, ints), omega (arith, ints)); y = (omega (arith, ints), omega (arith, ints)) }
inner_near k m Dtou at Dtou d h = point_farther _ _ at (omega arith) h

next_near : (i : ℕ) (z w : ℤ) → IsWithin (i * 2 ^ 32) z → IsWithin (2 ^ 32) w → IsWithin ((i + 1) * 2 ^ 32) (z +ℤ w)
next_near i z w h d = (omega (arith, ints), omega (arith, ints))

-- the reference point of an item after i items
point_near : (k i : ℕ) (f : Frame) (natural part : ℤ) (x : TreeItem) → HasDimens f.size → PointIsNear k f.at → IsWithin (i * 2 ^ 32) natural → IsSoundItem f.dir x →
    PointIsNear (k + ((i * 2 ^ 32 + 10 ^ 9) + 2 ^ 32)) (item_point f (offset f.set natural part) x)
point_near k i f natural part x d h n s =
    place_near k (i * 2 ^ 32 + 10 ^ 9) f.kind f (offset f.set natural part) (item_shift x) (item_height x) d h (offset_near (i * 2 ^ 32) f.set natural part n)
    (shift_sound f.dir x s) (height_sound f.dir x s)

mutual
  places_near : (n k : ℕ) (b : BoxTree) (at : Point) → IsSound b → PointIsNear k at → k + weight b * 2 ^ 34 ≤ n → PlacesAreNear n b at
  places_near n k (node kind dir size set items) at s h l = (
    point_farther k n at (omega arith) h,
    items_near n k 0 (record { kind = kind; dir = dir; size = size; set = set; at = at }) (pos 0) (pos 0) items s.0 s.1.1 h (omega (arith, ints), omega (arith, ints))
        (omega arith),
  )

  items_near : (n k i : ℕ) (f : Frame) (natural part : ℤ) (items : TreeItems) → HasDimens f.size → AreSound f.dir items → PointIsNear k f.at →
      IsWithin (i * 2 ^ 32) natural → k + ((i + 1) + weights items) * 2 ^ 34 ≤ n → ItemsAreNear n f natural part items
  items_near n k i f natural part no_items d s h z l = tt
  items_near n k i f natural part (item x rest) d s h z l =
      let w = item_weight_pos x in (
        item_near n (k + ((i * 2 ^ 32 + 10 ^ 9) + 2 ^ 32)) f (item_point f (offset f.set natural part) x) x s.0
            (point_near k i f natural part x d h z s.0) (omega arith),
        items_near n k (i + 1) f (natural +ℤ item_extent f.kind x) (part +ℤ item_part f.set x) rest d s.1 h
            (next_near i natural (item_extent f.kind x) z (item_extent_near f.kind f.dir x s.0)) (omega arith),
      )

  item_near : (n k : ℕ) (f : Frame) (at : Point) (x : TreeItem) → IsSoundItem f.dir x → PointIsNear k at → (k + 2 ^ 32) + item_weight x * 2 ^ 34 ≤ n →
      ItemIsNear n f at x
  item_near n k f at (plain p) s h l = point_farther k n at (omega arith) h
  item_near n k f at (box b shift) s h l = places_near n k b at s.0 h (omega arith)
  item_near n k f at (crossed b shift seen) s h l = (
    point_farther k n at (omega arith) h,
    places_near n (k + 2 ^ 32) b (inner_point (size_of b) (dir_of b) at f.dir) s.0 (inner_near k (size_of b) (dir_of b) at f.dir (size_sound b s.0) h) l,
  )

pub sound_places_are_near : SoundPlacesAreNear
sound_places_are_near b at s l h = places_near (2 ^ 60) (2 ^ 59) b at s h (omega arith)
