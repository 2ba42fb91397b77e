-- How far from 0 the numbers of a list of sound items within the limits of boxes are.
use Rattle.std.proofs.Common.{◌≡◌, ℕ, ◌+◌, ◌*◌, ◌^◌, ◌≤◌, ℤ, pos, ◌+ℤ◌, ◌-ℤ◌, Option, Some, None, Bool, true, false, nat_lt, arith, refl, ap}
use Rattle.std.proofs.lemmas.Bool.Decides.{nat_tests}
use Rattle.std.proofs.lemmas.Int.{ints, clamps}
use Rattle.std.specs.Int.{int_min}
use Rattle.ts_geometry.specs.declared.direction.Dir.{Dir}
use Rattle.ts_geometry.specs.declared.glue.Order.{Order}
use Rattle.ts_geometry.specs.declared.glue.Order.TheVariants.{Normal, Fil, Fill, Filll}
use Rattle.ts_geometry.specs.declared.measure.Sp.{Sp}
use Rattle.ts_geometry.specs.Directions.{sp}
use Rattle.ts_geometry.specs.Numbers.{IsWithin, max_dimen}
use Rattle.box_tree.specs.declared.node.BoxKind.{BoxKind}
use Rattle.box_tree.specs.declared.node.BoxKind.TheVariants.{Vertical}
use Rattle.box_tree.specs.declared.node.BoxSize.{BoxSize}
use Rattle.box_tree.specs.declared.node.BoxSize.TheVariants.{Natural, To, Spread}
use Rattle.box_tree.specs.declared.node.SetGlue.{SetGlue}
use Rattle.box_tree.specs.declared.node.SetGlue.TheVariants.{Stretch, Shrink}
use Rattle.box_tree.specs.Bounds.{IsDimen, IsDimenIfThere}
use Rattle.box_tree.specs.Making.{past_limits}
use Rattle.box_tree.specs.Offsets.{or_else, extents, parts, item_extent, item_part, nothing}
use Rattle.box_tree.specs.Sound.{IsSoundItem, AreSound}
use Rattle.box_tree.specs.Trees.{glyph, kanji, rule, glue, kern, penalty, TreeItems, no_items, item, TreeItem, plain, box, crossed}
use Rattle.box_tree.specs.Weights.{weights, item_weight}
use Rattle.box_tree.proofs.Near.{size_sound, item_extent_near, item_part_near}
use Rattle.box_tree.proofs.Weighed.{item_weight_pos}
use Rattle.packaging.specs.declared.totals.Totals.{Totals}
use Rattle.packaging.specs.Lists.{stretch_of, shrink_of, depth_after, end_depth}
use Rattle.packaging.specs.Packing.{excess_for, vertical_depth, vertical_height, IsSoundSize}
use Rattle.packaging.specs.Running.{total, AreNear, AreTotals}

-- ---- sums, by the weight

one_more : (w v : ℕ) (a b : ℤ) → 1 ≤ w → IsWithin (2 ^ 32) a → IsWithin (v * 2 ^ 32) b → IsWithin ((w + v) * 2 ^ 32) (a +ℤ b)
one_more w v a b l h k = (omega (arith, ints), omega (arith, ints))

pub extents_within : (kind : BoxKind) (dir : Dir) (xs : TreeItems) → AreSound dir xs → IsWithin (weights xs * 2 ^ 32) (extents kind xs)
extents_within kind dir no_items s = (omega (arith, ints), omega (arith, ints))
extents_within kind dir (item x rest) s =
    one_more (item_weight x) (weights rest) (item_extent kind x) (extents kind rest) (item_weight_pos x) (item_extent_near kind dir x s.0) (extents_within kind dir rest s.1)

pub parts_within : (set : SetGlue) (dir : Dir) (xs : TreeItems) → AreSound dir xs → IsWithin (weights xs * 2 ^ 32) (parts set xs)
parts_within set dir no_items s = (omega (arith, ints), omega (arith, ints))
parts_within set dir (item x rest) s =
    one_more (item_weight x) (weights rest) (item_part set x) (parts set rest) (item_weight_pos x) (item_part_near set dir x s.0) (parts_within set dir rest s.1)

-- ---- the limits

within : (items : TreeItems) (c : Bool) → nat_lt 2000000 (1 + weights items) ≡ c → past_limits items ≡ None → 1 + weights items ≤ 2000000
within items true h e = let n = rw h at e in cc
within items false h e = grind (arith, nat_tests)

pub limit : (items : TreeItems) → past_limits items ≡ None → 1 + weights items ≤ 2000000
limit items e = within items (nat_lt 2000000 (1 + weights items)) refl e

light : (w : ℕ) (z : ℤ) → 1 + w ≤ 2000000 → IsWithin (w * 2 ^ 32 + 2 ^ 32) z → IsWithin (2 ^ 60) z
light w z l h = (omega (arith, ints), omega (arith, ints))

lighter : (w : ℕ) (z : ℤ) → 1 + w ≤ 2000000 → IsWithin (w * 2 ^ 32) z → IsWithin (2 ^ 60) z
lighter w z l h = (omega (arith, ints), omega (arith, ints))

pub excess_light : (items : TreeItems) (z : ℤ) → past_limits items ≡ None → IsWithin (weights items * 2 ^ 32 + 2 ^ 32) z → IsWithin (2 ^ 60) z
excess_light items z e h = light (weights items) z (limit items e) h

parts_light : (set : SetGlue) (dir : Dir) (items : TreeItems) → AreSound dir items → past_limits items ≡ None → IsWithin (2 ^ 60) (parts set items)
parts_light set dir items a e = lighter (weights items) _ (limit items e) (parts_within set dir items a)

pub stretch_light : (dir : Dir) (items : TreeItems) (o : Order) → AreSound dir items → past_limits items ≡ None → IsWithin (2 ^ 60) (stretch_of items o)
stretch_light dir items o a e = parts_light (Stretch o (sp (pos 0)) (sp (pos 0))) dir items a e

pub shrink_light : (dir : Dir) (items : TreeItems) (o : Order) → AreSound dir items → past_limits items ≡ None → IsWithin (2 ^ 60) (shrink_of items o)
shrink_light dir items o a e = parts_light (Shrink o (sp (pos 0)) (sp (pos 0))) dir items a e

-- ---- totals that are those of the items

same_near : (a b : ℤ) → a ≡ b → IsWithin (2 ^ 60) b → IsWithin (2 ^ 62) a
same_near a b e h = (omega (arith, ints), omega (arith, ints))

module _ (kind : BoxKind) (dir : Dir) (items : TreeItems) (t : Totals) (are : AreTotals kind items t) (a : AreSound dir items) (e : past_limits items ≡ None) where
  stretch_near : (o : Order) → IsWithin (2 ^ 62) (total t.stretch o)
  stretch_near o = same_near _ (stretch_of items o) (ap (λ (f : Order → ℤ). f o) are.stretch) (stretch_light dir items o a e)

  shrink_near : (o : Order) → IsWithin (2 ^ 62) (total t.shrink o)
  shrink_near o = same_near _ (shrink_of items o) (ap (λ (f : Order → ℤ). f o) are.shrink) (shrink_light dir items o a e)

  pub totals_light : AreNear (2 ^ 62) t
  totals_light = record {
    natural = same_near _ (extents kind items) are.natural (lighter (weights items) _ (limit items e) (extents_within kind dir items a));
    stretch = record { normal = stretch_near Normal; fil = stretch_near Fil; fill = stretch_near Fill; filll = stretch_near Filll };
    shrink = record { normal = shrink_near Normal; fil = shrink_near Fil; fill = shrink_near Fill; filll = shrink_near Filll };
  }

-- ---- excesses

pub excess_near : (k : ℕ) (size : BoxSize) (n : ℤ) → IsSoundSize size → IsWithin k n → IsWithin (k + 2 ^ 31) (excess_for size n)
excess_near k Natural n s h = (omega (arith, ints), omega (arith, ints))
excess_near k (To length) n s h = (omega (arith, ints), omega (arith, ints))
excess_near k (Spread more) n s h = (omega (arith, ints), omega (arith, ints))

or_0 : (s : Option Sp) → IsDimenIfThere s → IsWithin max_dimen (or_else s nothing.wd).0
or_0 None d = (omega (arith, ints), omega (arith, ints))
or_0 (Some s) d = d

at_0 : IsWithin max_dimen (pos 0)
at_0 = (omega (arith, ints), omega (arith, ints))

depth_sound : (dir : Dir) (before : ℤ) (x : TreeItem) → IsSoundItem dir x → IsWithin max_dimen before → IsWithin max_dimen (depth_after before x)
depth_sound dir before (plain (glyph font code size shift first last)) s d = d
depth_sound dir before (plain (kanji font cell size kind)) s d = d
depth_sound dir before (plain (rule wd ht dp)) s d = or_0 dp s.1.1
depth_sound dir before (plain (glue g from)) s d = at_0
depth_sound dir before (plain (kern width from)) s d = at_0
depth_sound dir before (plain (penalty value auto)) s d = d
depth_sound dir before (box b shift) s d = (size_sound b s.0).dp
depth_sound dir before (crossed b shift seen) s d = s.1.1.0.dp

end_sound : (dir : Dir) (before : ℤ) (xs : TreeItems) → AreSound dir xs → IsWithin max_dimen before → IsWithin max_dimen (end_depth before xs)
end_sound dir before no_items s d = d
end_sound dir before (item x rest) s d = end_sound dir (depth_after before x) rest s.1 (depth_sound dir before x s.0 d)

lesser_near : (a b : ℤ) → IsWithin max_dimen a → IsWithin max_dimen b → IsWithin max_dimen (int_min a b)
lesser_near a b h k = (omega (arith, ints, clamps), omega (arith, ints, clamps))

pub vertical_depth_near : (dir : Dir) (items : TreeItems) (most : Sp) → AreSound dir items → IsDimen most → IsWithin max_dimen (vertical_depth items most)
vertical_depth_near dir items most a d = lesser_near _ _ (end_sound dir (pos 0) items a at_0) d

less_near : (k : ℕ) (a b : ℤ) → IsWithin k a → IsWithin max_dimen b → IsWithin (k + 2 ^ 30) (a -ℤ b)
less_near k a b h d = (omega (arith, ints), omega (arith, ints))

pub vertical_height_near : (dir : Dir) (items : TreeItems) (most : Sp) → AreSound dir items → IsDimen most → IsWithin (weights items * 2 ^ 32 + 2 ^ 30) (vertical_height items most)
vertical_height_near dir items most a d = less_near _ _ _ (extents_within Vertical dir items a) (vertical_depth_near dir items most a d)
