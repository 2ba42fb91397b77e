-- What is added up item by item is what the whole list comes to.
use Rattle.std.proofs.Common.{◌≡◌, ℕ, ◌+◌, ◌*◌, ◌^◌, ◌<◌, ◌≤◌, ℤ, pos, ◌+ℤ◌, ◌≤ℤ◌, List, [], ◌∷◌, length, drop, get_or, Bool, true, false, if◌then◌else◌, arith, refl, subst, sym, ◌∙◌}
use Rattle.std.proofs.lemmas.Grind.{common_steps}
use Rattle.std.proofs.lemmas.Int.{ints, clamps}
use Rattle.std.specs.Int.{int_max}
use Rattle.ts_geometry.specs.declared.direction.Dir.{Dir}
use Rattle.ts_geometry.specs.declared.glue.Order.{Order}
use Rattle.ts_geometry.specs.declared.glue.Order.TheVariants.{Normal, Fil, Fill, Filll}
use Rattle.ts_geometry.specs.declared.measure.Sp.{Sp}
use Rattle.ts_geometry.specs.Directions.{sp}
use Rattle.box_tree.specs.declared.item.Item.{Item}
use Rattle.box_tree.specs.declared.node.BoxKind.{BoxKind}
use Rattle.box_tree.specs.declared.node.BoxKind.TheVariants.{Horizontal, Vertical}
use Rattle.box_tree.specs.declared.node.SetGlue.TheVariants.{Stretch, Shrink}
use Rattle.box_tree.specs.Nodes.{tree_item, tree_items}
use Rattle.box_tree.specs.Offsets.{same_order, extents, item_part}
use Rattle.box_tree.specs.Sound.{IsSoundItem, AreSound}
use Rattle.box_tree.specs.Trees.{glyph, kanji, rule, glue, kern, penalty, TreeItems, no_items, item, TreeItem, plain, box, crossed}
use Rattle.packaging.specs.declared.flex.Flex.{Flex}
use Rattle.packaging.specs.declared.totals.Totals.{Totals}
use Rattle.packaging.specs.declared.horizontal.HorizontalSums.{HorizontalSums}
use Rattle.packaging.specs.declared.vertical.VerticalSums.{VerticalSums}
use Rattle.packaging.specs.Lists.{stretch_of, shrink_of, moved_height, moved_depth, moved_width, greatest_height, greatest_depth, greatest_width, end_depth}
use Rattle.packaging.specs.Running.{total, added, stretched, shrunk, no_totals, totals_with, horizontal_with, no_horizontal, vertical_with, no_vertical, AreNear, AreTotals, IsHorizontal, IsVertical}
use Rattle.packaging.proofs.Near.{are_farther, totals_near}

-- what comes of a value by one item after another
abbrev pub fold : {A : Type 0} → (A → TreeItem → A) → A → TreeItems → A
fold f a no_items = a
fold f a (item x rest) = fold f (f a x) rest

-- ---- one more item of a loop

module _ (xs : List Item) (i : ℕ) (x : Item) (h : i < length xs) (e : x ≡ get_or xs i x) where
  front_is : drop i xs ≡ x ∷ drop (i + 1) xs
  front_is = grind (arith, common_steps)

  pub next_same : {A : Type 0} (f : A → TreeItem → A) (s t : A) → fold f s (tree_items (drop i xs)) ≡ t → fold f (f s (tree_item x)) (tree_items (drop (i + 1) xs)) ≡ t
  next_same f s t p = subst (λ (rest : List Item). fold f s (tree_items rest) ≡ t) front_is p

pub all_done : {A : Type 0} (f : A → TreeItem → A) (s t : A) (xs : List Item) (i : ℕ) → length xs ≤ i → fold f s (tree_items (drop i xs)) ≡ t → s ≡ t
all_done f s t xs i h p =
    let e : drop i xs ≡ [] = grind (arith, common_steps) in
    subst (λ (rest : List Item). fold f s (tree_items rest) ≡ t) e p

module _ (dir : Dir) (xs : List Item) (i : ℕ) (x : Item) (h : i < length xs) (e : x ≡ get_or xs i x) where
  opened : AreSound dir (tree_items (drop i xs)) → AreSound dir (tree_items (x ∷ drop (i + 1) xs))
  opened a = subst (λ (rest : List Item). AreSound dir (tree_items rest)) (front_is xs i x h e) a

  pub next_sound : AreSound dir (tree_items (drop i xs)) → IsSoundItem dir (tree_item x)
  next_sound a = (opened a).0

  pub rest_sound : AreSound dir (tree_items (drop i xs)) → AreSound dir (tree_items (drop (i + 1) xs))
  rest_sound a = (opened a).1

  pub next_near : (kind : BoxKind) (t : Totals) → AreNear (i * 2 ^ 32) t → AreSound dir (tree_items (drop i xs)) → AreNear ((i + 1) * 2 ^ 32) (totals_with kind t (tree_item x))
  next_near kind t n a = are_farther _ _ _ (omega arith) (totals_near (i * 2 ^ 32) kind dir t (tree_item x) n (next_sound a))

-- ---- totals

chosen_is : (z w : ℤ) (c : Bool) → (if c then z +ℤ w else z) ≡ (z +ℤ (if c then w else pos 0))
chosen_is z w true = refl
chosen_is z w false = omega (arith, ints)

added_chosen : (f : Flex) (a : Order) (s : Sp) (o : Order) → total (added f a s) o ≡ (if same_order a o then total f o +ℤ s.0 else total f o)
added_chosen f Normal s Normal = refl
added_chosen f Normal s Fil = refl
added_chosen f Normal s Fill = refl
added_chosen f Normal s Filll = refl
added_chosen f Fil s Normal = refl
added_chosen f Fil s Fil = refl
added_chosen f Fil s Fill = refl
added_chosen f Fil s Filll = refl
added_chosen f Fill s Normal = refl
added_chosen f Fill s Fil = refl
added_chosen f Fill s Fill = refl
added_chosen f Fill s Filll = refl
added_chosen f Filll s Normal = refl
added_chosen f Filll s Fil = refl
added_chosen f Filll s Fill = refl
added_chosen f Filll s Filll = refl

added_is : (f : Flex) (a : Order) (s : Sp) (o : Order) → total (added f a s) o ≡ (total f o +ℤ (if same_order a o then s.0 else pos 0))
added_is f a s o = added_chosen f a s o ∙ chosen_is (total f o) s.0 (same_order a o)

with_0 : (z : ℤ) → z ≡ (z +ℤ pos 0)
with_0 z = omega (arith, ints)

abbrev zero : Sp
zero = sp (pos 0)

stretched_is : (f : Flex) (x : TreeItem) (o : Order) → total (stretched f x) o ≡ (total f o +ℤ item_part (Stretch o zero zero) x)
stretched_is f (plain (glyph font code size shift first last)) o = with_0 (total f o)
stretched_is f (plain (kanji font cell size kind)) o = with_0 (total f o)
stretched_is f (plain (rule wd ht dp)) o = with_0 (total f o)
stretched_is f (plain (glue g from)) o = added_is f g.stretch_order g.stretch o
stretched_is f (plain (kern width from)) o = with_0 (total f o)
stretched_is f (plain (penalty value auto)) o = with_0 (total f o)
stretched_is f (box b shift) o = with_0 (total f o)
stretched_is f (crossed b shift seen) o = with_0 (total f o)

shrunk_is : (f : Flex) (x : TreeItem) (o : Order) → total (shrunk f x) o ≡ (total f o +ℤ item_part (Shrink o zero zero) x)
shrunk_is f (plain (glyph font code size shift first last)) o = with_0 (total f o)
shrunk_is f (plain (kanji font cell size kind)) o = with_0 (total f o)
shrunk_is f (plain (rule wd ht dp)) o = with_0 (total f o)
shrunk_is f (plain (glue g from)) o = added_is f g.shrink_order g.shrink o
shrunk_is f (plain (kern width from)) o = with_0 (total f o)
shrunk_is f (plain (penalty value auto)) o = with_0 (total f o)
shrunk_is f (box b shift) o = with_0 (total f o)
shrunk_is f (crossed b shift seen) o = with_0 (total f o)

natural_runs : (kind : BoxKind) (t : Totals) (xs : TreeItems) → (fold (totals_with kind) t xs).natural.0 ≡ (t.natural.0 +ℤ extents kind xs)
natural_runs kind t no_items = with_0 t.natural.0
natural_runs kind t (item x rest) = let h = natural_runs kind (totals_with kind t x) rest in omega (arith, ints)

stretch_runs : (kind : BoxKind) (t : Totals) (xs : TreeItems) (o : Order) → total (fold (totals_with kind) t xs).stretch o ≡ (total t.stretch o +ℤ stretch_of xs o)
stretch_runs kind t no_items o = with_0 (total t.stretch o)
stretch_runs kind t (item x rest) o =
    let h = stretch_runs kind (totals_with kind t x) rest o in
    let one = stretched_is t.stretch x o in
    omega (arith, ints)

shrink_runs : (kind : BoxKind) (t : Totals) (xs : TreeItems) (o : Order) → total (fold (totals_with kind) t xs).shrink o ≡ (total t.shrink o +ℤ shrink_of xs o)
shrink_runs kind t no_items o = with_0 (total t.shrink o)
shrink_runs kind t (item x rest) o =
    let h = shrink_runs kind (totals_with kind t x) rest o in
    let one = shrunk_is t.shrink x o in
    omega (arith, ints)

from_0 : (z w : ℤ) → z ≡ (pos 0 +ℤ w) → z ≡ w
from_0 z w e = omega (arith, ints)

none_is : (o : Order) → total no_totals.stretch o ≡ pos 0
none_is Normal = refl
none_is Fil = refl
none_is Fill = refl
none_is Filll = refl

stretch_is : (kind : BoxKind) (xs : TreeItems) (o : Order) → total (fold (totals_with kind) no_totals xs).stretch o ≡ stretch_of xs o
stretch_is kind xs o = let h = stretch_runs kind no_totals xs o in let z = none_is o in omega (arith, ints)

shrink_is : (kind : BoxKind) (xs : TreeItems) (o : Order) → total (fold (totals_with kind) no_totals xs).shrink o ≡ shrink_of xs o
shrink_is kind xs o = let h = shrink_runs kind no_totals xs o in let z = none_is o in omega (arith, ints)

totals_are : (kind : BoxKind) (xs : TreeItems) → AreTotals kind xs (fold (totals_with kind) no_totals xs)
totals_are kind xs = record {
  natural = from_0 _ _ (natural_runs kind no_totals xs);
  stretch = λ i o. stretch_is kind xs o i;
  shrink = λ i o. shrink_is kind xs o i;
}

-- ---- rows

horizontal_totals : (r : HorizontalSums) (xs : TreeItems) → (fold horizontal_with r xs).totals ≡ fold (totals_with Horizontal) r.totals xs
horizontal_totals r no_items = refl
horizontal_totals r (item x rest) = horizontal_totals (horizontal_with r x) rest

nested_max : (a b c z : ℤ) → z ≡ int_max (int_max a b) c → z ≡ int_max a (int_max b c)
nested_max a b c z e = omega (arith, ints, clamps)

height_runs : (r : HorizontalSums) (xs : TreeItems) → pos 0 ≤ℤ r.height.0 → (fold horizontal_with r xs).height.0 ≡ int_max r.height.0 (greatest_height xs)
height_runs r no_items l = omega (arith, ints, clamps)
height_runs r (item x rest) l = nested_max r.height.0 (moved_height x) (greatest_height rest) _ (height_runs (horizontal_with r x) rest (omega (arith, ints, clamps)))

depth_runs : (r : HorizontalSums) (xs : TreeItems) → pos 0 ≤ℤ r.depth.0 → (fold horizontal_with r xs).depth.0 ≡ int_max r.depth.0 (greatest_depth xs)
depth_runs r no_items l = omega (arith, ints, clamps)
depth_runs r (item x rest) l = nested_max r.depth.0 (moved_depth x) (greatest_depth rest) _ (depth_runs (horizontal_with r x) rest (omega (arith, ints, clamps)))

height_above : (xs : TreeItems) → pos 0 ≤ℤ greatest_height xs
height_above no_items = omega (arith, ints)
height_above (item x rest) = let h = height_above rest in omega (arith, ints, clamps)

depth_above : (xs : TreeItems) → pos 0 ≤ℤ greatest_depth xs
depth_above no_items = omega (arith, ints)
depth_above (item x rest) = let h = depth_above rest in omega (arith, ints, clamps)

max_0 : (z w : ℤ) → pos 0 ≤ℤ w → z ≡ int_max (pos 0) w → z ≡ w
max_0 z w l e = omega (arith, ints, clamps)

zero_above : pos 0 ≤ℤ pos 0
zero_above = omega (arith, ints)

horizontal_is : (xs : TreeItems) → IsHorizontal xs (fold horizontal_with no_horizontal xs)
horizontal_is xs = record {
  totals = subst (λ (t : Totals). AreTotals Horizontal xs t) (sym (horizontal_totals no_horizontal xs)) (totals_are Horizontal xs);
  height = max_0 _ _ (height_above xs) (height_runs no_horizontal xs zero_above);
  depth = max_0 _ _ (depth_above xs) (depth_runs no_horizontal xs zero_above);
}

pub horizontal_ends : (xs : TreeItems) (r : HorizontalSums) → r ≡ fold horizontal_with no_horizontal xs → IsHorizontal xs r
horizontal_ends xs r e = rw e (horizontal_is xs)

-- ---- columns

vertical_totals : (c : VerticalSums) (xs : TreeItems) → (fold vertical_with c xs).totals ≡ fold (totals_with Vertical) c.totals xs
vertical_totals c no_items = refl
vertical_totals c (item x rest) = vertical_totals (vertical_with c x) rest

width_runs : (c : VerticalSums) (xs : TreeItems) → pos 0 ≤ℤ c.width.0 → (fold vertical_with c xs).width.0 ≡ int_max c.width.0 (greatest_width xs)
width_runs c no_items l = omega (arith, ints, clamps)
width_runs c (item x rest) l = nested_max c.width.0 (moved_width x) (greatest_width rest) _ (width_runs (vertical_with c x) rest (omega (arith, ints, clamps)))

width_above : (xs : TreeItems) → pos 0 ≤ℤ greatest_width xs
width_above no_items = omega (arith, ints)
width_above (item x rest) = let h = width_above rest in omega (arith, ints, clamps)

end_runs : (c : VerticalSums) (xs : TreeItems) → (fold vertical_with c xs).depth.0 ≡ end_depth c.depth.0 xs
end_runs c no_items = refl
end_runs c (item x rest) = end_runs (vertical_with c x) rest

vertical_is : (xs : TreeItems) → IsVertical xs (fold vertical_with no_vertical xs)
vertical_is xs = record {
  totals = subst (λ (t : Totals). AreTotals Vertical xs t) (sym (vertical_totals no_vertical xs)) (totals_are Vertical xs);
  width = max_0 _ _ (width_above xs) (width_runs no_vertical xs zero_above);
  depth = end_runs no_vertical xs;
}

pub vertical_ends : (xs : TreeItems) (c : VerticalSums) → c ≡ fold vertical_with no_vertical xs → IsVertical xs c
vertical_ends xs c e = rw e (vertical_is xs)
