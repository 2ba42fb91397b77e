-- Where the set glue takes the whole excess, the last offset of a list is its natural length and the excess.
use Rattle.std.proofs.Common.{◌≡◌, ◌≢◌, ℕ, zero, suc, ◌+◌, ◌*◌, ◌-◌, ◌^◌, ◌<◌, ◌≤◌, ℤ, pos, negsuc, neg_ℤ, ◌+ℤ◌, ◌*ℤ◌, Bool, true, false, if◌then◌else◌, nat_lt, int_lt, int_eq, arith, refl, ap, sym, ◌∙◌}
use Rattle.std.proofs.Math.Nat.{mul-le-mul_right}
use Rattle.std.proofs.lemmas.Bool.Decides.{nat_tests}
use Rattle.std.proofs.lemmas.Grind.{common_steps}
use Rattle.std.proofs.lemmas.Int.{ints, clamps}
use Rattle.ts_geometry.specs.declared.glue.Order.{Order}
use Rattle.ts_geometry.specs.declared.glue.Order.TheVariants.{Normal, Fil, Fill, Filll}
use Rattle.ts_geometry.specs.declared.measure.Sp.{Sp}
use Rattle.ts_geometry.specs.Directions.{sp}
use Rattle.ts_geometry.specs.Numbers.{IsWithin, nearest, rounded, bounded}
use Rattle.ts_geometry.proofs.Quotients.{nearest_is_within_half}
use Rattle.box_tree.specs.declared.node.BoxKind.{BoxKind}
use Rattle.box_tree.specs.declared.node.SetGlue.{SetGlue}
use Rattle.box_tree.specs.declared.node.SetGlue.TheVariants.{Plain as AsIs, Stretch, Shrink}
use Rattle.box_tree.specs.Offsets.{extents, parts, item_part, share_of, offset_after}
use Rattle.box_tree.specs.Trees.{glyph, kanji, rule, glue, kern, penalty, TreeItems, no_items, item, TreeItem, plain, box, crossed}
use Rattle.packaging.specs.Laws.{TakesAll, ListsAreFilled}
use Rattle.packaging.specs.Lists.{stretch_of, shrink_of}
use Rattle.packaging.specs.Setting.{highest, stretch_by, shrink_most, shrink_by, set_glue}

-- ---- a whole total takes its excess

not_more : (q n d : ℕ) → 0 < d → 2 * (q * d) ≤ 2 * (n * d) + d → n + 1 ≤ q → ⊥
not_more q n d h l m = let p : (n + 1) * d ≤ q * d = mul-le-mul_right d m in omega arith

not_less : (q n d : ℕ) → 0 < d → 2 * (n * d) < 2 * (q * d) + d → q + 1 ≤ n → ⊥
not_less q n d h l m = let p : (q + 1) * d ≤ n * d = mul-le-mul_right d m in omega arith

at_most : (q n : ℕ) (c : Bool) → nat_lt n q ≡ c → (n + 1 ≤ q → ⊥) → q ≤ n
at_most q n true e f = absurd (f (grind (arith, nat_tests)))
at_most q n false e f = grind (arith, nat_tests)

nearest_whole : (n d : ℕ) → 0 < d → nearest (n * d) d ≡ n
nearest_whole n d h =
    let w = nearest_is_within_half (n * d) d h in
    let low = at_most (nearest (n * d) d) n _ refl (not_more (nearest (n * d) d) n d h w.0) in
    let high = at_most n (nearest (n * d) d) _ refl (not_less (nearest (n * d) d) n d h w.1) in
    omega arith

-- the same, of a number that is this product
nearest_product : (z n d : ℕ) → 0 < d → z ≡ n * d → nearest z d ≡ n
nearest_product z n d h e = rw e (nearest_whole n d h)

both_above : (a b : ℕ) → 0 < a → rounded (pos a *ℤ pos b) (pos a) ≡ pos b
both_above a b h = ap pos (nearest_product (a * b) b a h (omega arith))

excess_below : (a b : ℕ) → 0 < a → rounded (pos a *ℤ negsuc b) (pos a) ≡ negsuc b
excess_below a b h =
    let p : pos a *ℤ negsuc b ≡ negsuc (suc b * a - 1) = omega (arith, ints) in
    rw p (ap (λ (n : ℕ). neg_ℤ (pos n)) (nearest_product (suc (suc b * a - 1)) (suc b) a h (omega arith)))

total_below : (a b : ℕ) → rounded (negsuc a *ℤ pos b) (negsuc a) ≡ pos b
total_below a zero =
    let p : negsuc a *ℤ pos zero ≡ pos 0 = omega (arith, ints) in
    rw p (ap (λ (n : ℕ). neg_ℤ (pos n)) (nearest_product 0 0 (suc a) (omega arith) (omega arith)))
total_below a (suc b) =
    let p : negsuc a *ℤ pos (suc b) ≡ negsuc (suc b * suc a - 1) = omega (arith, ints) in
    rw p (ap pos (nearest_product (suc (suc b * suc a - 1)) (suc b) (suc a) (omega arith) (omega arith)))

both_below : (a b : ℕ) → rounded (negsuc a *ℤ negsuc b) (negsuc a) ≡ negsuc b
both_below a b = ap (λ (n : ℕ). neg_ℤ (pos n)) (nearest_product (suc a * suc b) (suc b) (suc a) (omega arith) (omega arith))

rounded_whole : (t e : ℤ) → t ≢ pos 0 → rounded (t *ℤ e) t ≡ e
rounded_whole (pos zero) e n = absurd (n refl)
rounded_whole (pos (suc a)) (pos b) n = both_above (suc a) b (omega arith)
rounded_whole (pos (suc a)) (negsuc b) n = excess_below (suc a) b (omega arith)
rounded_whole (negsuc a) (pos b) n = total_below a b
rounded_whole (negsuc a) (negsuc b) n = both_below a b

bounded_same : (z : ℤ) → IsWithin (10 ^ 9) z → bounded z ≡ z
bounded_same z h = omega (arith, ints, clamps)

share_whole : (total excess : Sp) → total.0 ≢ pos 0 → IsWithin (10 ^ 9) excess.0 → share_of total.0 excess total ≡ excess.0
unfolding share_of
share_whole total excess n h = ap bounded (rounded_whole total.0 excess.0 n) ∙ bounded_same excess.0 h

-- ---- the set glue has the totals of the list

-- what is set, and its total, which isn't 0
abbrev HasTotals : (Order → ℤ) → (Order → ℤ) → SetGlue → Type 0
HasTotals a b AsIs = Unit {0}
HasTotals a b (Stretch o excess total) = (total.0 ≡ a o) × (total.0 ≢ pos 0)
HasTotals a b (Shrink o excess total) = (total.0 ≡ b o) × (total.0 ≢ pos 0)

module _ (a b : Order → ℤ) where
  chosen : (z : ℤ) (s t : SetGlue) → HasTotals a b s → (z ≢ pos 0 → HasTotals a b t) → (c : Bool) → int_eq z (pos 0) ≡ c → HasTotals a b (if c then s else t)
  chosen z s t h k true e = h
  chosen z s t h k false e = k (λ n. grind (arith, common_steps))

  whole_has : (excess : ℤ) → b Normal ≢ pos 0 → (c : Bool) → HasTotals a b (if c then Shrink Normal (sp (b Normal)) (sp (b Normal)) else Shrink Normal (sp excess) (sp (b Normal)))
  whole_has excess n true = (refl, n)
  whole_has excess n false = (refl, n)

  most_has : (excess : ℤ) (o : Order) → b o ≢ pos 0 → HasTotals a b (shrink_most excess o (b o))
  most_has excess Normal n = whole_has excess n (int_lt (b Normal) excess)
  most_has excess Fil n = (refl, n)
  most_has excess Fill n = (refl, n)
  most_has excess Filll n = (refl, n)

  stretch_has : (excess : ℤ) (o : Order) → HasTotals a b (stretch_by excess o (a o))
  stretch_has excess o = chosen (a o) _ _ tt (λ n. (refl, n)) _ refl

  shrink_has : (excess : ℤ) (o : Order) → HasTotals a b (shrink_by excess o (b o))
  shrink_has excess o = chosen (b o) _ _ tt (λ n. most_has excess o n) _ refl

  either : (s t : SetGlue) → HasTotals a b s → HasTotals a b t → (c : Bool) → HasTotals a b (if c then s else t)
  either s t h k true = h
  either s t h k false = k

  set_has : (excess : ℤ) → HasTotals a b (set_glue excess a b)
  unfolding set_glue
  set_has excess =
      either (stretch_by excess (highest a) (a (highest a))) (if int_lt excess (pos 0) then shrink_by (neg_ℤ excess) (highest b) (b (highest b)) else AsIs)
      (stretch_has excess (highest a))
      (either (shrink_by (neg_ℤ excess) (highest b) (b (highest b))) AsIs (shrink_has (neg_ℤ excess) (highest b)) (tt {0}) (int_lt excess (pos 0)))
      (int_lt (pos 0) excess)

-- ---- the last offset

abbrev zero_sp : Sp
zero_sp = sp (pos 0)

part_stretches : (o : Order) (excess total : Sp) (x : TreeItem) → item_part (Stretch o excess total) x ≡ item_part (Stretch o zero_sp zero_sp) x
part_stretches o excess total (plain (glyph font code size shift first last)) = refl
part_stretches o excess total (plain (kanji font cell size k)) = refl
part_stretches o excess total (plain (rule wd ht dp)) = refl
part_stretches o excess total (plain (glue g from)) = refl
part_stretches o excess total (plain (kern width from)) = refl
part_stretches o excess total (plain (penalty value auto)) = refl
part_stretches o excess total (box b shift) = refl
part_stretches o excess total (crossed b shift seen) = refl

part_shrinks : (o : Order) (excess total : Sp) (x : TreeItem) → item_part (Shrink o excess total) x ≡ item_part (Shrink o zero_sp zero_sp) x
part_shrinks o excess total (plain (glyph font code size shift first last)) = refl
part_shrinks o excess total (plain (kanji font cell size k)) = refl
part_shrinks o excess total (plain (rule wd ht dp)) = refl
part_shrinks o excess total (plain (glue g from)) = refl
part_shrinks o excess total (plain (kern width from)) = refl
part_shrinks o excess total (plain (penalty value auto)) = refl
part_shrinks o excess total (box b shift) = refl
part_shrinks o excess total (crossed b shift seen) = refl

parts_stretch : (o : Order) (excess total : Sp) (xs : TreeItems) → parts (Stretch o excess total) xs ≡ stretch_of xs o
parts_stretch o excess total no_items = refl
parts_stretch o excess total (item x rest) = λ i. part_stretches o excess total x i +ℤ parts_stretch o excess total rest i

parts_shrink : (o : Order) (excess total : Sp) (xs : TreeItems) → parts (Shrink o excess total) xs ≡ shrink_of xs o
parts_shrink o excess total no_items = refl
parts_shrink o excess total (item x rest) = λ i. part_shrinks o excess total x i +ℤ parts_shrink o excess total rest i

same_share : (part : ℤ) (excess total : Sp) → part ≡ total.0 → total.0 ≢ pos 0 → IsWithin (10 ^ 9) excess.0 → share_of part excess total ≡ excess.0
same_share part excess total e n h = ap (λ (z : ℤ). share_of z excess total) e ∙ share_whole total excess n h

near_is : (a b : ℤ) → a ≡ b → IsWithin (10 ^ 9) b → IsWithin (10 ^ 9) a
near_is a b e h = rw e h

opposite_near : (z : ℤ) → IsWithin (10 ^ 9) z → IsWithin (10 ^ 9) (neg_ℤ z)
opposite_near z h = (omega (arith, ints), omega (arith, ints))

ends_at : (kind : BoxKind) (items : TreeItems) (excess : ℤ) (set : SetGlue) → IsWithin (10 ^ 9) excess → HasTotals (stretch_of items) (shrink_of items) set → TakesAll set excess →
    offset_after kind set items ≡ (extents kind items +ℤ excess)
ends_at kind items excess AsIs h t e = omega (arith, ints)
ends_at kind items excess (Stretch o part total) h t e =
    let s = same_share (parts (Stretch o part total) items) part total (parts_stretch o part total items ∙ sym t.0) t.1 (near_is part.0 excess e h) in
    omega (arith, ints)
ends_at kind items excess (Shrink o part total) h t e =
    let s = same_share (parts (Shrink o part total) items) part total (parts_shrink o part total items ∙ sym t.0) t.1 (near_is part.0 (neg_ℤ excess) e (opposite_near excess h)) in
    omega (arith, ints)

pub lists_are_filled : ListsAreFilled
lists_are_filled kind items excess h t = ends_at kind items excess (set_glue excess (stretch_of items) (shrink_of items)) h (set_has (stretch_of items) (shrink_of items) excess) t
