-- What is packed, or crossed, is sound.
use Rattle.std.proofs.Common.{◌≡◌, ◌≢◌, ◌+◌, ◌*◌, ◌^◌, ℤ, pos, neg_ℤ, Bool, true, false, if◌then◌else◌, Option, Some, None, Result, Ok, Err, IfOk, int_lt, int_eq, arith, refl, sym, subst}
use Rattle.std.proofs.lemmas.Int.{ints}
use Rattle.std.proofs.lemmas.Grind.{common_steps}
use Rattle.ts_base.specs.Agreement.{Agrees, with_fault}
use Rattle.ts_geometry.specs.declared.direction.Dir.{Dir}
use Rattle.ts_geometry.specs.declared.glue.Order.{Order}
use Rattle.ts_geometry.specs.declared.glue.Order.TheVariants.{Normal, Fil, Fill, Filll}
use Rattle.ts_geometry.specs.declared.measure.Measures.{Measures}
use Rattle.ts_geometry.specs.Directions.{sp}
use Rattle.ts_geometry.specs.Numbers.{IsWithin}
use Rattle.box_tree.specs.declared.fault.BoxFault.{BoxFault}
use Rattle.box_tree.specs.declared.node.BoxKind.{BoxKind}
use Rattle.box_tree.specs.declared.node.SetGlue.{SetGlue}
use Rattle.box_tree.specs.declared.node.SetGlue.TheVariants.{Plain as AsIs}
use Rattle.box_tree.specs.Bounds.{HasDimens}
use Rattle.box_tree.specs.Making.{past_limits, unless, boxed}
use Rattle.box_tree.specs.Sound.{IsSoundShare, IsSoundSet, AreSound}
use Rattle.box_tree.specs.Trees.{BoxTree, node, TreeItems}
use Rattle.box_tree.specs.Weights.{weights}
use Rattle.packaging.specs.declared.fault.PackFault.{PackFault}
use Rattle.packaging.specs.declared.totals.Totals.{Totals}
use Rattle.packaging.specs.Running.{total, AreTotals}
use Rattle.packaging.specs.Lists.{stretch_of, shrink_of}
use Rattle.packaging.specs.Packing.{is_dimen, are_dimens, pack_fault, packed, pack_cause, IsSoundIn}
use Rattle.packaging.specs.Laws.{PackedIsItsNode}
use Rattle.packaging.specs.Setting.{highest, stretch_by, shrink_most, shrink_by, set_glue}
use Rattle.packaging.proofs.Bounds.{excess_light, stretch_light, shrink_light}

pub dimens_sound : (m : Measures) → are_dimens m ≡ true → HasDimens m
unfolding are_dimens is_dimen
dimens_sound m e = record {
  wd = (grind (arith, common_steps), grind (arith, common_steps));
  ht = (grind (arith, common_steps), grind (arith, common_steps));
  dp = (grind (arith, common_steps), grind (arith, common_steps));
}

-- ---- set glue

shared : (excess total : ℤ) → total ≢ pos 0 → IsWithin (2 ^ 60) excess → IsWithin (2 ^ 60) total → IsSoundShare (sp excess) (sp total)
shared excess total n e t = record { not_0 = n; excess_near = e; total_near = t }

chosen : (z : ℤ) (a b : SetGlue) → IsSoundSet a → (z ≢ pos 0 → IsSoundSet b) → (c : Bool) → int_eq z (pos 0) ≡ c → IsSoundSet (if c then a else b)
chosen z a b s h true e = s
chosen z a b s h false e = h (λ n. grind (arith, common_steps))

stretch_sound : (excess : ℤ) (o : Order) (total : ℤ) → IsWithin (2 ^ 60) excess → IsWithin (2 ^ 60) total → IsSoundSet (stretch_by excess o total)
stretch_sound excess o total e h = chosen total _ _ tt (λ n. shared excess total n e h) _ refl

finite_sound : (excess total : ℤ) → total ≢ pos 0 → IsWithin (2 ^ 60) excess → IsWithin (2 ^ 60) total → (c : Bool) → int_lt total excess ≡ c → IsSoundSet (shrink_most excess Normal total)
finite_sound excess total n e t true h = rw h (shared total total n t t)
finite_sound excess total n e t false h = rw h (shared excess total n e t)

most_sound : (excess : ℤ) (o : Order) (total : ℤ) → total ≢ pos 0 → IsWithin (2 ^ 60) excess → IsWithin (2 ^ 60) total → IsSoundSet (shrink_most excess o total)
most_sound excess Normal total n e t = finite_sound excess total n e t (int_lt total excess) refl
most_sound excess Fil total n e t = shared excess total n e t
most_sound excess Fill total n e t = shared excess total n e t
most_sound excess Filll total n e t = shared excess total n e t

shrink_sound : (excess : ℤ) (o : Order) (total : ℤ) → IsWithin (2 ^ 60) excess → IsWithin (2 ^ 60) total → IsSoundSet (shrink_by excess o total)
shrink_sound excess o total e h = chosen total _ _ tt (λ n. most_sound excess o total n e h) _ refl

either : (a b : SetGlue) → IsSoundSet a → IsSoundSet b → (c : Bool) → IsSoundSet (if c then a else b)
either a b s t true = s
either a b s t false = t

glue_sound : (excess : ℤ) (a b : Order → ℤ) → IsWithin (2 ^ 60) excess → ((o : Order) → IsWithin (2 ^ 60) (a o)) → ((o : Order) → IsWithin (2 ^ 60) (b o)) → IsSoundSet (set_glue excess a b)
unfolding set_glue
glue_sound excess a b e h k =
    let o : IsWithin (2 ^ 60) (neg_ℤ excess) = (omega (arith, ints), omega (arith, ints)) in
    either (stretch_by excess (highest a) (a (highest a))) (if int_lt excess (pos 0) then shrink_by (neg_ℤ excess) (highest b) (b (highest b)) else AsIs)
    (stretch_sound excess (highest a) (a (highest a)) e (h (highest a)))
    (either (shrink_by (neg_ℤ excess) (highest b) (b (highest b))) AsIs (shrink_sound (neg_ℤ excess) (highest b) (b (highest b)) o (k (highest b))) (tt {0}) (int_lt excess (pos 0)))
    (int_lt (pos 0) excess)

-- ---- packed boxes

module _ (kind : BoxKind) (dir : Dir) (m : Measures) (excess : ℤ) (items : TreeItems) (b : BoxTree) where
  abbrev made : BoxTree
  made = node kind dir m (set_glue excess (stretch_of items) (shrink_of items)) items

  by_limits : (o : Option BoxFault) → past_limits items ≡ o → HasDimens m → with_fault pack_fault (unless o made) ≡ Ok b →
      (past_limits items ≡ None) × (HasDimens m × (b ≡ made))
  by_limits None l d e = let q : b ≡ made = cc in (l, (d, q))
  by_limits (Some f) l d e = cc

  by_dimens : (c : Bool) → are_dimens m ≡ c → packed kind dir m excess items ≡ Ok b → (past_limits items ≡ None) × (HasDimens m × (b ≡ made))
  by_dimens true d e = by_limits (past_limits items) refl (dimens_sound m d) (rw d at e)
  by_dimens false d e = let n = rw d at e in cc

pub packed_is_its_node : PackedIsItsNode
packed_is_its_node kind dir m excess items b e = let h = by_dimens kind dir m excess items b (are_dimens m) refl e in (h.1.0, h.1.1)

packed_sound : (kind : BoxKind) (dir : Dir) (m : Measures) (excess : ℤ) (items : TreeItems) (b : BoxTree) → AreSound dir items →
    IsWithin (weights items * 2 ^ 32 + 2 ^ 32) excess → packed kind dir m excess items ≡ Ok b → IsSoundIn dir b
packed_sound kind dir m excess items b a n e =
    let h = by_dimens kind dir m excess items b (are_dimens m) refl e in
    let l = h.0 in
    let set = glue_sound excess (stretch_of items) (shrink_of items) (excess_light items excess l n) (λ o. stretch_light dir items o a l) (λ o. shrink_light dir items o a l) in
    rw h.1.1 (record { sound = (h.1.0, (set, a)); direction = refl })

pub answer_sound : (kind : BoxKind) (dir : Dir) (m : Measures) (excess : ℤ) (items : TreeItems) (r : Result BoxTree PackFault) → AreSound dir items →
    IsWithin (weights items * 2 ^ 32 + 2 ^ 32) excess → Agrees (λ b. b) pack_cause r (packed kind dir m excess items) → IfOk r (λ b. IsSoundIn dir b)
answer_sound kind dir m excess items (Ok b) a n h = packed_sound kind dir m excess items b a n h
answer_sound kind dir m excess items (Err e) a n h = tt

-- the box whose glue is set by totals that are those of the items
pub packed_is : (kind : BoxKind) (dir : Dir) (m : Measures) (excess : ℤ) (items : TreeItems) (t : Totals) → are_dimens m ≡ true → AreTotals kind items t →
    packed kind dir m excess items ≡ with_fault pack_fault (boxed (node kind dir m (set_glue excess (total t.stretch) (total t.shrink)) items))
packed_is kind dir m excess items t d are = rw (d, are.stretch, are.shrink) refl

pub boxed_agrees : (kind : BoxKind) (dir : Dir) (m : Measures) (excess : ℤ) (items : TreeItems) (t : Totals) (r : Result BoxTree PackFault) → are_dimens m ≡ true →
    AreTotals kind items t → Agrees (λ b. b) pack_cause r (with_fault pack_fault (boxed (node kind dir m (set_glue excess (total t.stretch) (total t.shrink)) items))) →
    Agrees (λ b. b) pack_cause r (packed kind dir m excess items)
boxed_agrees kind dir m excess items t r d are h = subst (λ (given : Result BoxTree PackFault). Agrees (λ b. b) pack_cause r given) (sym (packed_is kind dir m excess items t d are)) h

pub boxed_sound : (kind : BoxKind) (dir : Dir) (m : Measures) (excess : ℤ) (items : TreeItems) (t : Totals) (r : Result BoxTree PackFault) → are_dimens m ≡ true →
    AreTotals kind items t → AreSound dir items → IsWithin (weights items * 2 ^ 32 + 2 ^ 32) excess →
    Agrees (λ b. b) pack_cause r (with_fault pack_fault (boxed (node kind dir m (set_glue excess (total t.stretch) (total t.shrink)) items))) →
    IfOk r (λ b. IsSoundIn dir b)
boxed_sound kind dir m excess items t r d are a n h = answer_sound kind dir m excess items r a n (boxed_agrees kind dir m excess items t r d are h)
