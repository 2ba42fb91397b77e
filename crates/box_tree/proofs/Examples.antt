-- Small values of the definitions.
use Rattle.std.proofs.Common.{◌≡◌, ℤ, pos, negsuc, true, false, Some, None, refl, arith}
use Rattle.std.proofs.lemmas.Int.{ints}
use Rattle.ts_geometry.specs.declared.direction.Dir.{Dir}
use Rattle.ts_geometry.specs.declared.direction.Dir.TheVariants.{Yoko, Tate}
use Rattle.ts_geometry.specs.declared.glue.Order.{Order}
use Rattle.ts_geometry.specs.declared.glue.Order.TheVariants.{Normal, Fil}
use Rattle.ts_geometry.specs.Crossings.{measures}
use Rattle.ts_geometry.specs.Directions.{sp, point}
use Rattle.box_tree.specs.declared.item.GlueFrom.TheVariants.{Given}
use Rattle.box_tree.specs.declared.item.KernFrom.TheVariants.{Given as Command}
use Rattle.box_tree.specs.declared.frame.Frame.{Frame}
use Rattle.box_tree.specs.declared.node.BoxKind.TheVariants.{Horizontal, Vertical}
use Rattle.box_tree.specs.declared.node.SetGlue.TheVariants.{Plain as AsIs, Stretch, Shrink}
use Rattle.box_tree.specs.declared.node.Side.TheVariants.{Dp}
use Rattle.box_tree.specs.Equality.{is_same_tree}
use Rattle.box_tree.specs.Making.{with_measure}
use Rattle.box_tree.specs.Offsets.{extents, offset_after, share_of}
use Rattle.box_tree.specs.Places.{item_point}
use Rattle.box_tree.specs.Sound.{IsSound, IsSoundItem}
use Rattle.box_tree.specs.Trees.{rule, glue, kern, penalty, BoxTree, node, TreeItems, no_items, item, TreeItem, plain, box, crossed}
use Rattle.box_tree.specs.Weights.{weight, depth}

-- ---- weight and depth

abbrev a_rule : TreeItem
a_rule = plain (rule (Some (sp (pos 1))) (Some (sp (pos 2))) None)

abbrev boxed_in : Dir → TreeItems → BoxTree
boxed_in dir items = node Horizontal dir (measures (pos 3) (pos 5) (pos 7)) AsIs items

abbrev ruled : BoxTree
ruled = boxed_in Yoko (item a_rule no_items)

abbrev doubled : BoxTree → BoxTree
doubled b = boxed_in Yoko (item (box b (sp (pos 0))) (item (box b (sp (pos 4))) no_items))

weight-empty : weight (boxed_in Yoko no_items) ≡ 1
weight-empty = refl

weight-ruled : weight ruled ≡ 2
weight-ruled = refl

weight-doubled_twice : weight (doubled (doubled ruled)) ≡ 11
weight-doubled_twice = refl

depth-ruled : depth ruled ≡ 1
depth-ruled = refl

depth-doubled_twice : depth (doubled (doubled ruled)) ≡ 3
depth-doubled_twice = refl

-- a box of another direction counts as one of the same
weight-crossed : weight (boxed_in Tate (item (crossed ruled (sp (pos 0)) (measures (pos 12) (pos 2) (pos 1))) (item a_rule no_items))) ≡ 4
weight-crossed = refl

depth-crossed : depth (boxed_in Tate (item (crossed ruled (sp (pos 0)) (measures (pos 12) (pos 2) (pos 1))) (item a_rule no_items))) ≡ 2
depth-crossed = refl

-- ---- the same tree, and another measure

same-doubled : is_same_tree (doubled ruled) (doubled ruled) ≡ true
same-doubled = refl

same-other_depth : is_same_tree (with_measure (doubled ruled) Dp (sp (pos 8))) (doubled ruled) ≡ false
same-other_depth = refl

same-depth_of_its_own : is_same_tree (with_measure (doubled ruled) Dp (sp (pos 7))) (doubled ruled) ≡ true
same-depth_of_its_own = refl

-- ---- offsets

abbrev a_glue : ℤ → ℤ → Order → ℤ → Order → TreeItem
a_glue width stretch order shrink shrink_order =
    plain (glue (record { width = sp width; stretch = sp stretch; stretch_order = order; shrink = sp shrink; shrink_order = shrink_order }) Given)

-- 5 plus 10, 7 plus 3fil minus 2, and 2 plus 1fil
abbrev one_glue : TreeItems
one_glue = item (a_glue (pos 5) (pos 10) Normal (pos 0) Normal) no_items

abbrev two_glues : TreeItems
two_glues = item (a_glue (pos 5) (pos 10) Normal (pos 0) Normal) (item (a_glue (pos 7) (pos 3) Fil (pos 2) Normal) no_items)

abbrev three_glues : TreeItems
three_glues =
    item (a_glue (pos 5) (pos 10) Normal (pos 0) Normal) (item (a_glue (pos 7) (pos 3) Fil (pos 2) Normal) (item (a_glue (pos 2) (pos 1) Fil (pos 2) Fil) no_items))

-- an excess of 8 falls to a total of 4fil: the stretch of the lower order takes none of it
offset-below_the_set_order : offset_after Horizontal (Stretch Fil (sp (pos 8)) (sp (pos 4))) one_glue ≡ pos 5
unfolding share_of
offset-below_the_set_order = refl

offset-of_the_set_order : offset_after Horizontal (Stretch Fil (sp (pos 8)) (sp (pos 4))) two_glues ≡ pos 18
unfolding share_of
offset-of_the_set_order = refl

offset-all_of_it : offset_after Horizontal (Stretch Fil (sp (pos 8)) (sp (pos 4))) three_glues ≡ pos 22
unfolding share_of
offset-all_of_it = refl

-- an excess of 1 falls to a total shrink of 2
offset-shrunk : offset_after Horizontal (Shrink Normal (sp (pos 1)) (sp (pos 2))) three_glues ≡ pos 13
unfolding share_of
offset-shrunk = refl

offset-as_it_is : offset_after Vertical AsIs three_glues ≡ pos 14
offset-as_it_is = refl

-- a rule of width 1 and height 2 without a depth, a kern of -4 and a penalty
abbrev a_few : TreeItems
a_few = item a_rule (item (plain (kern (sp (negsuc 3)) Command)) (item (plain (penalty (pos 10000) false)) (item (box ruled (sp (pos 9))) no_items)))

extents-widths : extents Horizontal a_few ≡ pos 0
extents-widths = refl

extents-heights_with_depths : extents Vertical a_few ≡ pos 10
extents-heights_with_depths = refl

-- ---- places

abbrev a_frame : Frame
a_frame = record { kind = Vertical; dir = Yoko; size = measures (pos 3) (pos 20) (pos 0); set = AsIs; at = point (pos 0) (pos 20) }

-- its top edge is at 0; a box of height 5 stands 3 below that
place-below_the_top_edge : item_point a_frame (pos 3) (box ruled (sp (pos 1))) ≡ point (pos 1) (pos 8)
place-below_the_top_edge = refl

-- ---- sound boxes

sound-ruled : IsSound ruled
sound-ruled = (
  record { wd = (omega (arith, ints), omega (arith, ints)); ht = (omega (arith, ints), omega (arith, ints)); dp = (omega (arith, ints), omega (arith, ints)) },
  (tt, (((omega (arith, ints), omega (arith, ints)), ((omega (arith, ints), omega (arith, ints)), tt)), tt)),
)

-- a kern of 16384pt
sound-not_a_long_kern : IsSoundItem Yoko (plain (kern (sp (pos 1073741824)) Command)) → ⊥
sound-not_a_long_kern s = omega (arith, ints, s.1)

sound-not_a_box_of_another_direction : IsSoundItem Tate (box ruled (sp (pos 0))) → ⊥
sound-not_a_box_of_another_direction s = let e = s.1.1 in cc

-- tate sees the box of 3, 5 and 7 as one of 12, 2 and 1
sound-not_a_crossing_within_yoko : IsSoundItem Yoko (crossed ruled (sp (pos 0)) (measures (pos 3) (pos 5) (pos 7))) → ⊥
sound-not_a_crossing_within_yoko s = s.1.1.1.directions refl

sound-a_crossing : IsSoundItem Tate (crossed ruled (sp (pos 0)) (measures (pos 12) (pos 2) (pos 1)))
sound-a_crossing = (
  sound-ruled,
  (
    (omega (arith, ints), omega (arith, ints)),
    (
      record { wd = (omega (arith, ints), omega (arith, ints)); ht = (omega (arith, ints), omega (arith, ints)); dp = (omega (arith, ints), omega (arith, ints)) },
      record { directions = λ e. cc; measures = refl },
    ),
  ),
)

sound-not_a_share_of_nothing : IsSound (node Horizontal Yoko (measures (pos 3) (pos 5) (pos 7)) (Stretch Fil (sp (pos 1)) (sp (pos 0))) no_items) → ⊥
sound-not_a_share_of_nothing s = s.1.0.not_0 refl
