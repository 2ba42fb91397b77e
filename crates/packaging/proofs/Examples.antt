-- Small values of the definitions.
use Rattle.std.proofs.Common.{◌≡◌, ℤ, pos, negsuc, false, Some, Ok, Err, refl}
use Rattle.ts_geometry.specs.declared.direction.Dir.TheVariants.{Yoko, Tate, Dtou}
use Rattle.ts_geometry.specs.declared.glue.Order.{Order}
use Rattle.ts_geometry.specs.declared.glue.Order.TheVariants.{Normal, Fil, Fill}
use Rattle.ts_geometry.specs.declared.measure.Sp.{Sp}
use Rattle.ts_geometry.specs.Crossings.{measures}
use Rattle.ts_geometry.specs.Directions.{sp}
use Rattle.box_tree.specs.declared.item.GlueFrom.TheVariants.{Given}
use Rattle.box_tree.specs.declared.item.Item.TheVariants.{Box, Crossed}
use Rattle.box_tree.specs.declared.item.KernFrom.TheVariants.{Given as Command}
use Rattle.box_tree.specs.declared.node.BoxKind.TheVariants.{Horizontal, Vertical}
use Rattle.box_tree.specs.declared.node.BoxSize.TheVariants.{Natural, To, Spread}
use Rattle.box_tree.specs.declared.node.SetGlue.TheVariants.{Plain as AsIs, Stretch, Shrink}
use Rattle.box_tree.specs.Trees.{rule, glue, kern, penalty, BoxTree, node, TreeItems, no_items, item, TreeItem, plain, box}
use Rattle.packaging.specs.declared.fault.PackFault.TheVariants.{DimenRange}
use Rattle.packaging.specs.Crossing.{crossing}
use Rattle.packaging.specs.Packing.{is_dimen, are_dimens, hpacked, vpacked, vtopped}
use Rattle.packaging.specs.Setting.{highest, set_glue}

abbrev a_rule : ℤ → ℤ → ℤ → TreeItem
a_rule wd ht dp = plain (rule (Some (sp wd)) (Some (sp ht)) (Some (sp dp)))

abbrev a_glue : ℤ → ℤ → Order → ℤ → Order → TreeItem
a_glue width stretch order shrink shrink_order =
    plain (glue (record { width = sp width; stretch = sp stretch; stretch_order = order; shrink = sp shrink; shrink_order = shrink_order }) Given)

abbrev a_kern : ℤ → TreeItem
a_kern width = plain (kern (sp width) Command)

abbrev most : Sp
most = sp (pos 1073741823)

-- ---- vertical lists

abbrev two_rules : TreeItems
two_rules = item (a_rule (pos 3) (pos 1) (pos 2)) (item (a_rule (pos 3) (pos 4) (pos 5)) no_items)

vpack-two_rules : vpacked two_rules Yoko Natural most ≡ Ok (node Vertical Yoko (measures (pos 3) (pos 7) (pos 5)) AsIs two_rules)
unfolding set_glue are_dimens is_dimen
vpack-two_rules = refl

vtop-two_rules : vtopped two_rules Yoko Natural most ≡ Ok (node Vertical Yoko (measures (pos 3) (pos 1) (pos 11)) AsIs two_rules)
unfolding set_glue are_dimens is_dimen
vtop-two_rules = refl

-- what passes the maximum depth goes to the height
vpack-maximum_depth : vpacked two_rules Yoko Natural (sp (pos 2)) ≡ Ok (node Vertical Yoko (measures (pos 3) (pos 10) (pos 2)) AsIs two_rules)
unfolding set_glue are_dimens is_dimen
vpack-maximum_depth = refl

abbrev then_penalty : TreeItems
then_penalty = item (a_rule (pos 3) (pos 4) (negsuc 2)) (item (plain (penalty (pos 100) false)) no_items)

-- a depth below 0 stays, also where a penalty follows
vpack-depth_below_0 : vpacked then_penalty Yoko Natural most ≡ Ok (node Vertical Yoko (measures (pos 3) (pos 4) (negsuc 2)) AsIs then_penalty)
unfolding set_glue are_dimens is_dimen
vpack-depth_below_0 = refl

abbrev then_kern : TreeItems
then_kern = item (a_rule (pos 3) (pos 4) (pos 5)) (item (a_kern (pos 1)) no_items)

vpack-kern_at_the_end : vpacked then_kern Yoko (To (sp (pos 12))) most ≡ Ok (node Vertical Yoko (measures (pos 3) (pos 12) (pos 0)) AsIs then_kern)
unfolding set_glue are_dimens is_dimen highest
vpack-kern_at_the_end = refl

-- the height of vpack, 16384pt, is no dimension; that of vtop is
abbrev far_down : TreeItems
far_down = item (a_kern (pos 1073741823)) (item (a_rule (pos 3) (pos 1) (negsuc 1)) no_items)

vpack-too_high : vpacked far_down Yoko Natural most ≡ Err DimenRange
unfolding are_dimens is_dimen
vpack-too_high = refl

vtop-not_too_high : vtopped far_down Yoko Natural most ≡ Ok (node Vertical Yoko (measures (pos 3) (pos 0) (pos 1073741822)) AsIs far_down)
unfolding set_glue are_dimens is_dimen
vtop-not_too_high = refl

-- ---- horizontal lists

abbrev a_box : BoxTree
a_box = node Horizontal Yoko (measures (pos 3) (pos 5) (pos 7)) AsIs no_items

-- a box that is moved down by 2, and one that is moved up by 4
abbrev moved_boxes : TreeItems
moved_boxes = item (box a_box (sp (pos 2))) (item (box a_box (sp (negsuc 3))) no_items)

hpack-moved_boxes : hpacked moved_boxes Yoko Natural ≡ Ok (node Horizontal Yoko (measures (pos 6) (pos 9) (pos 9)) AsIs moved_boxes)
unfolding set_glue are_dimens is_dimen
hpack-moved_boxes = refl

abbrev two_orders : TreeItems
two_orders = item (a_glue (pos 5) (pos 10) Normal (pos 2) Normal) (item (a_glue (pos 7) (pos 3) Fil (pos 1) Normal) no_items)

hpack-highest_order : hpacked two_orders Yoko (To (sp (pos 20))) ≡ Ok (node Horizontal Yoko (measures (pos 20) (pos 0) (pos 0)) (Stretch Fil (sp (pos 8)) (sp (pos 3))) two_orders)
unfolding set_glue are_dimens is_dimen highest
hpack-highest_order = refl

hpack-shrunk : hpacked two_orders Yoko (Spread (sp (negsuc 1))) ≡ Ok (node Horizontal Yoko (measures (pos 10) (pos 0) (pos 0)) (Shrink Normal (sp (pos 2)) (sp (pos 3))) two_orders)
unfolding set_glue are_dimens is_dimen highest
hpack-shrunk = refl

hpack-shrunk_whole : hpacked two_orders Yoko (To (sp (pos 8))) ≡ Ok (node Horizontal Yoko (measures (pos 8) (pos 0) (pos 0)) (Shrink Normal (sp (pos 3)) (sp (pos 3))) two_orders)
unfolding set_glue are_dimens is_dimen highest
hpack-shrunk_whole = refl

-- 1fill and -1fill come to 0, so the order below is set
abbrev no_fill : TreeItems
no_fill = item (a_glue (pos 5) (pos 1) Fill (negsuc 3) Normal) (item (a_glue (pos 7) (negsuc 0) Fill (pos 1) Normal) (item (a_glue (pos 0) (pos 4) Normal (pos 0) Normal) no_items))

hpack-orders_that_come_to_0 : hpacked no_fill Yoko (To (sp (pos 20))) ≡ Ok (node Horizontal Yoko (measures (pos 20) (pos 0) (pos 0)) (Stretch Normal (sp (pos 8)) (sp (pos 4))) no_fill)
unfolding set_glue are_dimens is_dimen highest
hpack-orders_that_come_to_0 = refl

-- a shrink of -3 is below any excess
hpack-shrink_below_0 : hpacked no_fill Yoko (To (sp (pos 11))) ≡ Ok (node Horizontal Yoko (measures (pos 11) (pos 0) (pos 0)) (Shrink Normal (sp (negsuc 2)) (sp (negsuc 2))) no_fill)
unfolding set_glue are_dimens is_dimen highest
hpack-shrink_below_0 = refl

-- two kerns of 16383pt
hpack-too_wide : hpacked (item (a_kern (pos 1073676288)) (item (a_kern (pos 1073676288)) no_items)) Yoko Natural ≡ Err DimenRange
unfolding are_dimens is_dimen
hpack-too_wide = refl

-- ---- boxes in lists

crossing-same_direction : crossing a_box Yoko (sp (pos 1)) ≡ Ok (Box a_box (sp (pos 1)))
crossing-same_direction = refl

crossing-in_tate : crossing a_box Tate (sp (pos 1)) ≡ Ok (Crossed a_box (sp (pos 1)) (measures (pos 12) (pos 2) (pos 1)))
unfolding are_dimens is_dimen
crossing-in_tate = refl

abbrev a_long_box : BoxTree
a_long_box = node Horizontal Dtou (measures (pos 3) (pos 1073741823) (pos 1)) AsIs no_items

crossing-too_wide : crossing a_long_box Yoko (sp (pos 0)) ≡ Err DimenRange
unfolding are_dimens is_dimen
crossing-too_wide = refl

crossing-not_too_wide : crossing a_long_box Tate (sp (pos 0)) ≡ Ok (Crossed a_long_box (sp (pos 0)) (measures (pos 3) (pos 1) (pos 1073741823)))
unfolding are_dimens is_dimen
crossing-not_too_wide = refl
