-- How the glue of a list is set that is longer or shorter than its natural length by an excess (TeX: The Program, sections
-- 657 to 667 and 672 to 676). A total is a number for each order.
use Rattle.std.specs.Prelude.{ℤ, pos, neg_ℤ, if◌then◌else◌, int_lt}
use Rattle.std.specs.Ordering.{int_eq}
use Rattle.ts_geometry.specs.declared.glue.Order.{Order}
use Rattle.ts_geometry.specs.declared.glue.Order.TheVariants.{Normal, Fil, Fill, Filll}
use Rattle.ts_geometry.specs.Directions.{sp}
use Rattle.box_tree.specs.declared.node.SetGlue.{SetGlue}
use Rattle.box_tree.specs.declared.node.SetGlue.TheVariants.{Plain as AsIs, Stretch, Shrink}

-- the highest order with a total other than 0, or the lowest where there is none
unfoldable pub highest : (Order → ℤ) → Order
highest total =
    if int_eq (total Filll) (pos 0) then (if int_eq (total Fill) (pos 0) then (if int_eq (total Fil) (pos 0) then Normal
    else Fil)
    else Fill)
    else Filll

-- without stretch nothing is stretched
abbrev pub stretch_by : ℤ → Order → ℤ → SetGlue
stretch_by excess order total = if int_eq total (pos 0) then AsIs else Stretch order (sp excess) (sp total)

-- a finite total below the excess shrinks whole
abbrev pub shrink_most : ℤ → Order → ℤ → SetGlue
shrink_most excess Normal total = if int_lt total excess then Shrink Normal (sp total) (sp total) else Shrink Normal (sp excess) (sp total)
shrink_most excess Fil total = Shrink Fil (sp excess) (sp total)
shrink_most excess Fill total = Shrink Fill (sp excess) (sp total)
shrink_most excess Filll total = Shrink Filll (sp excess) (sp total)

-- without shrink nothing shrinks
abbrev pub shrink_by : ℤ → Order → ℤ → SetGlue
shrink_by excess order total = if int_eq total (pos 0) then AsIs else shrink_most excess order total

-- an excess above 0 is stretched, and one below 0 shrunk, by the highest order
unfoldable pub set_glue : ℤ → (Order → ℤ) → (Order → ℤ) → SetGlue
set_glue excess stretch shrink =
    if int_lt (pos 0) excess then stretch_by excess (highest stretch) (stretch (highest stretch))
    else (if int_lt excess (pos 0) then shrink_by (neg_ℤ excess) (highest shrink) (shrink (highest shrink)) else AsIs)
