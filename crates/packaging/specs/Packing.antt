-- The box of a list that is packed to a size, or the first fault (The TeXbook, chapters 12 and 21; TeX: The Program,
-- sections 649 to 679 and 1087).
use Rattle.std.specs.Prelude.{◌≡◌, ℤ, pos, neg_ℤ, ◌+ℤ◌, ◌-ℤ◌, ◌&&◌, Bool, if◌then◌else◌, int_le, Result, Err}
use Rattle.std.specs.Int.{int_min}
use Rattle.ts_base.specs.Agreement.{Cause, Determined, Free, with_fault}
use Rattle.ts_geometry.specs.declared.direction.Dir.{Dir}
use Rattle.ts_geometry.specs.declared.measure.Measures.{Measures}
use Rattle.ts_geometry.specs.declared.measure.Sp.{Sp}
use Rattle.ts_geometry.specs.Crossings.{measures}
use Rattle.ts_geometry.specs.Numbers.{max_dimen}
use Rattle.box_tree.specs.declared.node.BoxKind.{BoxKind}
use Rattle.box_tree.specs.declared.node.BoxKind.TheVariants.{Horizontal, Vertical}
use Rattle.box_tree.specs.declared.node.BoxSize.{BoxSize}
use Rattle.box_tree.specs.declared.node.BoxSize.TheVariants.{Natural, To, Spread}
use Rattle.box_tree.specs.declared.fault.BoxFault.{BoxFault}
use Rattle.box_tree.specs.declared.fault.BoxFault.TheVariants as box
use Rattle.box_tree.specs.Bounds.{IsDimen}
use Rattle.box_tree.specs.Making.{boxed}
use Rattle.box_tree.specs.Offsets.{extents}
use Rattle.box_tree.specs.Sound.{IsSound}
use Rattle.box_tree.specs.Trees.{BoxTree, node, TreeItems, dir_of}
use Rattle.packaging.specs.declared.fault.PackFault.{PackFault}
use Rattle.packaging.specs.declared.fault.PackFault.TheVariants.{DimenRange, BoxTooLarge, BoxTooDeep, NoMemory}
use Rattle.packaging.specs.Lists.{stretch_of, shrink_of, greatest_height, greatest_depth, greatest_width, end_depth, first_height}
use Rattle.packaging.specs.Setting.{set_glue}

-- ---- sizes

abbrev pub IsSoundSize : BoxSize → Type 0
IsSoundSize Natural = Unit {0}
IsSoundSize (To length) = IsDimen length
IsSoundSize (Spread more) = IsDimen more

-- the length to which a list of this natural length is packed
abbrev pub length_for : BoxSize → ℤ → ℤ
length_for Natural natural = natural
length_for (To length) natural = length.0
length_for (Spread more) natural = natural +ℤ more.0

-- how much longer that is
abbrev pub excess_for : BoxSize → ℤ → ℤ
excess_for size natural = length_for size natural -ℤ natural

-- ---- measures

unfoldable pub is_dimen : ℤ → Bool
is_dimen z = int_le (neg_ℤ (pos max_dimen)) z && int_le z (pos max_dimen)

unfoldable pub are_dimens : Measures → Bool
are_dimens m = is_dimen m.wd.0 && (is_dimen m.ht.0 && is_dimen m.dp.0)

abbrev pub horizontal_size : BoxSize → TreeItems → Measures
horizontal_size size items = measures (length_for size (extents Horizontal items)) (greatest_height items) (greatest_depth items)

-- the depth of a vertical list, with a maximum
abbrev pub vertical_depth : TreeItems → Sp → ℤ
vertical_depth items most = int_min (end_depth (pos 0) items) most.0

-- its natural height: all of its length but the depth, so what passes the maximum goes to the height
abbrev pub vertical_height : TreeItems → Sp → ℤ
vertical_height items most = extents Vertical items -ℤ vertical_depth items most

abbrev pub vertical_size : BoxSize → TreeItems → Sp → Measures
vertical_size size items most = measures (greatest_width items) (length_for size (vertical_height items most)) (vertical_depth items most)

-- the same height with depth, but with this height
abbrev pub with_height : Measures → ℤ → Measures
with_height m height = measures m.wd.0 height ((m.ht.0 +ℤ m.dp.0) -ℤ height)

-- ---- boxes

abbrev pub pack_fault : BoxFault → PackFault
pack_fault (box.BoxTooLarge weight) = BoxTooLarge weight
pack_fault (box.BoxTooDeep depth) = BoxTooDeep depth
pack_fault box.NoMemory = NoMemory

-- the box of these measures, whose glue is set by this excess: a measure that isn't a dimension comes before the limits of boxes
abbrev pub packed : BoxKind → Dir → Measures → ℤ → TreeItems → Result BoxTree PackFault
packed kind dir m excess items =
    if are_dimens m then with_fault pack_fault (boxed (node kind dir m (set_glue excess (stretch_of items) (shrink_of items)) items))
    else Err DimenRange

abbrev pub hpacked : TreeItems → Dir → BoxSize → Result BoxTree PackFault
hpacked items dir size = packed Horizontal dir (horizontal_size size items) (excess_for size (extents Horizontal items)) items

abbrev pub vpacked : TreeItems → Dir → BoxSize → Sp → Result BoxTree PackFault
vpacked items dir size most = packed Vertical dir (vertical_size size items most) (excess_for size (vertical_height items most)) items

-- the same with the height of the first item
abbrev pub vtopped : TreeItems → Dir → BoxSize → Sp → Result BoxTree PackFault
vtopped items dir size most =
    packed Vertical dir (with_height (vertical_size size items most) (first_height items)) (excess_for size (vertical_height items most)) items

-- want of memory is free; the other faults are determined
abbrev pub pack_cause : PackFault → Cause
pack_cause DimenRange = Determined
pack_cause (BoxTooLarge weight) = Determined
pack_cause (BoxTooDeep depth) = Determined
pack_cause NoMemory = Free

-- a sound box of this direction
pub record IsSoundIn (dir : Dir) (b : BoxTree) : Type 0 where
  pub sound : IsSound b
  pub direction : dir_of b ≡ dir
