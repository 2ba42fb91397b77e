-- A box as an item of a list.
use Rattle.std.specs.Prelude.{Bool, true, false, if◌then◌else◌, Result, Ok, Err}
use Rattle.ts_geometry.specs.declared.direction.Dir.{Dir}
use Rattle.ts_geometry.specs.declared.direction.Dir.TheVariants.{Yoko, Tate, Dtou}
use Rattle.ts_geometry.specs.declared.measure.Sp.{Sp}
use Rattle.ts_geometry.specs.Crossings.{seen}
use Rattle.box_tree.specs.declared.item.Item.{Item}
use Rattle.box_tree.specs.declared.item.Item.TheVariants.{Box, Crossed}
use Rattle.box_tree.specs.Trees.{BoxTree, size_of, dir_of}
use Rattle.packaging.specs.declared.fault.PackFault.{PackFault}
use Rattle.packaging.specs.declared.fault.PackFault.TheVariants.{DimenRange}
use Rattle.packaging.specs.Packing.{are_dimens}

abbrev pub same_dir : Dir → Dir → Bool
same_dir Yoko Yoko = true
same_dir Yoko Tate = false
same_dir Yoko Dtou = false
same_dir Tate Yoko = false
same_dir Tate Tate = true
same_dir Tate Dtou = false
same_dir Dtou Yoko = false
same_dir Dtou Tate = false
same_dir Dtou Dtou = true

-- with the measures that a list of another direction sees, which are dimensions
abbrev pub crossed_in : BoxTree → Dir → Sp → Result Item PackFault
crossed_in b dir shift =
    if are_dimens (seen (size_of b) (dir_of b) dir) then Ok (Crossed b shift (seen (size_of b) (dir_of b) dir)) else Err DimenRange

-- the item that is this box in a list of this direction, moved by the shift
abbrev pub crossing : BoxTree → Dir → Sp → Result Item PackFault
crossing b dir shift = if same_dir (dir_of b) dir then Ok (Box b shift) else crossed_in b dir shift
