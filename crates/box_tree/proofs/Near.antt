-- How far from 0 the numbers of a sound item are.
use Rattle.std.proofs.Common.{ℕ, ◌^◌, ◌≤◌, ℤ, pos, ◌*ℤ◌, Option, Some, None, Bool, true, false, if◌then◌else◌, arith}
use Rattle.std.proofs.lemmas.Int.{ints, clamps}
use Rattle.ts_geometry.specs.declared.direction.Dir.{Dir}
use Rattle.ts_geometry.specs.declared.glue.Glue.{Glue}
use Rattle.ts_geometry.specs.declared.measure.Measures.{Measures}
use Rattle.ts_geometry.specs.declared.measure.Sp.{Sp}
use Rattle.ts_geometry.specs.Directions.{sp}
use Rattle.ts_geometry.specs.Numbers.{bounded, rounded}
use Rattle.box_tree.specs.declared.node.BoxKind.{BoxKind}
use Rattle.box_tree.specs.declared.node.BoxKind.TheVariants.{Horizontal, Vertical}
use Rattle.box_tree.specs.declared.node.SetGlue.{SetGlue}
use Rattle.box_tree.specs.declared.node.SetGlue.TheVariants.{Plain as AsIs, Stretch, Shrink}
use Rattle.box_tree.specs.Bounds.{IsDimen, HasDimens, IsDimenIfThere}
use Rattle.ts_geometry.specs.Numbers.{IsWithin}
use Rattle.box_tree.specs.Laws.{ItemsLeadNear, ItemPartsAreNear, OffsetsAreNear}
use Rattle.box_tree.specs.Trees.{BoxTree, node, TreeItem, glyph, kanji, rule, glue, kern, penalty, plain, box, crossed, size_of}
use Rattle.box_tree.specs.Sound.{IsSoundGlue, IsSoundItem, IsSound}
use Rattle.box_tree.specs.Offsets.{extent, or_else, measures_or, nothing, same_order, glue_part, share_of}
use Rattle.box_tree.specs.Places.{item_shift, item_height}

pub farther : (k n : ℕ) (z : ℤ) → k ≤ n → IsWithin k z → IsWithin n z
farther k n z l h = (omega (arith, ints), omega (arith, ints))

bounded_near : (z : ℤ) → IsWithin (10 ^ 9) (bounded z)
bounded_near z = (omega (arith, ints, clamps), omega (arith, ints, clamps))

pub share_of_near : (part : ℤ) (excess total : Sp) → IsWithin (10 ^ 9) (share_of part excess total)
unfolding share_of
share_of_near part excess total = bounded_near (rounded (part *ℤ excess.0) total.0)

-- an offset is the natural sum and a share
pub offset_near : OffsetsAreNear
offset_near k AsIs natural part n = (omega (arith, ints), omega (arith, ints))
offset_near k (Stretch order excess total) natural part n = let h = share_of_near part excess total in (omega (arith, ints), omega (arith, ints))
offset_near k (Shrink order excess total) natural part n = let h = share_of_near part excess total in (omega (arith, ints), omega (arith, ints))

pub size_sound : (b : BoxTree) → IsSound b → HasDimens (size_of b)
size_sound (node kind dir size set items) s = s.0

zero : IsDimen (sp (pos 0))
zero = (omega (arith, ints), omega (arith, ints))

pub shift_sound : (dir : Dir) (x : TreeItem) → IsSoundItem dir x → IsDimen (item_shift x)
shift_sound dir (plain (glyph font code size shift first last)) s = s.1
shift_sound dir (plain (kanji font cell size kind)) s = zero
shift_sound dir (plain (rule wd ht dp)) s = zero
shift_sound dir (plain (glue g from)) s = zero
shift_sound dir (plain (kern width from)) s = zero
shift_sound dir (plain (penalty value auto)) s = zero
shift_sound dir (box b shift) s = s.1.0
shift_sound dir (crossed b shift seen) s = s.1.0

or_nothing : (s : Option Sp) → IsDimenIfThere s → IsDimen (or_else s (sp (pos 0)))
or_nothing None d = zero
or_nothing (Some s) d = d

pub height_sound : (dir : Dir) (x : TreeItem) → IsSoundItem dir x → IsDimen (item_height x)
height_sound dir (plain (glyph font code size shift first last)) s = s.0.ht
height_sound dir (plain (kanji font cell size kind)) s = s.ht
height_sound dir (plain (rule wd ht dp)) s = or_nothing ht s.1.0
height_sound dir (plain (glue g from)) s = zero
height_sound dir (plain (kern width from)) s = zero
height_sound dir (plain (penalty value auto)) s = zero
height_sound dir (box b shift) s = (size_sound b s.0).ht
height_sound dir (crossed b shift seen) s = s.1.1.0.ht

extent_near : (kind : BoxKind) (m : Measures) → HasDimens m → IsWithin (2 ^ 32) (extent kind m)
extent_near Horizontal m d = (omega (arith, ints, d.wd), omega (arith, ints, d.wd))
extent_near Vertical m d = (omega (arith, ints, d.ht, d.dp), omega (arith, ints, d.ht, d.dp))

at_0 : IsWithin (2 ^ 32) (pos 0)
at_0 = (omega (arith, ints), omega (arith, ints))

dimen_near : (s : Sp) → IsDimen s → IsWithin (2 ^ 32) s.0
dimen_near s d = farther _ _ s.0 (omega arith) d

pub item_extent_near : ItemsLeadNear
item_extent_near kind dir (plain (glyph font code size shift first last)) s = extent_near kind size s.0
item_extent_near kind dir (plain (kanji font cell size k)) s = extent_near kind size s
item_extent_near kind dir (plain (rule wd ht dp)) s =
    extent_near kind (measures_or wd ht dp nothing) (record { wd = or_nothing wd s.0; ht = or_nothing ht s.1.0; dp = or_nothing dp s.1.1 })
item_extent_near kind dir (plain (glue g from)) s = s.width
item_extent_near kind dir (plain (kern width from)) s = dimen_near width s
item_extent_near kind dir (plain (penalty value auto)) s = at_0
item_extent_near kind dir (box b shift) s = extent_near kind (size_of b) (size_sound b s.0)
item_extent_near kind dir (crossed b shift seen) s = extent_near kind seen s.1.1.0

chosen_near : (c : Bool) (s : Sp) → IsDimen s → IsWithin (2 ^ 32) (if c then s.0 else pos 0)
chosen_near true s d = dimen_near s d
chosen_near false s d = at_0

glue_part_near : (set : SetGlue) (g : Glue) → IsSoundGlue g → IsWithin (2 ^ 32) (glue_part set g)
glue_part_near AsIs g s = at_0
glue_part_near (Stretch order excess total) g s = chosen_near (same_order g.stretch_order order) g.stretch s.stretch
glue_part_near (Shrink order excess total) g s = chosen_near (same_order g.shrink_order order) g.shrink s.shrink

pub item_part_near : ItemPartsAreNear
item_part_near set dir (plain (glyph font code size shift first last)) s = at_0
item_part_near set dir (plain (kanji font cell size k)) s = at_0
item_part_near set dir (plain (rule wd ht dp)) s = at_0
item_part_near set dir (plain (glue g from)) s = glue_part_near set g s
item_part_near set dir (plain (kern width from)) s = at_0
item_part_near set dir (plain (penalty value auto)) s = at_0
item_part_near set dir (box b shift) s = at_0
item_part_near set dir (crossed b shift seen) s = at_0
