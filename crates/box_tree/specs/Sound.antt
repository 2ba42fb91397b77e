-- Sound boxes: their dimensions are TeX's, and their directions agree.
use Rattle.std.specs.Prelude.{◌≡◌, ◌≢◌, ◌^◌, pos}
use Rattle.ts_geometry.specs.declared.direction.Dir.{Dir}
use Rattle.ts_geometry.specs.declared.glue.Glue.{Glue}
use Rattle.ts_geometry.specs.declared.measure.Measures.{Measures}
use Rattle.ts_geometry.specs.declared.measure.Sp.{Sp}
use Rattle.ts_geometry.specs.Crossings.{seen as seen_from}
use Rattle.box_tree.specs.declared.node.SetGlue.{SetGlue}
use Rattle.box_tree.specs.declared.node.SetGlue.TheVariants.{Plain as AsIs, Stretch, Shrink}
use Rattle.box_tree.specs.Bounds.{IsDimen, HasDimens, IsDimenIfThere}
use Rattle.ts_geometry.specs.Numbers.{IsWithin}
use Rattle.box_tree.specs.Trees.{Plain, glyph, kanji, rule, glue, kern, penalty, BoxTree, node, TreeItems, no_items, item, TreeItem, plain, box, crossed, dir_of, size_of}

-- the width of glue may be the sum of a few dimensions
pub record IsSoundGlue (g : Glue) : Type 0 where
  pub width : IsWithin (2 ^ 32) g.width.0
  pub stretch : IsDimen g.stretch
  pub shrink : IsDimen g.shrink

abbrev pub IsSoundPlain : Plain → Type 0
IsSoundPlain (glyph font code size shift first last) = HasDimens size × IsDimen shift
IsSoundPlain (kanji font cell size kind) = HasDimens size
IsSoundPlain (rule wd ht dp) = IsDimenIfThere wd × (IsDimenIfThere ht × IsDimenIfThere dp)
IsSoundPlain (glue g from) = IsSoundGlue g
IsSoundPlain (kern width from) = IsDimen width
IsSoundPlain (penalty value auto) = Unit {0}

-- an excess, and the total that takes it
pub record IsSoundShare (excess total : Sp) : Type 0 where
  pub not_0 : total.0 ≢ pos 0
  pub excess_near : IsWithin (2 ^ 60) excess.0
  pub total_near : IsWithin (2 ^ 60) total.0

abbrev pub IsSoundSet : SetGlue → Type 0
IsSoundSet AsIs = Unit {0}
IsSoundSet (Stretch order excess total) = IsSoundShare excess total
IsSoundSet (Shrink order excess total) = IsSoundShare excess total

-- a box of another direction than the list's, with the measures that the list sees of it
pub record IsCrossing (b : BoxTree) (seen : Measures) (dir : Dir) : Type 0 where
  pub directions : dir_of b ≢ dir
  pub measures : seen ≡ seen_from (size_of b) (dir_of b) dir

abbrev mutual
  pub IsSound : BoxTree → Type 0
  IsSound (node kind dir size set items) = HasDimens size × (IsSoundSet set × AreSound dir items)

  -- items of a list of this direction
  pub AreSound : Dir → TreeItems → Type 0
  AreSound dir no_items = Unit {0}
  AreSound dir (item x rest) = IsSoundItem dir x × AreSound dir rest

  pub IsSoundItem : Dir → TreeItem → Type 0
  IsSoundItem dir (plain p) = IsSoundPlain p
  IsSoundItem dir (box b shift) = IsSound b × (IsDimen shift × (dir_of b ≡ dir))
  IsSoundItem dir (crossed b shift seen) = IsSound b × (IsDimen shift × (HasDimens seen × IsCrossing b seen dir))
