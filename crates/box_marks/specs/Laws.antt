-- Laws of what boxes mark.
use Rattle.std.specs.Prelude.{◌≡◌, ◌≤◌, ℕ, Option, pos, length, All}
use Rattle.ts_geometry.specs.declared.measure.Point.{Point}
use Rattle.ts_geometry.specs.declared.measure.Sp.{Sp}
use Rattle.ts_geometry.specs.Directions.{rect}
use Rattle.box_tree.specs.declared.item.FontNo.{FontNo}
use Rattle.box_tree.specs.Trees.{BoxTree, size_of, dir_of}
use Rattle.box_tree.specs.Weights.{weight}
use Rattle.box_marks.specs.Glyphs.{IsBelow, IsGiven, FontsAreBelow, WidthsAreGiven, PieceMeets}
use Rattle.box_marks.specs.Marks.{page_point}
use Rattle.box_marks.specs.Placing.{box_placed}

-- a box marks no more than it weighs
abbrev pub FewArePlaced : Type 0
FewArePlaced = (b : BoxTree) (at : Point) → length (box_placed b at) ≤ weight b

-- where each font of a box is among the first so many, so is each that is marked
abbrev pub PlacedFontsAreBelow : Type 0
PlacedFontsAreBelow = (count : ℕ) (b : BoxTree) (at : Point) → FontsAreBelow count b
    → All (λ p. PieceMeets (IsBelow count) p.piece) (box_placed b at)

-- where each glyph of a box has the width that is given, so has each that is marked
abbrev pub PlacedWidthsAreGiven : Type 0
PlacedWidthsAreGiven =
    (widths : FontNo → ℕ → Option Sp) (b : BoxTree) (at : Point) → WidthsAreGiven widths b
    → All (λ p. PieceMeets (IsGiven widths) p.piece) (box_placed b at)

-- from the page's point the left edge and the top edge of a box are those of the page
abbrev pub PagesBeginInTheCorner : Type 0
PagesBeginInTheCorner = (b : BoxTree) →
    ((rect (size_of b) (page_point b) (dir_of b)).left.0 ≡ pos 0)
    × ((rect (size_of b) (page_point b) (dir_of b)).top.0 ≡ pos 0)
