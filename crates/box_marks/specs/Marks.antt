-- The marks of a box, as a DVI file has them: a glyph names its font as the source spelt it.
use Rattle.std.specs.Prelude.{ℕ, pos, ◌-ℤ◌, List, [], map, get_or}
use Rattle.ts_geometry.specs.declared.measure.Point.{Point}
use Rattle.ts_geometry.specs.declared.measure.Rect.{Rect}
use Rattle.ts_geometry.specs.Directions.{point, rect}
use Rattle.dvi_commands.specs.declared.font.FontDef.{FontDef}
use Rattle.dvi_code.specs.declared.mark.Mark.{Mark}
use Rattle.dvi_code.specs.declared.mark.What.{What}
use Rattle.dvi_code.specs.declared.mark.What.TheVariants as what
use Rattle.box_tree.specs.declared.item.FontNo.{FontNo}
use Rattle.box_tree.specs.Trees.{BoxTree, size_of, dir_of}
use Rattle.box_marks.specs.declared.placed.Piece.{Piece}
use Rattle.box_marks.specs.declared.placed.Piece.TheVariants.{Glyph, Rule}
use Rattle.box_marks.specs.declared.placed.Placed.{Placed}
use Rattle.box_marks.specs.Placing.{box_placed}

-- what stands for a font where a table has none
abbrev pub nameless : FontDef
nameless = record { number = pos 0; check_sum = 0; size = 0; design = 0; name = [] }

-- the font of a number in a table
abbrev pub font_at : List FontDef → FontNo → FontDef
font_at fonts font = get_or fonts font.0 nameless

abbrev pub glyph_of : FontDef → ℕ → What
glyph_of f code = what.Glyph f.name f.size code

abbrev pub what_of : List FontDef → Piece → What
what_of fonts (Glyph font code width) = glyph_of (font_at fonts font) code
what_of fonts (Rule height width) = what.Rule height width

abbrev pub mark_of : List FontDef → Placed → Mark
mark_of fonts p = record { what = what_of fonts p.piece; at = p.at; dir = p.dir }

-- the marks of a box that is set from a point, with a table of fonts
abbrev pub marks : List FontDef → BoxTree → Point → List Mark
marks fonts b at = map (mark_of fonts) (box_placed b at)

-- ---- shipped boxes

abbrev pub corner : Point
corner = point (pos 0) (pos 0)

-- from this point what a box covers has its top left corner in the corner of the page
abbrev pub point_for : Rect → Point
point_for covered = point (pos 0 -ℤ covered.left.0) (pos 0 -ℤ covered.top.0)

abbrev pub page_point : BoxTree → Point
page_point b = point_for (rect (size_of b) corner (dir_of b))

-- what a shipped box marks, and its marks
abbrev pub page_placed : BoxTree → List Placed
page_placed b = box_placed b (page_point b)

abbrev pub page_marks : List FontDef → BoxTree → List Mark
page_marks fonts b = marks fonts b (page_point b)
