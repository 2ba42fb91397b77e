-- The fonts of a file: those of a table, each with its place as its number.
use Rattle.std.specs.Prelude.{ℕ, ◌+◌, List, [], ◌∷◌, Option, pos, take}
use Rattle.ts_geometry.specs.declared.measure.Sp.{Sp}
use Rattle.dvi_commands.specs.declared.font.FontDef.{FontDef}
use Rattle.dvi_code.specs.Pages.{Widths}
use Rattle.box_tree.specs.declared.item.FontNo.{FontNo}
use Rattle.box_marks.specs.Marks.{font_at}

abbrev pub numbered : ℕ → FontDef → FontDef
numbered n f = record {
  number = pos n;
  check_sum = f.check_sum;
  size = f.size;
  design = f.design;
  name = f.name;
}

-- from a number on
abbrev pub numbered_from : ℕ → List FontDef → List FontDef
numbered_from n [] = []
numbered_from n (f ∷ fs) = numbered n f ∷ numbered_from (n + 1) fs

-- those of which the number has one byte
unfoldable pub known : List FontDef → List FontDef
known table = take 256 table

-- the fonts that a file defines for a table
abbrev pub fonts_of : List FontDef → List FontDef
fonts_of table = numbered_from 0 (known table)

-- the width that the font of a number has in a file
abbrev pub width_in : Widths → List FontDef → FontNo → ℕ → Option Sp
width_in widths table font code = widths (numbered font.0 (font_at table font)) code
