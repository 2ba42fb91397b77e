-- A box of characters that is set: what its glyphs have.
use Rattle.std.specs.Prelude.{◌≡◌, ◌≤◌, length, ℕ, true, Some}
use Rattle.ts_geometry.specs.Numbers.{IsWithin}
use Rattle.std.specs.List.{list_all}
use Rattle.jis_codes.specs.Kuten.{Kuten, IsKuten}
use Rattle.jis_codes.specs.Spellings.{jis}
use Rattle.jis_codes.specs.Numbers.{number_of}
use Rattle.jfm_load.specs.Metrics.{Metric}
use Rattle.dvi_commands.specs.declared.font.FontDef.{FontDef}
use Rattle.dvi_code.specs.Pages.{Widths}
use Rattle.ts_job.specs.declared.writer.page.Glyph.{Glyph}
use Rattle.ts_job.specs.Form.{Form, is_name_byte}
use Rattle.ts_job.specs.Meaning.{width_of}

-- the lengths of a form, and the bytes of its name
pub record IsSound (form : Form) : Type 0 where
  pub name_least : 1 ≤ length form.name
  pub name_most : length form.name ≤ 8
  pub name_bytes : list_all is_name_byte form.name ≡ true
  pub cells_least : 1 ≤ length form.cells
  pub cells_most : length form.cells ≤ 50

-- the greatest measure of a character of ten points, 16 ems, and that of the fifty of a box
abbrev pub most_of_one : ℕ
most_of_one = 10485760

abbrev pub most_of_all : ℕ
most_of_all = 524288000

-- a glyph of a cell, whose width in the metric is small
pub record HasCell (metric : Metric) (glyph : Glyph) : Type 0 where
  pub cell : Kuten
  pub there : IsKuten cell
  pub code : glyph.code ≡ number_of jis cell
  pub small : IsWithin most_of_one (width_of metric cell)

-- widths that give each cell the width that the metric gives it
abbrev pub GivesWidths : Widths → FontDef → Metric → Type 0
GivesWidths widths font metric = (k : Kuten) → IsKuten k → widths font (number_of jis k) ≡ Some (record { 0 = width_of metric k })
