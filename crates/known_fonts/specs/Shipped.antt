-- The glyphs of boxes that are asked to be shipped, by the metrics of the files that are held.
use Rattle.std.specs.Prelude.{◌≡◌, ℕ, List, Option, Some, slice_get}
use Rattle.ts_geometry.specs.declared.measure.Measures.{Measures}
use Rattle.ts_outside.specs.States.{Held}
use Rattle.jis_codes.specs.Spellings.{jis}
use Rattle.jis_codes.specs.Numbers.{number_of}
use Rattle.dvi_commands.specs.declared.font.FontDef.{FontDef}
use Rattle.dvi_code.specs.Pages.{Widths}
use Rattle.box_tree.specs.declared.item.FontNo.{FontNo}
use Rattle.box_tree.specs.Trees.{Plain, glyph, kanji, rule, glue, kern, penalty, BoxTree, node, TreeItems, no_items, item, TreeItem, plain, box, crossed}
use Rattle.dvi_writer.specs.Reading.{Asked}
use Rattle.font_store.specs.Widths.{widths}
use Rattle.known_fonts.specs.Standing.{measures_held}

-- The table has a font of that number; the metric of its name, as the files hold it, gives the code these measures at its size.
pub record IsGlyphHeld (held : List Held) (fonts : List FontDef) (number : FontNo) (code : ℕ) (size : Measures) : Type 0 where
  pub font : FontDef
  pub there : slice_get fonts number.0 ≡ Some font
  pub measures : measures_held held font.name font.size code ≡ Some size

abbrev pub IsPlainHeld : List Held → List FontDef → Plain → Type 0
IsPlainHeld held fonts (glyph font code size shift first last) = IsGlyphHeld held fonts font code size
IsPlainHeld held fonts (kanji font cell size kind) = IsGlyphHeld held fonts font (number_of jis cell) size
IsPlainHeld held fonts (rule wd ht dp) = Unit {0}
IsPlainHeld held fonts (glue g from) = Unit {0}
IsPlainHeld held fonts (kern width from) = Unit {0}
IsPlainHeld held fonts (penalty value auto) = Unit {0}

abbrev mutual
  pub IsBoxHeld : List Held → List FontDef → BoxTree → Type 0
  IsBoxHeld held fonts (node kind dir size set items) = AreItemsHeld held fonts items

  pub AreItemsHeld : List Held → List FontDef → TreeItems → Type 0
  AreItemsHeld held fonts no_items = Unit {0}
  AreItemsHeld held fonts (item x rest) = IsItemHeld held fonts x × AreItemsHeld held fonts rest

  pub IsItemHeld : List Held → List FontDef → TreeItem → Type 0
  IsItemHeld held fonts (plain p) = IsPlainHeld held fonts p
  IsItemHeld held fonts (box b shift) = IsBoxHeld held fonts b
  IsItemHeld held fonts (crossed b shift seen) = IsBoxHeld held fonts b

-- Each glyph of the box has the measures that its font's metric, as the files hold it, gives at the font's size.
unfoldable pub HasMeasuresHeld : List Held → Asked → Type 0
HasMeasuresHeld held a = IsBoxHeld held a.fonts a.node

-- the widths with which a DVI file is read: those of the metrics of its fonts, as the files hold them
abbrev pub file_widths : List Held → Widths
file_widths held = λ font code. widths held font.name font.size code
