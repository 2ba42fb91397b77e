-- What all glyphs of a box meet.
use Rattle.std.specs.Prelude.{◌≡◌, ℕ, ◌<◌, Option, Some}
use Rattle.jis_codes.specs.Numbers.{number_of}
use Rattle.jis_codes.specs.Spellings.{jis}
use Rattle.ts_geometry.specs.declared.measure.Sp.{Sp}
use Rattle.box_tree.specs.declared.item.FontNo.{FontNo}
use Rattle.box_tree.specs.Trees.{Plain, glyph, kanji, rule, glue, kern, penalty, BoxTree, node, TreeItems, no_items, item, TreeItem, plain, box, crossed}
use Rattle.box_marks.specs.declared.placed.Piece.{Piece}
use Rattle.box_marks.specs.declared.placed.Piece.TheVariants.{Glyph, Rule}

-- said of a glyph by its font, its code and its width
abbrev pub OfGlyphs : Type 1
OfGlyphs = FontNo → ℕ → Sp → Type 0

abbrev pub PlainMeets : OfGlyphs → Plain → Type 0
PlainMeets P (glyph font code size shift first last) = P font code size.wd
PlainMeets P (kanji font cell size kind) = P font (number_of jis cell) size.wd
PlainMeets P (rule wd ht dp) = Unit {0}
PlainMeets P (glue g from) = Unit {0}
PlainMeets P (kern width from) = Unit {0}
PlainMeets P (penalty value auto) = Unit {0}

abbrev mutual
  -- each glyph in the box meets P
  pub GlyphsMeet : OfGlyphs → BoxTree → Type 0
  GlyphsMeet P (node kind dir size set items) = ItemsMeet P items

  pub ItemsMeet : OfGlyphs → TreeItems → Type 0
  ItemsMeet P no_items = Unit {0}
  ItemsMeet P (item x rest) = ItemMeets P x × ItemsMeet P rest

  pub ItemMeets : OfGlyphs → TreeItem → Type 0
  ItemMeets P (plain p) = PlainMeets P p
  ItemMeets P (box b shift) = GlyphsMeet P b
  ItemMeets P (crossed b shift seen) = GlyphsMeet P b

-- the same of what is marked
abbrev pub PieceMeets : OfGlyphs → Piece → Type 0
PieceMeets P (Glyph font code width) = P font code width
PieceMeets P (Rule height width) = Unit {0}

-- ---- fonts and widths

-- a font with a number below this
abbrev pub IsBelow : ℕ → OfGlyphs
IsBelow count font code width = font.0 < count

-- the width that is given for the font and the code
abbrev pub IsGiven : (FontNo → ℕ → Option Sp) → OfGlyphs
IsGiven widths font code width = widths font code ≡ Some width

-- each font of the box is among the first so many
abbrev pub FontsAreBelow : ℕ → BoxTree → Type 0
FontsAreBelow count b = GlyphsMeet (IsBelow count) b

-- each glyph of the box has the width that its font and its code are given
abbrev pub WidthsAreGiven : (FontNo → ℕ → Option Sp) → BoxTree → Type 0
WidthsAreGiven widths b = GlyphsMeet (IsGiven widths) b
