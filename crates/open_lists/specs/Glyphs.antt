-- The glyphs of boxes and of open lists, by the fonts that were added: each has the measures that the metric of its font gives its
-- code at the font's size.
use Rattle.std.specs.Prelude.{◌≡◌, ℕ, true, List, All, Option, Some}
use Rattle.ts_geometry.specs.declared.measure.Measures.{Measures}
use Rattle.jis_codes.specs.Kuten.{IsKuten}
use Rattle.jis_codes.specs.Spellings.{jis}
use Rattle.jis_codes.specs.Numbers.{number_of}
use Rattle.jis_codes.specs.declared.Char.{Char}
use Rattle.jis_codes.specs.declared.Char.TheVariants as chars
use Rattle.box_tree.specs.declared.item.FontNo.{FontNo}
use Rattle.box_tree.specs.Nodes.{tree_item}
use Rattle.box_tree.specs.Trees.{Plain, glyph, kanji, rule, glue, kern, penalty, BoxTree, node, TreeItems, no_items, item, TreeItem, plain, box, crossed}
use Rattle.tfm_load.specs.Metrics.{has_character}
use Rattle.font_store.specs.declared.metric.Metric.TheVariants as metrics
use Rattle.font_store.specs.declared.fonts.Font.{Font}
use Rattle.font_store.specs.Store.{font_at}
use Rattle.font_store.specs.Measures.{measures_by}
use Rattle.jlist_builder.specs.Entries.{JapaneseCharacter, EuropeanCharacter, Entry, Japanese, European, Other, Cut, Inhibit}
use Rattle.open_lists.specs.Lists.{Contents, Restricted, OpenLists}

-- ---- boxes

-- There is a font of that number, whose metric gives the code these measures at its size.
pub record IsGlyphOf (fonts : List Font) (number : FontNo) (code : ℕ) (size : Measures) : Type 0 where
  pub font : Font
  pub there : font_at fonts number ≡ Some font
  pub measures : measures_by font.metric font.size code ≡ Some size

abbrev pub IsPlainOf : List Font → Plain → Type 0
IsPlainOf fonts (glyph font code size shift first last) = IsGlyphOf fonts font code size
IsPlainOf fonts (kanji font cell size kind) = IsGlyphOf fonts font (number_of jis cell) size
IsPlainOf fonts (rule wd ht dp) = Unit {0}
IsPlainOf fonts (glue g from) = Unit {0}
IsPlainOf fonts (kern width from) = Unit {0}
IsPlainOf fonts (penalty value auto) = Unit {0}

abbrev mutual
  -- each glyph in the box is one of the fonts
  pub IsBoxOf : List Font → BoxTree → Type 0
  IsBoxOf fonts (node kind dir size set items) = AreItemsOf fonts items

  pub AreItemsOf : List Font → TreeItems → Type 0
  AreItemsOf fonts no_items = Unit {0}
  AreItemsOf fonts (item x rest) = IsItemOf fonts x × AreItemsOf fonts rest

  pub IsItemOf : List Font → TreeItem → Type 0
  IsItemOf fonts (plain p) = IsPlainOf fonts p
  IsItemOf fonts (box b shift) = IsBoxOf fonts b
  IsItemOf fonts (crossed b shift seen) = IsBoxOf fonts b

-- ---- entries

-- The font of that number has this metric and this size.
pub record IsJapaneseOf (fonts : List Font) (k : JapaneseCharacter) : Type 0 where
  pub font : Font
  pub there : font_at fonts k.font ≡ Some font
  pub metric : font.metric ≡ metrics.Japanese k.metric
  pub size : font.size ≡ k.z
  pub cell : IsKuten k.cell

-- The same, and the font has the character.
pub record IsEuropeanOf (fonts : List Font) (a : EuropeanCharacter) : Type 0 where
  pub font : Font
  pub there : font_at fonts a.font ≡ Some font
  pub metric : font.metric ≡ metrics.Roman a.metric
  pub size : font.size ≡ a.z
  pub code : has_character a.metric a.code ≡ true

abbrev pub IsEntryOf : List Font → Entry → Type 0
IsEntryOf fonts (Japanese k) = IsJapaneseOf fonts k
IsEntryOf fonts (European a) = IsEuropeanOf fonts a
IsEntryOf fonts (Other i) = IsItemOf fonts (tree_item i)
IsEntryOf fonts Cut = Unit {0}
IsEntryOf fonts Inhibit = Unit {0}

-- ---- open lists

abbrev pub AreContentsOf : List Font → Contents → Type 0
AreContentsOf fonts (Restricted plan entries) = All (IsEntryOf fonts) entries

-- Each entry of each list is one of the fonts.
unfoldable pub AreOf : List Font → OpenLists → Type 0
AreOf fonts lists = All (λ l. AreContentsOf fonts l.contents) lists.inner

-- a character whose cell, where it is Japanese, there is
abbrev pub IsCharacter : Char → Type 0
IsCharacter (chars.Ja cell) = IsKuten cell
IsCharacter (chars.One code) = Unit {0}
