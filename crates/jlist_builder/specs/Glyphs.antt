-- Whence the items of lists come: each is an other item of the entries, a glyph of one of their
-- characters, a space or a penalty.
use Rattle.std.specs.Prelude.{◌≡◌, ◌⊎◌, ℕ, List, All, Contains}
use Rattle.ts_geometry.specs.declared.measure.Measures.{Measures}
use Rattle.jis_codes.specs.Kuten.{Kuten}
use Rattle.box_tree.specs.declared.item.FontNo.{FontNo}
use Rattle.box_tree.specs.declared.item.Item.{Item}
use Rattle.box_tree.specs.declared.item.Item.TheVariants as items
use Rattle.tfm_load.specs.Metrics.{pair_of}
use Rattle.tfm_load.specs.declared.programs.Step.TheVariants as steps
use Rattle.jfm_load.specs.Metrics as jfm
use Rattle.jlist_builder.specs.Entries.{JapaneseCharacter, EuropeanCharacter, Entry, Japanese, European, Other}
use Rattle.jlist_builder.specs.Pieces.{size_of, class_in}
use Rattle.jlist_builder.specs.Gaps.{metric_list}

-- the code of a character, or of a ligature that it makes with what stands before it
abbrev pub IsCodeOf : EuropeanCharacter → ℕ → Type 0
IsCodeOf a code =
    (code ≡ a.code) ⊎ ((left : ℕ) × (pair_of a.metric left a.code ≡ steps.Ligature code))

-- A European character of the entries has this font, and gives this code; the measures are those
-- that its metric gives the code at its size.
pub record IsGlyphOf (e : List Entry) (font : FontNo) (code : ℕ) (size : Measures) : Type 0 where
  pub letter : EuropeanCharacter
  pub among : Contains e (European letter)
  pub font_is : font ≡ letter.font
  pub code_is : IsCodeOf letter code
  pub size_is : size ≡ size_of letter.metric code letter.z

-- A Japanese character of the entries has this font and this cell; the measures are those that its
-- metric gives the cell's class at its size.
pub record IsKanjiOf (e : List Entry) (font : FontNo) (cell : Kuten) (size : Measures) : Type 0 where
  pub character : JapaneseCharacter
  pub among : Contains e (Japanese character)
  pub font_is : font ≡ character.font
  pub cell_is : cell ≡ character.cell
  pub size_is : size ≡ jfm.measures_of character.metric (class_in character) character.z

-- an item that a list has beside the other items of its entries
abbrev pub IsOwnItem : List Entry → Item → Type 0
IsOwnItem e (items.Glyph font code size shift first last) = IsGlyphOf e font code size
IsOwnItem e (items.Kanji font cell size kind) = IsKanjiOf e font cell size
IsOwnItem e (items.Box tree shift) = ⊥
IsOwnItem e (items.Crossed tree shift seen) = ⊥
IsOwnItem e (items.Rule wd ht dp) = ⊥
IsOwnItem e (items.Glue glue from) = Unit {0}
IsOwnItem e (items.Kern width from) = Unit {0}
IsOwnItem e (items.Penalty value auto) = Unit {0}

abbrev pub ComesFrom : List Entry → Item → Type 0
ComesFrom e i = Contains e (Other i) ⊎ IsOwnItem e i

-- each item of the metric list comes from the entries
abbrev pub GlyphsComeFromEntries : Type 0
GlyphsComeFromEntries = (e : List Entry) → All (ComesFrom e) (metric_list e)
