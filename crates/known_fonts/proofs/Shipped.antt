-- Boxes whose glyphs are those of fonts, as the files hold these.
use Rattle.std.proofs.Common.{◌≡◌, ◌∙◌, ℕ, zero, suc, ◌+◌, ◌<◌, ◌⊎◌, inl, inr, List, [], ◌∷◌, ◌++◌, length, get_or, Option, Some, None, All, refl, ap, sym, arith}
use Rattle.std.specs.Prelude.{slice_get}
use Rattle.std.specs.Option.{option_map}
use Rattle.std.proofs.lemmas.List.Elements.{All-nil, All-push}
use Rattle.ts_geometry.specs.declared.measure.Measures.{Measures}
use Rattle.ts_outside.specs.States.{Held}
use Rattle.jis_codes.specs.Spellings.{jis}
use Rattle.jis_codes.specs.Numbers.{number_of}
use Rattle.dvi_commands.specs.declared.font.FontDef.{FontDef}
use Rattle.box_tree.specs.declared.item.FontNo.{FontNo}
use Rattle.box_tree.specs.Trees.{Plain, glyph, kanji, rule, glue, kern, penalty, BoxTree, node, TreeItems, no_items, item, TreeItem, plain, box, crossed}
use Rattle.box_marks.specs.Glyphs.{OfGlyphs, PlainMeets, GlyphsMeet, ItemsMeet, ItemMeets, IsBelow, IsGiven, FontsAreBelow}
use Rattle.box_marks.specs.Marks.{font_at, nameless}
use Rattle.dvi_writer.specs.Reading.{Asked, HasWidths}
use Rattle.dvi_writer.specs.Tables.{numbered, width_in}
use Rattle.shipping.specs.Boxes.{BeginsWith}
use Rattle.font_store.specs.declared.fonts.Font.{Font}
use Rattle.font_store.specs.Store as store
use Rattle.font_store.specs.Widths.{metric_named, widths}
use Rattle.font_store.specs.Measures.{IsWhole, AreWhole, FontsAreWhole}
use Rattle.open_lists.specs.Glyphs as lists
use Rattle.open_lists.specs.Glyphs.{IsBoxOf, AreItemsOf, IsItemOf, IsPlainOf}
use Rattle.known_fonts.specs.Tables.{definition, definitions_from, definitions}
use Rattle.known_fonts.specs.Standing.{GrewBy, AreDefined, AreAsHeld, measures_held}
use Rattle.known_fonts.specs.Shipped.{IsGlyphHeld, IsPlainHeld, IsBoxHeld, AreItemsHeld, IsItemHeld, HasMeasuresHeld, file_widths}
use Rattle.known_fonts.proofs.Standing.{held_measures, measured_widths}
use Rattle.known_fonts.proofs.Defining.{one_each}

-- ---- lists

got : {A : Type 0} (xs : List A) (n : ℕ) (x d : A) → slice_get xs n ≡ Some x → get_or xs n d ≡ x
got [] n x d is = absurd cc
got (y ∷ xs) zero x d is = cc
got (y ∷ xs) (suc n) x d is = got xs n x d is

got_below : {A : Type 0} (xs : List A) (n : ℕ) (x : A) → slice_get xs n ≡ Some x → n < length xs
got_below [] n x is = absurd cc
got_below (y ∷ xs) zero x is = omega arith
got_below (y ∷ xs) (suc n) x is = let more = got_below xs n x is in omega arith

defined_at : (from : ℕ) (fonts : List Font) (n : ℕ) (font : Font) → slice_get fonts n ≡ Some font
    → slice_get (definitions_from from fonts) n ≡ Some (definition (from + n) font)
defined_at from [] n font is = absurd cc
defined_at from (f ∷ fonts) zero font is =
    let same : f ≡ font = cc in
    let place : from + 0 ≡ from = omega arith in
    rw (same, place) refl
defined_at from (f ∷ fonts) (suc n) font is =
    let place : from + 1 + n ≡ from + suc n = omega arith in
    defined_at (from + 1) fonts n font is ∙ ap (λ (k : ℕ). Some (definition k font)) place

-- ---- glyphs of fonts, as the files hold these

module _ (held : List Held) (fonts : List Font) (as_held : AreAsHeld held fonts) where
  glyph_held : (number : FontNo) (code : ℕ) (size : Measures) → lists.IsGlyphOf fonts number code size
      → IsGlyphHeld held (definitions_from 0 fonts) number code size
  glyph_held number code size h = record {
    font = definition (0 + number.0) h.font;
    there = defined_at 0 fonts number.0 h.font h.there;
    measures = held_measures held fonts number h.font code as_held h.there ∙ h.measures;
  }

  plain_held : (p : Plain) → IsPlainOf fonts p → IsPlainHeld held (definitions_from 0 fonts) p
  plain_held (glyph font code size shift first last) h = glyph_held font code size h
  plain_held (kanji font cell size kind) h = glyph_held font (number_of jis cell) size h
  plain_held (rule wd ht dp) h = tt
  plain_held (glue g from) h = tt
  plain_held (kern width from) h = tt
  plain_held (penalty value auto) h = tt

  mutual
    tree_held : (b : BoxTree) → IsBoxOf fonts b → IsBoxHeld held (definitions_from 0 fonts) b
    tree_held (node kind dir size set xs) h = items_held xs h

    items_held : (xs : TreeItems) → AreItemsOf fonts xs → AreItemsHeld held (definitions_from 0 fonts) xs
    items_held no_items h = tt
    items_held (item x xs) h = (item_held x h.0, items_held xs h.1)

    item_held : (x : TreeItem) → IsItemOf fonts x → IsItemHeld held (definitions_from 0 fonts) x
    item_held (plain p) h = plain_held p h
    item_held (box b shift) h = tree_held b h
    item_held (crossed b shift seen) h = tree_held b h

pub measures_as_held : (held : List Held) (fonts : List Font) (a : Asked) → AreAsHeld held fonts → AreDefined a.fonts fonts → IsBoxOf fonts a.node
    → HasMeasuresHeld held a
unfolding HasMeasuresHeld definitions
measures_as_held held fonts a as_held defined h = rw defined (tree_held held fonts as_held a.node h)

-- ---- what every glyph of such a box meets

module _ (held : List Held) (fonts : List FontDef) (P : OfGlyphs)
    (each : (number : FontNo) (code : ℕ) (size : Measures) → IsGlyphHeld held fonts number code size → P number code size.wd) where
  plain_meets : (p : Plain) → IsPlainHeld held fonts p → PlainMeets P p
  plain_meets (glyph font code size shift first last) h = each font code size h
  plain_meets (kanji font cell size kind) h = each font (number_of jis cell) size h
  plain_meets (rule wd ht dp) h = tt
  plain_meets (glue g from) h = tt
  plain_meets (kern width from) h = tt
  plain_meets (penalty value auto) h = tt

  mutual
    tree_meets : (b : BoxTree) → IsBoxHeld held fonts b → GlyphsMeet P b
    tree_meets (node kind dir size set xs) h = items_meet xs h

    items_meet : (xs : TreeItems) → AreItemsHeld held fonts xs → ItemsMeet P xs
    items_meet no_items h = tt
    items_meet (item x xs) h = (item_meets x h.0, items_meet xs h.1)

    item_meets : (x : TreeItem) → IsItemHeld held fonts x → ItemMeets P x
    item_meets (plain p) h = plain_meets p h
    item_meets (box b shift) h = tree_meets b h
    item_meets (crossed b shift seen) h = tree_meets b h

width_held : (held : List Held) (fonts : List FontDef) (number : FontNo) (code : ℕ) (size : Measures) → IsGlyphHeld held fonts number code size
    → width_in (file_widths held) fonts number code ≡ Some size.wd
width_held held fonts number code size h =
    rw (got fonts number.0 h.font nameless h.there)
    (measured_widths held h.font.name h.font.size code ∙ ap (λ (o : Option Measures). option_map (λ m. m.wd) o) h.measures)

pub widths_as_held : (held : List Held) (a : Asked) → HasMeasuresHeld held a → HasWidths (file_widths held) a
unfolding HasMeasuresHeld
widths_as_held held a h = tree_meets held a.fonts (IsGiven (width_in (file_widths held) a.fonts)) (width_held held a.fonts) a.node h

pub held_below : (held : List Held) (a : Asked) → HasMeasuresHeld held a → FontsAreBelow (length a.fonts) a.node
unfolding HasMeasuresHeld
held_below held a h =
    tree_meets held a.fonts (IsBelow (length a.fonts)) (λ number code size g. got_below a.fonts number.0 g.font g.there) a.node h

-- ---- fonts that are there

module _ (fonts : List Font) (count : ℕ) (is : count ≡ length fonts) where
  glyph_below : (number : FontNo) (code : ℕ) (size : Measures) → lists.IsGlyphOf fonts number code size → number.0 < count
  glyph_below number code size h = rw is (got_below fonts number.0 h.font h.there)

  plain_below : (p : Plain) → IsPlainOf fonts p → PlainMeets (IsBelow count) p
  plain_below (glyph font code size shift first last) h = glyph_below font code size h
  plain_below (kanji font cell size kind) h = glyph_below font (number_of jis cell) size h
  plain_below (rule wd ht dp) h = tt
  plain_below (glue g from) h = tt
  plain_below (kern width from) h = tt
  plain_below (penalty value auto) h = tt

  mutual
    tree_below : (b : BoxTree) → IsBoxOf fonts b → GlyphsMeet (IsBelow count) b
    tree_below (node kind dir size set xs) h = items_below xs h

    items_below : (xs : TreeItems) → AreItemsOf fonts xs → ItemsMeet (IsBelow count) xs
    items_below no_items h = tt
    items_below (item x xs) h = (item_below x h.0, items_below xs h.1)

    item_below : (x : TreeItem) → IsItemOf fonts x → ItemMeets (IsBelow count) x
    item_below (plain p) h = plain_below p h
    item_below (box b shift) h = tree_below b h
    item_below (crossed b shift seen) h = tree_below b h

pub fonts_there : (fonts : List Font) (table : List FontDef) (tree : BoxTree) → AreDefined table fonts → IsBoxOf fonts tree
    → FontsAreBelow (length table) tree
fonts_there fonts table tree defined h =
    let same : length table ≡ length fonts = rw defined (one_each fonts) in
    tree_below fonts (length table) same tree h

-- ---- fonts only come after those that are there

end_none : (fonts : List Font) → fonts ++ [] ≡ fonts
end_none [] = refl
end_none (f ∷ fonts) = ap (λ (xs : List Font). f ∷ xs) (end_none fonts)

pub fonts_begin_themselves : (fonts : List Font) → BeginsWith fonts fonts
fonts_begin_themselves fonts = ([], sym (end_none fonts))

pub fonts_grew : (old new : List Font) (font : Font) → GrewBy old font new → BeginsWith new old
fonts_grew old new font (inl same) = rw same (fonts_begin_themselves old)
fonts_grew old new font (inr more) = (font ∷ [], more)

pub held_whole : FontsAreWhole → (held : List Held) (fonts : List Font) → AreAsHeld held fonts → AreWhole fonts
unfolding AreAsHeld
held_whole given held fonts as_held = given held fonts as_held

pub none_whole : AreWhole []
unfolding AreWhole
none_whole = All-nil (λ (f : Font). IsWhole f.metric)

pub whole_grew : (old new : List Font) (font : Font) → GrewBy old font new → IsWhole font.metric → AreWhole old → AreWhole new
unfolding AreWhole
whole_grew old new font (inl same) is all = rw same all
whole_grew old new font (inr more) is all = rw more (All-push (λ (f : Font). IsWhole f.metric) old font all is)
