-- Boxes of characters, one character more.
use Rattle.std.proofs.Common.{◌≡◌, ℕ, ◌+◌, ◌<◌, List, [], ◌∷◌, ◌++◌, length, drop, take, map, fold, get_or, ℤ, pos, Some, Result, Ok, ◌+ℤ◌, ◌≤ℤ◌, refl, ap, sym, ◌∙◌, append_assoc, arith}
use Rattle.std.specs.Int.{int_max}
use Rattle.std.proofs.lemmas.Int.{ints, int_max_is}
use Rattle.std.proofs.lemmas.List.{take_more}
use Rattle.std.proofs.lemmas.List.Sums.{fold-append}
use Rattle.std.proofs.Math.Seq.{drop-cons}
use Rattle.jis_codes.specs.Kuten.{Kuten}
use Rattle.jis_codes.specs.Spellings.{jis}
use Rattle.jis_codes.specs.Numbers.{number_of}
use Rattle.jfm_load.specs.Metrics.{Metric}
use Rattle.ts_job.specs.declared.writer.page.Glyph.{Glyph}
use Rattle.ts_job.specs.Form.{Form}
use Rattle.ts_job.specs.Meaning.{width_of, glyphs_from, box_height, font_def, page_of}
use Rattle.dvi_code.specs.declared.page.DviPage.{DviPage}
use Rattle.dvi_commands.specs.declared.fault.DviBad.{DviBad}
use Rattle.ts_geometry.specs.Numbers.{IsWithin}
use Rattle.ts_job.specs.Setting.{most_of_one, HasCell, GivesWidths}
use Rattle.ts_job.specs.Meant.{HasWidths, page_meant}
use Rattle.dvi_commands.specs.declared.font.FontDef.{FontDef}
use Rattle.dvi_code.specs.Pages.{Widths}
use Rattle.std.specs.List.{All}

map-snoc : (f : Kuten → ℤ) (ks : List Kuten) (k : Kuten) → map f (ks ++ k ∷ []) ≡ map f ks ++ f k ∷ []
map-snoc f [] k = refl
map-snoc f (x ∷ ks) k = ap (λ (t : List ℤ). f x ∷ t) (map-snoc f ks k)

-- the greatest of one character more
pub greatest_more : (f : Kuten → ℤ) (cells : List Kuten) (i : ℕ) (cell : Kuten) (before size now : ℤ) → i < length cells → cell ≡ get_or cells i cell → before ≡ fold int_max (pos 0) (map f (take i cells)) → size ≡ f cell → now ≡ int_max before size
    → now ≡ fold int_max (pos 0) (map f (take (i + 1) cells))
greatest_more f cells i cell before size now lt is so_far one max =
    let longer : take (i + 1) cells ≡ take i cells ++ cell ∷ [] = take_more cells i cell lt ∙ ap (λ (k : Kuten). take i cells ++ k ∷ []) (sym is) in
    let whole : fold int_max (pos 0) (map f (take (i + 1) cells)) ≡ int_max (fold int_max (pos 0) (map f (take i cells))) (f cell) =
    ap (λ (ks : List Kuten). fold int_max (pos 0) (map f ks)) longer ∙ ap (λ (zs : List ℤ). fold int_max (pos 0) zs) (map-snoc f (take i cells) cell) ∙ fold-append int_max (pos 0) (map f (take i cells)) (f cell ∷ []) in
    max ∙ ap (λ (z : ℤ). int_max z size) so_far ∙ ap (λ (z : ℤ). int_max (fold int_max (pos 0) (map f (take i cells))) z) one ∙ sym whole

pub greatest_low : (before size now : ℤ) → now ≡ int_max before size → pos 0 ≤ℤ before → pos 0 ≤ℤ now
greatest_low before size now is low = omega (arith, ints, int_max_is before size)

pub greatest_high : (before size now : ℤ) → now ≡ int_max before size → before ≤ℤ pos 10485760 → IsWithin most_of_one size → now ≤ℤ pos 10485760
greatest_high before size now is high small = omega (arith, ints, int_max_is before size)

-- the glyphs of one character more
pub glyphs_more : (metric : Metric) (x y wide next : ℤ) (cells : List Kuten) (i : ℕ) (cell : Kuten) (all so_far new : List Glyph) (g : Glyph) → i < length cells → cell ≡ get_or cells i cell → all ≡ so_far ++ glyphs_from metric x y (drop i cells)
    → g ≡ record { code = number_of jis cell; at = record { x = record { 0 = x }; y = record { 0 = y } } } → wide ≡ width_of metric cell → next ≡ x +ℤ wide → new ≡ so_far ++ g ∷ []
    → all ≡ new ++ glyphs_from metric next y (drop (i + 1) cells)
glyphs_more metric x y wide next cells i cell all so_far new g lt is whole one width on joined =
    let here : drop i cells ≡ cell ∷ drop (i + 1) cells = drop-here cells i cell lt is in
    whole ∙ ap (λ (ks : List Kuten). so_far ++ glyphs_from metric x y ks) here
    ∙ ap (λ (h : Glyph). so_far ++ h ∷ glyphs_from metric (x +ℤ width_of metric cell) y (drop (i + 1) cells)) (sym one)
    ∙ ap (λ (z : ℤ). so_far ++ g ∷ glyphs_from metric z y (drop (i + 1) cells)) (sym (on ∙ ap (λ (w : ℤ). x +ℤ w) width))
    ∙ sym (append_assoc so_far (g ∷ []) (glyphs_from metric next y (drop (i + 1) cells)))
    ∙ ap (λ (t : List Glyph). t ++ glyphs_from metric next y (drop (i + 1) cells)) (sym joined)
  where
    drop-here : (cells : List Kuten) (i : ℕ) (cell : Kuten) → i < length cells → cell ≡ get_or cells i cell → drop i cells ≡ cell ∷ drop (i + 1) cells
    drop-here cells i cell lt is = grind (arith, drop-cons {A = Kuten})

-- Widths that give each cell its own give each glyph one.
pub widths_there : (widths : Widths) (font : FontDef) (metric : Metric) (glyphs : List Glyph) → GivesWidths widths font metric → All (HasCell metric) glyphs → HasWidths widths font glyphs
widths_there widths font metric glyphs gives have = λ k d lt.
    let h = have k d lt in
    let is : widths font (get_or glyphs k d).code ≡ Some (record { 0 = width_of metric h.cell }) = ap (widths font) h.code ∙ gives h.cell h.there in
    rw is (omega (arith, ints, h.small.0), omega (arith, ints, h.small.1))

pub page_set : (widths : Widths) (form : Form) (metric : Metric) (font : FontDef) (glyphs : List Glyph) (height : ℤ) (high set_of : List Kuten) (read : Result (List DviPage) DviBad) → font ≡ font_def form metric → high ≡ form.cells → set_of ≡ form.cells
    → height ≡ box_height metric high → glyphs ≡ glyphs_from metric (pos 0) height set_of → All (HasCell metric) glyphs → (HasWidths widths font glyphs → read ≡ Ok (page_meant font glyphs ∷ [])) → GivesWidths widths (font_def form metric) metric → read ≡ Ok (page_of form metric ∷ [])
page_set widths form metric font glyphs height high set_of read is_font is_high is_set tall set have reads gives =
    let there = widths_there widths font metric glyphs (rw is_font gives) have in
    let marks : glyphs ≡ glyphs_from metric (pos 0) (box_height metric form.cells) form.cells = set ∙ ap (λ (ks : List Kuten). glyphs_from metric (pos 0) height ks) is_set ∙ ap (λ (h : ℤ). glyphs_from metric (pos 0) h form.cells) (tall ∙ ap (box_height metric) is_high) in
    reads there ∙ ap (λ (f : FontDef). Ok (page_meant f glyphs ∷ [])) is_font ∙ ap (λ (gs : List Glyph). Ok (page_meant (font_def form metric) gs ∷ [])) marks
