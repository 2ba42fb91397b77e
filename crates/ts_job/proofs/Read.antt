-- The bytes of the file are read as its page.
use Rattle.std.proofs.Common.{◌≡◌, ℕ, zero, suc, ◌+◌, ◌*◌, ◌%◌, ◌^◌, ◌<◌, ◌≤◌, List, [], ◌∷◌, ◌++◌, length, replicate, refl, sym, ap, ◌∙◌, append_assoc, arith, ℤ, pos, negsuc, true, Some, None, Result, Ok, subst, length-append, zero-add}
use Rattle.std.specs.Prelude.{nat_eq, nat_le}
use Rattle.std.specs.Ordering.{int_eq}
use lib.Pointwise.{pointwise}
use Rattle.std.specs.Int.{w32}
use Rattle.std.specs.Int.RustNames.{FitsSigned}
use Rattle.std.specs.List.{flat_map, All, AllByRecursion}
use Rattle.std.proofs.lemmas.Cmp.{int_eq_equiv}
use Rattle.std.proofs.lemmas.Bool.Decides.{nat_tests}
use Rattle.std.proofs.lemmas.List.Elements.{recursion_from_All}
use Rattle.ts_geometry.specs.declared.direction.Dir.TheVariants.{Yoko}
use Rattle.ts_base.specs.Agreement.{◌>>=◌}
use Rattle.dvi_commands.specs.declared.fault.DviBad.{DviBad}
use Rattle.dvi_commands.specs.declared.font.FontDef.{FontDef}
use Rattle.dvi_commands.specs.Fields.{unsigned, signed, counts}
use Rattle.dvi_commands.specs.Commands as c
use Rattle.dvi_commands.specs.Commands.{Command, Preamble, Postamble, command, command_after, group_after, font_after, file_after, pre_after}
use Rattle.dvi_structure.specs.Places.{said, fill, placed}
use Rattle.dvi_structure.specs.Structure.{is_sound_font, is_same_font, Sheet, Shape, Walked, inside, fresh, start, between, after_post, ended, at_start, at_gap, in_page, at_back, filled, walk, walked, answer}
use Rattle.dvi_code.specs.Pages.{Widths, Pen, clean, spot, drawn, page_of, page_from, pages_of, file_pages}
use Rattle.dvi_commands.specs.Spelling.{Spells, plain_definition}
use Rattle.dvi_code.specs.Reading.{Leads, all_inside, paged}
use Rattle.ts_job.specs.declared.writer.page.Glyph.{Glyph}
use Rattle.ts_job.specs.Written.{HasNumbers, unit_bytes, preamble_bytes, bop_bytes, definition_bytes, glyph_bytes, page_bytes, post_bytes, post_post_bytes, fill_count, closing_bytes, end_bytes, file_bytes}
use Rattle.std.specs.Option.{IsSomeAnd}
use Rattle.ts_geometry.specs.Numbers.{IsWithin, max_dimen}
use Rattle.ts_job.specs.Meant.{FitsGlyph, HasWidths, page_meant}
use Rattle.ts_job.proofs.Body.{DviLaws, glyph_said, glyphs_spelt, length-glyphs, glyphs_inside, glyphs_drawn}

-- ---- what the pieces say

abbrev preamble_said : Preamble
preamble_said = record { id = 2; num = 25400000; den = 473628672; mag = 1000; comment = [] }

says_preamble : command preamble_bytes ≡ Ok (c.pre preamble_said, [])
unfolding preamble_bytes unit_bytes command command_after file_after pre_after unsigned
says_preamble = refl

says_bop : command bop_bytes ≡ Ok (c.bop (replicate 10 (pos 0)) (negsuc 0), [])
unfolding bop_bytes command command_after group_after counts signed unsigned
says_bop = refl

says_definition : (l : DviLaws) → (f : FontDef) → f.number ≡ pos 0 → HasNumbers f → command (definition_bytes f) ≡ Ok (c.font_def (plain_definition f), [])
unfolding definition_bytes
says_definition l f number has = l.font_def f 0 number (omega arith) has.check_sum has.size has.design

says_font : command (171 ∷ []) ≡ Ok (c.font (pos 0), [])
unfolding command command_after font_after
says_font = refl

abbrev post_said : ℕ → ℕ → Postamble
post_said high wide = record { back = pos 15; num = 25400000; den = 473628672; mag = 1000; height = high; width = wide; stack = 1; pages = 1 }

says_closing : (l : DviLaws) → (high wide : ℕ) → high < 2 ^ 32 → wide < 2 ^ 32 → command (post_bytes high wide) ≡ Ok (c.post (post_said high wide), [])
unfolding post_bytes unit_bytes
says_closing l high wide h w =
    let fits : FitsSigned w32 (pos 15) = omega arith in
    l.post (post_said high wide) fits (omega arith) (omega arith) (omega arith) h w (omega arith) (omega arith)

says_last : (l : DviLaws) → (post : ℕ) → post < 2 ^ 31 → command (post_post_bytes (pos post)) ≡ Ok (c.post_post (pos post) 2, [])
unfolding post_post_bytes
says_last l post lt = let fits : FitsSigned w32 (pos post) = omega (arith, lt) in l.post_post (pos post) 2 fits

-- ---- the structure

abbrev gap : ℤ → List FontDef → List Sheet → Shape
gap last fonts sheets = record { last = last; fonts = fonts; sheets = sheets; phase = between }

abbrev body : List Glyph → List Command
body gs = c.font (pos 0) ∷ flat_map glyph_said gs

abbrev sheet : FontDef → List Glyph → List ℕ → Sheet
sheet f gs places = record { counts = replicate 10 (pos 0); body = body gs; places = places; fonts = f ∷ [] }

same_int : (z : ℤ) → int_eq z z ≡ true
same_int z = int_eq_equiv.refl z

same_nat : (n : ℕ) → nat_eq n n ≡ true
same_nat n = grind arith

same_text : (xs : List ℕ) → pointwise nat_eq xs xs ≡ true
same_text [] = refl
same_text (x ∷ xs) = rw (same_nat x) (same_text xs)

same_font : (f : FontDef) → is_same_font f f ≡ true
same_font f = rw (same_nat f.check_sum, same_nat f.size, same_nat f.design, same_text f.name) refl

began : (at : ℕ) → at_start start (c.pre preamble_said) ≡ Ok (gap (negsuc 0) [] [])
unfolding at_start
began at = refl

opened : (at : ℕ) → at_gap (gap (negsuc 0) [] []) at (c.bop (replicate 10 (pos 0)) (negsuc 0)) ≡ Ok (paged (gap (pos at) [] []) (replicate 10 (pos 0)) [] [] fresh)
unfolding at_gap
opened at = refl

font_defined : (f : FontDef) (last at : ℕ) → is_sound_font f ≡ true → in_page (paged (gap (pos last) [] []) (replicate 10 (pos 0)) [] [] fresh) (replicate 10 (pos 0)) [] [] fresh at (c.font_def (plain_definition f)) ≡ Ok (paged (gap (pos last) (f ∷ []) []) (replicate 10 (pos 0)) [] [] fresh)
unfolding in_page
font_defined f last at sound = rw sound refl

body_inside : (l : DviLaws) → (f : FontDef) (gs : List Glyph) → f.number ≡ pos 0 → all_inside (f ∷ []) fresh (body gs) ≡ Ok (record { depth = 0; chosen = true })
unfolding inside
body_inside l f gs number = rw number (glyphs_inside l (f ∷ []) gs)

page_ends : (f : FontDef) (gs : List Glyph) (last at : ℕ) (places : List ℕ)
    → in_page (paged (gap (pos last) (f ∷ []) []) (replicate 10 (pos 0)) (body gs) places (record { depth = 0; chosen = true })) (replicate 10 (pos 0)) (body gs) places (record { depth = 0; chosen = true }) at c.eop ≡ Ok (gap (pos last) (f ∷ []) (sheet f gs places ∷ []))
unfolding in_page
page_ends f gs last at places = refl

page_leads : (l : DviLaws) → (f : FontDef) (gs : List Glyph) (at : ℕ) → f.number ≡ pos 0 → is_sound_font f ≡ true → HasNumbers f → AllByRecursion FitsGlyph gs
    → (places : List ℕ) × Leads at (gap (negsuc 0) [] []) (page_bytes f gs) (gap (pos at) (f ∷ []) (sheet f gs places ∷ []))
unfolding page_bytes
page_leads l f gs at number sound has fits =
    let zeros : List ℤ = replicate 10 (pos 0) in
    let s0 : Shape = gap (negsuc 0) [] [] in
    let s1 : Shape = paged (gap (pos at) [] []) zeros [] [] fresh in
    let s2 : Shape = paged (gap (pos at) (f ∷ []) []) zeros [] [] fresh in
    let glyphs : List ℕ = 171 ∷ [] ++ flat_map glyph_bytes gs in
    let at1 : ℕ = at + length bop_bytes in
    let at2 : ℕ = at1 + length (definition_bytes f) in
    let first : Leads at s0 bop_bytes s1 = l.lead at s0 s1 bop_bytes _ says_bop refl (opened at) in
    let second : Leads at1 s1 (definition_bytes f) s2 = l.lead at1 s1 s2 (definition_bytes f) _ (says_definition l f number has) refl (font_defined f at at1 sound) in
    let spelt : Spells glyphs (body gs) = (171 ∷ [], flat_map glyph_bytes gs, refl, says_font, glyphs_spelt l gs fits) in
    let third = l.body (body gs) (gap (pos at) (f ∷ []) []) zeros [] [] fresh (record { depth = 0; chosen = true }) at2 glyphs spelt (body_inside l f gs number) in
    let places : List ℕ = third.0 in
    let s3 : Shape = paged (gap (pos at) (f ∷ []) []) zeros (body gs) places (record { depth = 0; chosen = true }) in
    let s4 : Shape = gap (pos at) (f ∷ []) (sheet f gs places ∷ []) in
    let at3 : ℕ = at2 + length glyphs in
    let fourth : Leads at3 s3 (140 ∷ []) s4 = l.lead at3 s3 s4 (140 ∷ []) _ l.eop refl (page_ends f gs at at3 places) in
    let all : Leads at s0 (bop_bytes ++ (definition_bytes f ++ (glyphs ++ 140 ∷ []))) s4 = l.lead_on at s0 s1 s4 bop_bytes _ first (l.lead_on at1 s1 s2 s4 (definition_bytes f) _ second (l.lead_on at2 s2 s3 s4 glyphs _ third.1 fourth)) in
    let grouped : bop_bytes ++ (definition_bytes f ++ (glyphs ++ 140 ∷ [])) ≡ bop_bytes ++ definition_bytes f ++ 171 ∷ [] ++ flat_map glyph_bytes gs ++ 140 ∷ [] = sym (simp append_assoc) in
    (places, subst (λ (x : List ℕ). Leads at s0 x s4) grouped all)

-- ---- the end

abbrev closing : List FontDef → List Sheet → ℕ → Shape
closing fonts sheets post = record { last = pos 15; fonts = fonts; sheets = sheets; phase = after_post post }

abbrev done : List FontDef → List Sheet → Shape
done fonts sheets = record { last = pos 15; fonts = fonts; sheets = sheets; phase = ended }

abbrev over : List FontDef → List Sheet → Walked
over fonts sheets = record { shape = done fonts sheets; fault = None }

post_comes : (fonts : List FontDef) (s : Sheet) (post high wide : ℕ) → at_gap (gap (pos 15) fonts (s ∷ [])) post (c.post (post_said high wide)) ≡ Ok (closing fonts (s ∷ []) post)
unfolding at_gap
post_comes fonts s post high wide = refl

defined_again : (f : FontDef) (sheets : List Sheet) (post : ℕ) → at_back (closing (f ∷ []) sheets post) post (c.font_def (plain_definition f)) ≡ Ok (closing (f ∷ []) sheets post)
unfolding at_back
defined_again f sheets post = rw (same_int f.number, same_font f) refl

post_post_comes : (fonts : List FontDef) (sheets : List Sheet) (post : ℕ) → at_back (closing fonts sheets post) post (c.post_post (pos post) 2) ≡ Ok (done fonts sheets)
unfolding at_back
post_post_comes fonts sheets post = rw (same_int (pos post)) refl

abbrev fine : Shape → Result Shape DviBad
fine s = Ok s

fill_is : (s : Shape) (n at count : ℕ) → 4 ≤ count + n → (at + n) % 4 ≡ 0 → filled s at count (replicate n 223) ≡ Ok s
unfolding filled
fill_is s zero at count four whole =
    let a : nat_le 4 count ≡ true = grind arith in
    let b : nat_eq (at % 4) 0 ≡ true = grind arith in
    rw (a, b) refl
fill_is s (suc n) at count four whole =
    let k : at + 1 + n ≡ at + suc n = omega arith in
    fill_is s n (at + 1) (count + 1) (omega arith) (rw k whole)

last_walked : (fonts : List FontDef) (sheets : List Sheet) (post at after_it : ℕ) (bytes : List ℕ) → filled (done fonts sheets) after_it 0 bytes ≡ Ok (done fonts sheets)
    → walk (closing fonts sheets post) (record { at = at; item = said (c.post_post (pos post) 2) } ∷ record { at = after_it; item = fill bytes } ∷ []) ≡ over fonts sheets
unfolding walk
last_walked fonts sheets post at after_it bytes full = rw (post_post_comes fonts sheets post, full) refl

enough : (n : ℕ) → (4 ≤ 0 + fill_count n) × ((n + fill_count n) % 4 ≡ 0)
enough n = (omega arith, omega arith)

ends : (l : DviLaws) → (f : FontDef) (s : Sheet) (post high wide : ℕ) → f.number ≡ pos 0 → HasNumbers f → post < 2 ^ 31 → high < 2 ^ 32 → wide < 2 ^ 32
    → walk (gap (pos 15) (f ∷ []) (s ∷ [])) (placed post 0 (end_bytes f post high wide)) ≡ over (f ∷ []) (s ∷ [])
unfolding end_bytes closing_bytes
ends l f s post high wide number has lt h w =
    let a : List ℕ = post_bytes high wide in
    let d : List ℕ = definition_bytes f in
    let b : List ℕ = post_post_bytes (pos post) in
    let n : ℕ = fill_count (post + length (a ++ d ++ b)) in
    let x : List ℕ = replicate n 223 in
    let at1 : ℕ = post + length a in
    let at2 : ℕ = at1 + length d in
    let at3 : ℕ = at2 + length b in
    let s1 : Shape = gap (pos 15) (f ∷ []) (s ∷ []) in
    let s2 : Shape = closing (f ∷ []) (s ∷ []) post in
    let first : Leads post s1 a s2 = l.lead post s1 s2 a _ (says_closing l high wide h w) refl (post_comes (f ∷ []) s post high wide) in
    let second : Leads at1 s2 d s2 = l.lead at1 s2 s2 d _ (says_definition l f number has) refl (defined_again f (s ∷ []) post) in
    let two = l.last b (pos post) 2 at2 x (says_last l post lt) in
    let place : post + length (a ++ d ++ b) ≡ at3 = omega (arith, length-append (a ++ d) b, length-append a d) in
    let most = enough (post + length (a ++ d ++ b)) in
    let full : filled (done (f ∷ []) (s ∷ [])) at3 0 x ≡ Ok (done (f ∷ []) (s ∷ [])) = fill_is (done (f ∷ []) (s ∷ [])) n at3 0 most.0 (subst (λ (k : ℕ). (k + n) % 4 ≡ 0) place most.1) in
    let grouped : a ++ d ++ b ++ x ≡ a ++ (d ++ (b ++ x)) = simp append_assoc in
    ap (λ (t : List ℕ). walk s1 (placed post 0 t)) grouped ∙ first.on (d ++ (b ++ x)) ∙ second.on (b ++ x) ∙ ap (walk s2) two ∙ last_walked (f ∷ []) (s ∷ []) post at2 at3 x full

-- ---- the file

pub short_name : (f : FontDef) → is_sound_font f ≡ true → length f.name ≤ 255
unfolding is_sound_font
short_name f sound = grind (arith, nat_tests)

pub length-front : (f : FontDef) (gs : List Glyph) → length (preamble_bytes ++ page_bytes f gs) ≡ 78 + length f.name + 15 * length gs
unfolding preamble_bytes unit_bytes page_bytes bop_bytes definition_bytes
length-front f gs =
    let glyphs : List ℕ = flat_map glyph_bytes gs in
    omega (arith, length-append (f.name ++ 171 ∷ [] ++ glyphs) (140 ∷ []), length-append (f.name ++ 171 ∷ []) glyphs, length-append f.name (171 ∷ []), length-glyphs gs)

length-preamble : length preamble_bytes ≡ 15
unfolding preamble_bytes unit_bytes
length-preamble = refl

page_drawn : (l : DviLaws) → (widths : Widths) (f : FontDef) (gs : List Glyph) (places : List ℕ) → f.number ≡ pos 0 → AllByRecursion FitsGlyph gs → AllByRecursion (λ g. IsSomeAnd (widths f g.code) (λ width. IsWithin max_dimen width.0)) gs → page_of widths (sheet f gs places) ≡ Ok (page_meant f gs)
unfolding drawn
page_drawn l widths f gs places number fits wide =
    let chosen : Pen = record { spot = spot (pos 0) (pos 0) Yoko; saved = []; chosen = Some f; marks = [] } in
    let font : drawn widths (f ∷ []) clean (c.font (pos 0)) ≡ Ok chosen = rw number refl in
    let all = l.one widths (f ∷ []) clean chosen _ _ _ font (glyphs_drawn l widths (f ∷ []) f gs [] fits wide) in
    ap (page_from (sheet f gs places)) (all.on 0)

pub file_read : (l : DviLaws) → (widths : Widths) (f : FontDef) (gs : List Glyph) (high wide : ℕ) → f.number ≡ pos 0 → is_sound_font f ≡ true → HasNumbers f → length gs < 2 ^ 16 → high < 2 ^ 32 → wide < 2 ^ 32 → All FitsGlyph gs → HasWidths widths f gs
    → file_pages widths (file_bytes f gs high wide) ≡ Ok (page_meant f gs ∷ [])
unfolding file_bytes pages_of
file_read l widths f gs high wide number sound has few h w fit widths_are =
    let fits : AllByRecursion FitsGlyph gs = recursion_from_All FitsGlyph gs fit in
    let wides : AllByRecursion (λ g. IsSomeAnd (widths f g.code) (λ width. IsWithin max_dimen width.0)) gs = recursion_from_All (λ g. IsSomeAnd (widths f g.code) (λ width. IsWithin max_dimen width.0)) gs widths_are in
    let front : List ℕ = preamble_bytes ++ page_bytes f gs in
    let end : List ℕ = end_bytes f (length front) high wide in
    let s1 : Shape = gap (negsuc 0) [] [] in
    let before : Leads 0 start preamble_bytes s1 = l.lead 0 start s1 preamble_bytes _ says_preamble refl (began 0) in
    let page = page_leads l f gs (0 + length preamble_bytes) number sound has fits in
    let s : Sheet = sheet f gs page.0 in
    let place : 0 + length preamble_bytes ≡ 15 = zero-add (length preamble_bytes) ∙ length-preamble in
    let on : Leads (0 + length preamble_bytes) s1 (page_bytes f gs) (gap (pos 15) (f ∷ []) (s ∷ [])) = subst (λ (k : ℕ). Leads (0 + length preamble_bytes) s1 (page_bytes f gs) (gap (pos k) (f ∷ []) (s ∷ []))) place page.1 in
    let both : Leads 0 start front (gap (pos 15) (f ∷ []) (s ∷ [])) = l.lead_on 0 start s1 _ preamble_bytes (page_bytes f gs) before on in
    let short : length front < 2 ^ 31 = omega (arith, length-front f gs, short_name f sound) in
    let read : walked (front ++ end) ≡ over (f ∷ []) (s ∷ []) = both.on end ∙ ap (λ (k : ℕ). walk (gap (pos 15) (f ∷ []) (s ∷ [])) (placed k 0 end)) (zero-add (length front)) ∙ ends l f s (length front) high wide number has short h w in
    ap (λ (r : Walked). answer r.shape r.fault >>= λ t. pages_of widths t.sheets) read ∙ rw (page_drawn l widths f gs page.0 number fits wides) refl
