-- Where a page breaks off, the whole pages are those before it.
use Rattle.std.proofs.Common.{◌≡◌, ℕ, pos, ◌+◌, ◌<◌, ◌≤◌, List, [], ◌∷◌, ◌++◌, length, take, drop, refl, sym, ap, subst, ◌∙◌, append_assoc, arith, length-append}
use Rattle.std.specs.Prelude.{nat_eq}
use Rattle.std.proofs.Math.Nat.{zero-add}
use Rattle.std.proofs.lemmas.List.{append-nil, take-append-le, take-append-drop}
use Rattle.dvi_commands.specs.Laws.{SaysFontDef}
use Rattle.dvi_structure.specs.Places.{placed}
use Rattle.dvi_structure.specs.Structure.{Sheet, Shape, Walked, start, walk, walked, whole_sheets}
use Rattle.dvi_code.specs.Laws.{CommandsLead, BytesLeadOn, BodiesJoin, BodiesLead, SheetsGrow}
use Rattle.dvi_code.specs.Pages.{pages_of}
use Rattle.dvi_code.specs.Reading.{Leads, paged}
use Rattle.box_marks.specs.Marks.{page_placed}
use Rattle.box_marks.specs.Laws.{PlacedFontsAreBelow}
use Rattle.dvi_writer.specs.Joining.{PagesBreakOff}
use Rattle.dvi_writer.specs.Keeping.{page_place}
use Rattle.dvi_writer.specs.Reading.{gap, stood}
use Rattle.dvi_writer.specs.Saying.{start_hand, all_said, all_after}
use Rattle.dvi_writer.specs.Tables.{known, numbered_from}
use Rattle.dvi_writer.specs.Written.{front_bytes}
use Rattle.dvi_writer.proofs.Ending.{walked_start, sheets_of, none_yet}
use Rattle.dvi_writer.proofs.Inside.{inside_of}
use Rattle.dvi_writer.proofs.Pages.{led_front}

-- the whole pages of bytes that lead somewhere
sheets_led : (bytes : List ℕ) (t : Shape) → Leads 0 start bytes t → whole_sheets bytes ≡ t.sheets
sheets_led bytes t leads =
    let same : walked bytes ≡ walk t (placed (0 + length bytes) 0 []) = ap walked (sym (append-nil bytes)) ∙ leads.on [] in
    ap (λ (r : Walked). r.shape.sheets) same ∙ ap (λ (s : Shape). s.sheets) (walked_start t (0 + length bytes))

nothing_more : (xs ys zs : List Sheet) → xs ≡ (xs ++ ys) ++ zs → ys ≡ []
nothing_more xs [] zs e = refl
nothing_more xs (y ∷ ys) zs e =
    let long : length xs ≡ length (xs ++ y ∷ ys) + length zs = ap length e ∙ length-append (xs ++ y ∷ ys) zs in
    absurd (omega (arith, long, length-append xs (y ∷ ys)))

-- between bytes and bytes with the same whole pages
sheets_between : (grow : SheetsGrow) (x y z : List ℕ) (sheets : List Sheet) → whole_sheets x ≡ sheets → whole_sheets ((x ++ y) ++ z) ≡ sheets → whole_sheets (x ++ y) ≡ sheets
sheets_between grow x y z sheets before after =
    let first = grow x y in
    let second = grow (x ++ y) z in
    let at_y : whole_sheets (x ++ y) ≡ sheets ++ first.0 = first.1 ∙ ap (λ (t : List Sheet). t ++ first.0) before in
    let at_z : sheets ≡ (sheets ++ first.0) ++ second.0 = sym after ∙ second.1 ∙ ap (λ (t : List Sheet). t ++ second.0) at_y in
    at_y ∙ ap (λ (t : List Sheet). sheets ++ t) (nothing_more sheets first.0 second.0 at_z) ∙ append-nil sheets

module _ (lead : CommandsLead) (on : BytesLeadOn) (says_font_def : SaysFontDef) (join : BodiesJoin) (bodies : BodiesLead) (fonts_below : PlacedFontsAreBelow) (grow : SheetsGrow) where
  pub pages_break_off : PagesBreakOff
  pages_break_off k fonts full more b zs out turned pages bytes n widths page is sound below ten stood_for less given =
      let led = led_front lead on says_font_def join bodies fonts_below k fonts full more b zs out turned pages bytes page is sound below ten stood_for in
      let front : List ℕ = front_bytes k zs (length fonts) (known full) ++ page.body in
      let s0 : Shape = stood (nat_eq k.pages 0) k.last fonts stood_for.sheets in
      let t : Shape = paged (gap (pos (page_place k)) (numbered_from 0 (known full)) stood_for.sheets) zs (all_said start_hand (page_placed b)) led.0 (inside_of (all_after start_hand (page_placed b))) in
      let within : n ≤ length front = let long : length out ≡ length front + 1 = ap length page.is ∙ length-append front (140 ∷ []) in omega (arith, long, less) in
      let cut : take n out ≡ take n front = ap (take n) page.is ∙ take-append-le n front (140 ∷ []) within in
      let both : Leads 0 start (bytes ++ front) t = on 0 start s0 t bytes front stood_for.leads (subst (λ (m : ℕ). Leads m s0 front t) (sym (zero-add (length bytes))) led.1) in
      let before : whole_sheets bytes ≡ stood_for.sheets = sheets_led bytes s0 stood_for.leads ∙ sheets_of (nat_eq k.pages 0) k.last fonts stood_for.sheets (none_yet stood_for.sheets k.pages stood_for.count) in
      let grouped : (bytes ++ take n front) ++ drop n front ≡ bytes ++ front = append_assoc bytes (take n front) (drop n front) ∙ ap (λ (t : List ℕ). bytes ++ t) (take-append-drop n front) in
      let after : whole_sheets ((bytes ++ take n front) ++ drop n front) ≡ stood_for.sheets = ap whole_sheets grouped ∙ sheets_led (bytes ++ front) t both in
      let are : whole_sheets (bytes ++ take n front) ≡ stood_for.sheets = sheets_between grow bytes (take n front) (drop n front) stood_for.sheets before after in
      ap (λ (t : List ℕ). pages_of widths (whole_sheets (bytes ++ t))) cut ∙ ap (pages_of widths) are ∙ stood_for.reads widths given
