-- The bytes with which a page and its fonts begin and end lead on.
use Rattle.std.proofs.Common.{◌≡◌, ℕ, zero, suc, ◌+◌, ◌<◌, ◌≤◌, List, [], ◌∷◌, ◌++◌, length, get_or, refl, sym, ap, ◌∙◌, append_assoc, arith, ℤ, pos, Bool, true, false, Ok, subst, if◌then◌else◌, length-append}
use Rattle.std.specs.Prelude.{negsuc}
use Rattle.std.specs.Int.{w32}
use Rattle.std.specs.Int.RustNames.{FitsSigned}
use Rattle.std.specs.List.{flat_map, AllByRecursion}
use Rattle.std.specs.Ordering.{int_eq}
use Rattle.std.proofs.lemmas.Cmp.{int_eq_equiv}
use Rattle.std.proofs.lemmas.List.{append-nil}
use Rattle.std.proofs.lemmas.List.Concat.{flat_map-cons}
use Rattle.dvi_commands.specs.declared.font.FontDef.{FontDef}
use Rattle.dvi_commands.specs.Commands as c
use Rattle.dvi_commands.specs.Commands.{Command, Preamble, Postamble, command, command_after, group_after, file_after, pre_after}
use Rattle.dvi_commands.specs.Fields.{counts as read_counts, signed_bytes, unsigned}
use Rattle.dvi_commands.specs.Laws.{SaysFontDef}
use Rattle.dvi_commands.specs.Spelling.{four, plain_definition}
use Rattle.dvi_structure.specs.Places.{placed}
use Rattle.dvi_structure.specs.Structure.{Sheet, Shape, start, after_post, fresh, walk, is_sound_font, defined, at_start, at_gap, in_page, at_back}
use Rattle.dvi_code.specs.Laws.{CommandsLead, BytesLeadOn}
use Rattle.dvi_code.specs.Reading.{Leads, paged}
use Rattle.box_marks.specs.Marks.{nameless}
use Rattle.dvi_writer.specs.Reading.{gap, stood}
use Rattle.dvi_writer.specs.Tables.{numbered, numbered_from}
use Rattle.dvi_writer.specs.Written.{HasNumbers, unit_bytes, preamble_bytes, bop_bytes, definition_bytes, definitions_bytes}
use Rattle.dvi_writer.proofs.Fonts.{defined_more, defined_again}
use Rattle.dvi_writer.proofs.Numbers.{signed-again, signed_alone}

-- ---- what the bytes say

abbrev preamble_said : Preamble
preamble_said = record { id = 2; num = 25400000; den = 473628672; mag = 1000; comment = [] }

says_preamble : command preamble_bytes ≡ Ok (c.pre preamble_said, [])
unfolding preamble_bytes unit_bytes command command_after file_after pre_after unsigned
says_preamble = refl

counts_read : (zs : List ℤ) (rest : List ℕ) → AllByRecursion (FitsSigned w32) zs → read_counts (length zs) (flat_map signed_bytes zs ++ rest) ≡ Ok (zs, rest)
unfolding read_counts
counts_read [] rest fit = refl
counts_read (z ∷ zs) rest fit =
    let is : flat_map signed_bytes (z ∷ zs) ++ rest ≡ four z ++ (flat_map signed_bytes zs ++ rest) = ap (λ (t : List ℕ). t ++ rest) (flat_map-cons signed_bytes z zs) ∙ append_assoc (four z) (flat_map signed_bytes zs) rest in
    rw (is, signed-again z (flat_map signed_bytes zs ++ rest) fit.0, counts_read zs rest fit.1) refl

says_bop : (zs : List ℤ) (back : ℤ) → length zs ≡ 10 → AllByRecursion (FitsSigned w32) zs → FitsSigned w32 back → command (bop_bytes zs back) ≡ Ok (c.bop zs back, [])
unfolding bop_bytes command command_after group_after
says_bop zs back ten fit fits =
    let read : read_counts 10 (flat_map signed_bytes zs ++ four back) ≡ Ok (zs, four back) = ap (λ (n : ℕ). read_counts n (flat_map signed_bytes zs ++ four back)) (sym ten) ∙ counts_read zs (four back) fit in
    rw (read, signed_alone back fits) refl

pub same_int : (z : ℤ) → int_eq z z ≡ true
same_int z = int_eq_equiv.refl z

-- ---- the structure

pub leads_none : (at : ℕ) (s : Shape) → Leads at s [] s
leads_none at s =
    let same : at + 0 ≡ at = omega arith in
    record { on = λ more. ap (λ (k : ℕ). walk s (placed k 0 more)) (sym same) }

began : (at : ℕ) → at_start start (c.pre preamble_said) ≡ Ok (gap (negsuc 0) [] [])
unfolding at_start
began at = refl

opened : (fonts : List FontDef) (sheets : List Sheet) (last : ℤ) (at : ℕ) (zs : List ℤ) → at_gap (gap last fonts sheets) at (c.bop zs last) ≡ Ok (paged (gap (pos at) fonts sheets) zs [] [] fresh)
unfolding at_gap
opened fonts sheets last at zs = rw (same_int last) refl

abbrev pub begun : ℤ → List FontDef → List Sheet → List ℤ → Shape
begun last fonts sheets zs = paged (gap last fonts sheets) zs [] [] fresh

defined_in : (last : ℤ) (fs : List FontDef) (sheets : List Sheet) (zs : List ℤ) (n at : ℕ) (f : FontDef) → n ≡ length fs → is_sound_font f ≡ true
    → in_page (begun last (numbered_from 0 fs) sheets zs) zs [] [] fresh at (c.font_def (plain_definition (numbered n f))) ≡ Ok (begun last (numbered_from 0 (fs ++ f ∷ [])) sheets zs)
unfolding in_page
defined_in last fs sheets zs n at f e sound = rw (defined_more fs n f e sound) refl

abbrev pub closing : ℤ → List FontDef → List Sheet → ℕ → Shape
closing last fonts sheets post = record { last = last; fonts = fonts; sheets = sheets; phase = after_post post }

get_at : (fs gs : List FontDef) (g : FontDef) (n : ℕ) → n ≡ length fs → get_or (fs ++ g ∷ gs) n nameless ≡ g
get_at [] gs g n e = rw e refl
get_at (f ∷ fs) gs g zero e = absurd (omega (arith, e))
get_at (f ∷ fs) gs g (suc n) e = get_at fs gs g n (omega (arith, e))

defined_back : (last : ℤ) (fs gs : List FontDef) (g : FontDef) (sheets : List Sheet) (post n at : ℕ) → n ≡ length fs
    → at_back (closing last (numbered_from 0 (fs ++ g ∷ gs)) sheets post) post (c.font_def (plain_definition (numbered n g))) ≡ Ok (closing last (numbered_from 0 (fs ++ g ∷ gs)) sheets post)
unfolding at_back
defined_back last fs gs g sheets post n at e =
    let there : defined (numbered_from 0 (fs ++ g ∷ gs)) (numbered n (get_or (fs ++ g ∷ gs) n nameless)) ≡ Ok (numbered_from 0 (fs ++ g ∷ gs)) = defined_again (fs ++ g ∷ gs) n (omega (arith, e, length-append fs (g ∷ gs))) in
    let again : defined (numbered_from 0 (fs ++ g ∷ gs)) (numbered n g) ≡ Ok (numbered_from 0 (fs ++ g ∷ gs)) = subst (λ (h : FontDef). defined (numbered_from 0 (fs ++ g ∷ gs)) (numbered n h) ≡ Ok (numbered_from 0 (fs ++ g ∷ gs))) (get_at fs gs g n e) there in
    rw again refl

abbrev pub IsSoundFont : FontDef → Type 0
IsSoundFont f = is_sound_font f ≡ true

module _ (lead : CommandsLead) (on : BytesLeadOn) (says_font_def : SaysFontDef) where
  says_definition : (n : ℕ) (f : FontDef) → n < 256 → HasNumbers f → command (definition_bytes n f) ≡ Ok (c.font_def (plain_definition (numbered n f)), [])
  unfolding definition_bytes
  says_definition n f lt has = says_font_def (numbered n f) n refl lt has.check_sum has.size has.design

  pub opening_leads : (at : ℕ) (first : Bool) (last : ℤ) (fonts : List FontDef) (sheets : List Sheet) → (first ≡ true → (last ≡ negsuc 0) × (fonts ≡ []) × (sheets ≡ []))
      → Leads at (stood first last fonts sheets) (if first then preamble_bytes else []) (gap last (numbered_from 0 fonts) sheets)
  opening_leads at true last fonts sheets none =
      let n = none refl in
      let one : Leads at start preamble_bytes (gap (negsuc 0) [] []) = lead at start _ preamble_bytes _ says_preamble refl (began at) in
      rw (n.0, n.1, n.2) one
  opening_leads at false last fonts sheets none = leads_none at (gap last (numbered_from 0 fonts) sheets)

  pub bop_leads : (at : ℕ) (last : ℤ) (fonts : List FontDef) (sheets : List Sheet) (zs : List ℤ) → length zs ≡ 10 → AllByRecursion (FitsSigned w32) zs → FitsSigned w32 last
      → Leads at (gap last fonts sheets) (bop_bytes zs last) (begun (pos at) fonts sheets zs)
  bop_leads at last fonts sheets zs ten fit fits = lead at _ _ (bop_bytes zs last) _ (says_bop zs last ten fit fits) refl (opened fonts sheets last at zs)

  pub definitions_lead : (at : ℕ) (last : ℤ) (fs gs : List FontDef) (sheets : List Sheet) (zs : List ℤ) (n : ℕ) → n ≡ length fs → n + length gs ≤ 256 → AllByRecursion IsSoundFont gs → AllByRecursion HasNumbers gs
      → Leads at (begun last (numbered_from 0 fs) sheets zs) (definitions_bytes n gs) (begun last (numbered_from 0 (fs ++ gs)) sheets zs)
  definitions_lead at last fs [] sheets zs n e few sound has = rw (append-nil fs) (leads_none at (begun last (numbered_from 0 fs) sheets zs))
  definitions_lead at last fs (g ∷ gs) sheets zs n e few sound has =
      let one : Leads at (begun last (numbered_from 0 fs) sheets zs) (definition_bytes n g) (begun last (numbered_from 0 (fs ++ g ∷ [])) sheets zs) =
      lead at _ _ (definition_bytes n g) _ (says_definition n g (omega (arith, few)) has.0) refl (defined_in last fs sheets zs n at g e sound.0) in
      let others = definitions_lead (at + length (definition_bytes n g)) last (fs ++ g ∷ []) gs sheets zs (n + 1) (omega (arith, e, length-append fs (g ∷ []))) (omega (arith, few)) sound.1 has.1 in
      let joined : (fs ++ g ∷ []) ++ gs ≡ fs ++ g ∷ gs = append_assoc fs (g ∷ []) gs in
      on at _ _ _ (definition_bytes n g) (definitions_bytes (n + 1) gs) one (subst (λ (xs : List FontDef). Leads (at + length (definition_bytes n g)) (begun last (numbered_from 0 (fs ++ g ∷ [])) sheets zs) (definitions_bytes (n + 1) gs) (begun last (numbered_from 0 xs) sheets zs)) joined others)

  pub again_lead : (at : ℕ) (last : ℤ) (all fs gs : List FontDef) (sheets : List Sheet) (post n : ℕ) → all ≡ fs ++ gs → n ≡ length fs → n + length gs ≤ 256 → AllByRecursion HasNumbers gs
      → Leads at (closing last (numbered_from 0 all) sheets post) (definitions_bytes n gs) (closing last (numbered_from 0 all) sheets post)
  again_lead at last all fs [] sheets post n is e few has = leads_none at (closing last (numbered_from 0 all) sheets post)
  again_lead at last all fs (g ∷ gs) sheets post n is e few has =
      let s : Shape = closing last (numbered_from 0 all) sheets post in
      let back : at_back s post (c.font_def (plain_definition (numbered n g))) ≡ Ok s = rw is (defined_back last fs gs g sheets post n at e) in
      let one : Leads at s (definition_bytes n g) s = lead at s s (definition_bytes n g) _ (says_definition n g (omega (arith, few)) has.0) refl back in
      let joined : all ≡ (fs ++ g ∷ []) ++ gs = is ∙ sym (append_assoc fs (g ∷ []) gs) in
      on at s s s (definition_bytes n g) (definitions_bytes (n + 1) gs) one (again_lead (at + length (definition_bytes n g)) last all (fs ++ g ∷ []) gs sheets post (n + 1) joined (omega (arith, e, length-append fs (g ∷ []))) (omega (arith, few)) has.1)
