-- The bytes of the end close what the pages began.
use Rattle.std.proofs.Common.{◌≡◌, ℕ, zero, suc, ◌+◌, ◌%◌, ◌^◌, ◌<◌, ◌≤◌, List, [], ◌∷◌, ◌++◌, length, map, replicate, refl, sym, ap, ◌∙◌, append_assoc, arith, ℤ, pos, Bool, true, false, Ok, None, subst, length-append, zero-add, append-nil}
use Rattle.std.specs.Prelude.{nat_le, nat_eq, ◌||◌, All}
use Rattle.std.specs.Int.{w32}
use Rattle.std.specs.Int.RustNames.{FitsSigned}
use Rattle.std.specs.List.{AllByRecursion}
use Rattle.std.proofs.lemmas.Int.{ints}
use Rattle.std.proofs.lemmas.List.Elements.{recursion_from_All}
use Rattle.ts_base.specs.Agreement.{◌>>=◌}
use Rattle.dvi_commands.specs.declared.font.FontDef.{FontDef}
use Rattle.dvi_commands.specs.Commands as c
use Rattle.dvi_commands.specs.Commands.{Command, Postamble, command}
use Rattle.dvi_commands.specs.Laws.{SaysFontDef, SaysPost, SaysPostPost}
use Rattle.dvi_structure.specs.Places.{said, fill, placed}
use Rattle.dvi_structure.specs.Structure.{Sheet, Shape, Walked, start, ended, at_gap, at_back, filled, walk, walked, answer}
use Rattle.dvi_code.specs.Laws.{CommandsLead, BytesLeadOn, LastPlaced}
use Rattle.dvi_code.specs.Pages.{Widths, pages_of, file_pages, whole_pages}
use Rattle.dvi_code.specs.Reading.{Leads}
use Rattle.dvi_writer.specs.declared.kept.Kept.{Kept}
use Rattle.dvi_writer.specs.Joining.{FilesEnd}
use Rattle.dvi_writer.specs.Reading.{Asked, page_asked, HasWidths, gap, stood, StandsFor}
use Rattle.dvi_writer.specs.Tables.{numbered_from}
use Rattle.dvi_writer.specs.Written.{HasNumbers, KeptFits, unit_bytes, definitions_bytes, post_bytes, id_of, post_post_bytes, fill_count, fill_bytes, closing_bytes, end_bytes}
use Rattle.dvi_writer.proofs.Leading.{closing, again_lead, same_int}

abbrev done : ℤ → List FontDef → List Sheet → Shape
done last fonts sheets = record { last = last; fonts = fonts; sheets = sheets; phase = ended }

abbrev over : ℤ → List FontDef → List Sheet → Walked
over last fonts sheets = record { shape = done last fonts sheets; fault = None }

abbrev post_said : Kept → Postamble
post_said k = record { back = k.last; num = 25400000; den = 473628672; mag = 1000; height = k.high; width = k.wide; stack = 0; pages = k.pages }

same_nat : (n : ℕ) → nat_eq n n ≡ true
same_nat n = grind arith

post_comes : (k : Kept) (fonts : List FontDef) (sheets : List Sheet) (post : ℕ) → length sheets ≡ k.pages → at_gap (gap k.last fonts sheets) post (c.post (post_said k)) ≡ Ok (closing k.last fonts sheets post)
unfolding at_gap
post_comes k fonts sheets post e =
    let n : nat_eq k.pages (length sheets) ≡ true = rw e (same_nat k.pages) in
    rw (same_int k.last, n) refl

is_id : (turned : Bool) → (nat_eq (id_of turned) 2 || nat_eq (id_of turned) 3) ≡ true
is_id true = refl
is_id false = refl

post_post_comes : (last : ℤ) (fonts : List FontDef) (sheets : List Sheet) (post : ℕ) (turned : Bool) → at_back (closing last fonts sheets post) post (c.post_post (pos post) (id_of turned)) ≡ Ok (done last fonts sheets)
unfolding at_back
post_post_comes last fonts sheets post true = rw (same_int (pos post)) refl
post_post_comes last fonts sheets post false = rw (same_int (pos post)) refl

fill_is : (s : Shape) (n at count : ℕ) → 4 ≤ count + n → (at + n) % 4 ≡ 0 → filled s at count (replicate n 223) ≡ Ok s
unfolding filled
fill_is s zero at count four whole =
    let a : nat_le 4 count ≡ true = grind arith in
    let b : nat_eq (at % 4) 0 ≡ true = grind arith in
    rw (a, b) refl
fill_is s (suc n) at count four whole =
    let k : at + 1 + n ≡ at + suc n = omega arith in
    fill_is s n (at + 1) (count + 1) (omega arith) (rw k whole)

last_walked : (last : ℤ) (fonts : List FontDef) (sheets : List Sheet) (post at after : ℕ) (turned : Bool) (bytes : List ℕ) → filled (done last fonts sheets) after 0 bytes ≡ Ok (done last fonts sheets)
    → walk (closing last fonts sheets post) (record { at = at; item = said (c.post_post (pos post) (id_of turned)) } ∷ record { at = after; item = fill bytes } ∷ []) ≡ over last fonts sheets
unfolding walk
last_walked last fonts sheets post at after turned bytes full = rw (post_post_comes last fonts sheets post turned, full) refl

enough : (n : ℕ) → (4 ≤ 0 + fill_count n) × ((n + fill_count n) % 4 ≡ 0)
enough n = (omega arith, omega arith)

pub stands_read : (widths : Widths) (sheets : List Sheet) (r : Walked) (last : ℤ) (fonts : List FontDef) → r ≡ over last fonts sheets → (answer r.shape r.fault >>= λ t. pages_of widths t.sheets) ≡ pages_of widths sheets
stands_read widths sheets r last fonts e = rw e refl

pub walked_start : (s : Shape) (at : ℕ) → (walk s (placed at 0 [])).shape ≡ s
unfolding walk placed
walked_start s at = refl

pub sheets_of : (first : Bool) (last : ℤ) (fonts : List FontDef) (sheets : List Sheet) → (first ≡ true → sheets ≡ []) → (stood first last fonts sheets).sheets ≡ sheets
sheets_of true last fonts sheets none = sym (none refl)
sheets_of false last fonts sheets none = refl

pub none_yet : (sheets : List Sheet) (n : ℕ) → length sheets ≡ n → nat_eq n 0 ≡ true → sheets ≡ []
none_yet [] n e z = refl
none_yet (s ∷ ss) n e z =
    let zero_is : n ≡ 0 = grind arith in
    absurd (omega (arith, e))

pub whole : (k : Kept) (fonts : List FontDef) (pages : List Asked) (bytes : List ℕ) (widths : Widths) → StandsFor k fonts pages bytes → All (HasWidths widths) pages → whole_pages widths bytes ≡ Ok (map page_asked pages)
whole k fonts pages bytes widths stands given =
    let s : Shape = stood (nat_eq k.pages 0) k.last fonts stands.sheets in
    let here : walked (bytes ++ []) ≡ walk s (placed (0 + length bytes) 0 []) = stands.leads.on [] in
    let same : walked bytes ≡ walk s (placed (0 + length bytes) 0 []) = ap walked (sym (append-nil bytes)) ∙ here in
    let are : (walked bytes).shape.sheets ≡ stands.sheets = ap (λ (r : Walked). r.shape.sheets) same ∙ ap (λ (t : Shape). t.sheets) (walked_start s (0 + length bytes)) ∙ sheets_of (nat_eq k.pages 0) k.last fonts stands.sheets (none_yet stands.sheets k.pages stands.count) in
    ap (pages_of widths) are ∙ stands.reads widths given

module _ (lead : CommandsLead) (on : BytesLeadOn) (placed_last : LastPlaced) (says_font_def : SaysFontDef) (says_post : SaysPost) (says_post_post : SaysPostPost) where
  says_closing : (k : Kept) → KeptFits k → command (post_bytes k) ≡ Ok (c.post (post_said k), [])
  unfolding post_bytes unit_bytes
  says_closing k fit = says_post (post_said k) fit.last (omega arith) (omega arith) (omega arith) fit.high fit.wide (omega arith) fit.pages

  says_last : (post : ℕ) (turned : Bool) → post < 2 ^ 31 → command (post_post_bytes post turned) ≡ Ok (c.post_post (pos post) (id_of turned), [])
  unfolding post_post_bytes
  says_last post turned lt = let fits : FitsSigned w32 (pos post) = omega (arith, ints, lt) in says_post_post (pos post) (id_of turned) fits

  ends : (k : Kept) (fonts : List FontDef) (sheets : List Sheet) → length sheets ≡ k.pages → KeptFits k → AllByRecursion HasNumbers fonts → length fonts ≤ 256 → k.given < 2 ^ 31
      → walk (gap k.last (numbered_from 0 fonts) sheets) (placed k.given 0 (closing_bytes k fonts ++ fill_bytes (k.given + length (closing_bytes k fonts)))) ≡ over k.last (numbered_from 0 fonts) sheets
  unfolding closing_bytes
  ends k fonts sheets count fit has few lt =
      let a : List ℕ = post_bytes k in
      let d : List ℕ = definitions_bytes 0 fonts in
      let b : List ℕ = post_post_bytes k.given k.turned in
      let n : ℕ = fill_count (k.given + length (a ++ d ++ b)) in
      let x : List ℕ = replicate n 223 in
      let all : List FontDef = numbered_from 0 fonts in
      let at1 : ℕ = k.given + length a in
      let at2 : ℕ = at1 + length d in
      let at3 : ℕ = at2 + length b in
      let s1 : Shape = gap k.last all sheets in
      let s2 : Shape = closing k.last all sheets k.given in
      let first : Leads k.given s1 a s2 = lead k.given s1 s2 a _ (says_closing k fit) refl (post_comes k all sheets k.given count) in
      let second : Leads at1 s2 d s2 = again_lead lead on says_font_def at1 k.last fonts [] fonts sheets k.given 0 refl refl (omega (arith, few)) has in
      let two = placed_last b (pos k.given) (id_of k.turned) at2 x (says_last k.given k.turned lt) in
      let place : k.given + length (a ++ d ++ b) ≡ at3 = omega (arith, length-append (a ++ d) b, length-append a d) in
      let most = enough (k.given + length (a ++ d ++ b)) in
      let full : filled (done k.last all sheets) at3 0 x ≡ Ok (done k.last all sheets) = fill_is (done k.last all sheets) n at3 0 most.0 (subst (λ (j : ℕ). (j + n) % 4 ≡ 0) place most.1) in
      let grouped : a ++ d ++ b ++ x ≡ a ++ (d ++ (b ++ x)) = simp append_assoc in
      ap (λ (t : List ℕ). walk s1 (placed k.given 0 t)) grouped ∙ first.on (d ++ (b ++ x)) ∙ second.on (b ++ x) ∙ ap (walk s2) two ∙ last_walked k.last all sheets k.given at2 at3 k.turned x full

  pub files_end : FilesEnd
  unfolding end_bytes
  files_end k fonts pages bytes widths stands fit numbers few lt some given =
      let not_first : nat_eq k.pages 0 ≡ false = grind arith in
      let tail : List ℕ = closing_bytes k fonts ++ fill_bytes (k.given + length (closing_bytes k fonts)) in
      let end_is : end_bytes k fonts ≡ tail = rw not_first refl in
      let s : Shape = gap k.last (numbered_from 0 fonts) stands.sheets in
      let stood_is : stood (nat_eq k.pages 0) k.last fonts stands.sheets ≡ s = ap (λ (t : Bool). stood t k.last fonts stands.sheets) not_first in
      let before : Leads 0 start bytes s = rw stood_is at stands.leads in
      let at : 0 + length bytes ≡ k.given = zero-add (length bytes) ∙ stands.len in
      let read : walked (bytes ++ tail) ≡ over k.last (numbered_from 0 fonts) stands.sheets =
      before.on tail ∙ ap (λ (n : ℕ). walk s (placed n 0 tail)) at ∙ ends k fonts stands.sheets stands.count fit (recursion_from_All HasNumbers fonts numbers) few lt in
      ap (λ (t : List ℕ). file_pages widths (bytes ++ t)) end_is ∙ stands_read widths stands.sheets (walked (bytes ++ tail)) k.last (numbered_from 0 fonts) read ∙ stands.reads widths given
