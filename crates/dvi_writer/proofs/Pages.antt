-- A page joins those before it.
use Rattle.std.proofs.Common.{◌≡◌, ℕ, ◌+◌, ◌<◌, ◌≤◌, List, [], ◌∷◌, ◌++◌, length, drop, map, get_or, refl, sym, ap, ◌∙◌, append_assoc, arith, ℤ, pos, Bool, true, false, Some, Result, Ok, Err, subst, if◌then◌else◌, length-append, zero-add}
use Rattle.std.specs.Prelude.{negsuc, nat_eq, All, ◌||◌}
use Rattle.std.specs.Int.{w32}
use Rattle.std.specs.Int.RustNames.{FitsSigned}
use Rattle.std.specs.List.{AllByRecursion}
use Rattle.std.proofs.lemmas.Int.{ints}
use Rattle.std.proofs.lemmas.List.{length-take, get_or-take, drop_at}
use Rattle.std.proofs.lemmas.List.Elements.{recursion_from_All, All-from_recursion, All-take, All-drop}
use Rattle.ts_base.specs.Agreement.{◌>>=◌}
use Rattle.dvi_commands.specs.declared.font.FontDef.{FontDef}
use Rattle.dvi_commands.specs.declared.fault.DviBad.{DviBad}
use Rattle.dvi_commands.specs.Commands as c
use Rattle.dvi_commands.specs.Commands.{Command}
use Rattle.dvi_commands.specs.Laws.{SaysFontDef, SaysEop}
use Rattle.dvi_commands.specs.Spelling.{Spells}
use Rattle.dvi_structure.specs.Structure.{Sheet, Shape, Inside, start, fresh, font_of, in_page}
use Rattle.dvi_code.specs.declared.page.DviPage.{DviPage}
use Rattle.dvi_code.specs.Laws.{CommandsLead, BytesLeadOn, BodiesJoin, BodiesLead, CommandsDrawOn, NothingDrawn, OneDrawn}
use Rattle.dvi_code.specs.Pages.{Widths, page_of, page_from, pages_of}
use Rattle.dvi_code.specs.Reading.{Leads, all_inside, paged}
use Rattle.box_tree.specs.declared.item.FontNo.{FontNo}
use Rattle.box_tree.specs.Trees.{BoxTree}
use Rattle.box_marks.specs.declared.placed.Placed.{Placed}
use Rattle.box_marks.specs.declared.placed.Piece.{Piece}
use Rattle.box_marks.specs.declared.placed.Piece.TheVariants.{Glyph, Rule}
use Rattle.box_marks.specs.Glyphs.{FontsAreBelow, PieceMeets, IsBelow, IsGiven}
use Rattle.box_marks.specs.Laws.{PlacedFontsAreBelow, PlacedWidthsAreGiven}
use Rattle.box_marks.specs.Marks.{nameless, font_at, page_placed, page_point}
use Rattle.dvi_writer.specs.Keeping.{page_place}
use Rattle.dvi_writer.specs.Joining.{PagesJoin}
use Rattle.dvi_writer.specs.declared.kept.Kept.{Kept}
use Rattle.dvi_writer.specs.Pages.{IsPage}
use Rattle.dvi_writer.specs.Reading.{Asked, StandsFor, page_asked, HasWidths, gap, stood, has_turn, have_turn}
use Rattle.dvi_writer.specs.Saying.{start_hand, all_said, all_after, all_fit, IsInReach}
use Rattle.dvi_writer.specs.Tables.{numbered, numbered_from, known, width_in}
use Rattle.dvi_writer.specs.Written.{HasNumbers, preamble_bytes, unit_bytes, bop_bytes, definitions_bytes, opening_bytes, front_bytes}
use Rattle.dvi_writer.specs.Wrote.{AreSound, HasByte}
use Rattle.dvi_writer.proofs.Drawing.{draws_all, HasFont, HasWidth, AllHave}
use Rattle.dvi_writer.proofs.Fonts.{font_at_place}
use Rattle.dvi_writer.proofs.Inside.{inside_of, all_said_inside, IsThere, AllThere, all_turns}
use Rattle.dvi_writer.proofs.Leading.{begun, IsSoundFont, opening_leads, bop_leads, definitions_lead}

-- ---- pages that are read

pub bound : {A B E : Type 0} (r : Result A E) (f : A → Result B E) (y : B) → (r >>= f) ≡ Ok y → (x : A) × (r ≡ Ok x) × (f x ≡ Ok y)
bound (Ok x) f y e = (x, refl, e)
bound (Err d) f y e = absurd cc

abbrev fine : List DviPage → Result (List DviPage) DviBad
fine ps = Ok ps

ok_is : (x y : List DviPage) → fine x ≡ fine y → x ≡ y
ok_is x y e = cc

pages_cons : (widths : Widths) (t : Sheet) (ts : List Sheet) (p : DviPage) (ps : List DviPage) → page_of widths t ≡ Ok p → pages_of widths ts ≡ Ok ps → pages_of widths (t ∷ ts) ≡ Ok (p ∷ ps)
unfolding pages_of
pages_cons widths t ts p ps e f = rw (e, f) refl

pages_more : (widths : Widths) (ss : List Sheet) (s : Sheet) (ps : List DviPage) (p : DviPage) → pages_of widths ss ≡ Ok ps → page_of widths s ≡ Ok p → pages_of widths (ss ++ s ∷ []) ≡ Ok (ps ++ p ∷ [])
unfolding pages_of
pages_more widths [] s ps p e f = let none : [] ≡ ps = cc in rw (f, ← none) refl
pages_more widths (t ∷ ts) s ps p e f =
    let a = bound (page_of widths t) (λ first. pages_of widths ts >>= λ others. Ok (first ∷ others)) ps e in
    let b = bound (pages_of widths ts) (λ others. Ok (a.0 ∷ others)) ps a.2 in
    let is : a.0 ∷ b.0 ≡ ps = ok_is (a.0 ∷ b.0) ps b.2 in
    let more : pages_of widths (ts ++ s ∷ []) ≡ Ok (b.0 ++ p ∷ []) = pages_more widths ts s b.0 p b.1 f in
    pages_cons widths t (ts ++ s ∷ []) a.0 (b.0 ++ p ∷ []) a.1 more ∙ ap (λ (qs : List DviPage). Ok (qs ++ p ∷ [])) is

all_split : {X : Type 0} (P : X → Type 0) (xs : List X) (x : X) → AllByRecursion P (xs ++ x ∷ []) → AllByRecursion P xs × P x
all_split P [] x h = (tt, h.0)
all_split P (y ∷ ys) x h = let r = all_split P ys x h.1 in ((h.0, r.0), r.1)

map-snoc : {X Y : Type 0} (f : X → Y) (xs : List X) (x : X) → map f (xs ++ x ∷ []) ≡ map f xs ++ f x ∷ []
map-snoc f [] x = refl
map-snoc f (y ∷ ys) x = ap (λ t. f y ∷ t) (map-snoc f ys x)

or_none : (b : Bool) → (b || false) ≡ (false || b)
or_none true = refl
or_none false = refl

or_both : (a b d : Bool) → (a || (b || d)) ≡ ((a || b) || d)
or_both true b d = refl
or_both false b d = refl

turns_more : (ss : List Sheet) (s : Sheet) → have_turn (ss ++ s ∷ []) ≡ (have_turn ss || has_turn s.body)
turns_more [] s = or_none (has_turn s.body)
turns_more (t ∷ ts) s = ap (λ (b : Bool). has_turn t.body || b) (turns_more ts s) ∙ or_both (has_turn t.body) (have_turn ts) (has_turn s.body)

-- ---- fonts that are there

in_known : (full : List FontDef) (n : ℕ) → n < 256 → n < length full → get_or (known full) n nameless ≡ get_or full n nameless
unfolding known
in_known full n lt there = get_or-take 256 full n nameless lt

known_long : (full : List FontDef) (n : ℕ) → n < 256 → n < length full → n < length (known full)
unfolding known
known_long full n lt there = omega (arith, length-take 256 full)

pub known_few : (full : List FontDef) → length (known full) ≤ 256
unfolding known
known_few full = omega (arith, length-take 256 full)

pub known_sound : (full : List FontDef) → All IsSoundFont full → All IsSoundFont (known full)
unfolding known
known_sound full sound = All-take IsSoundFont 256 full sound

font_there : (full : List FontDef) (font : FontNo) → font.0 < 256 → font.0 < length full → font_of (numbered_from 0 (known full)) (pos font.0) ≡ Some (numbered font.0 (font_at full font))
font_there full font lt there =
    font_at_place 0 font.0 font.0 (known full) (known_long full font.0 lt there) (omega arith) ∙ ap (λ (f : FontDef). Some (numbered font.0 f)) (in_known full font.0 lt there)

one_there : (full : List FontDef) (piece : Piece) → HasByte piece → PieceMeets (IsBelow (length full)) piece → IsThere (numbered_from 0 (known full)) piece
one_there full (Glyph font code width) lt there = (numbered font.0 (font_at full font), font_there full font lt there)
one_there full (Rule height width) lt there = tt

one_font : (widths : Widths) (full : List FontDef) (piece : Piece) → HasByte piece → PieceMeets (IsBelow (length full)) piece → HasFont (numbered_from 0 (known full)) full piece
one_font widths full (Glyph font code width) lt there = font_there full font lt there
one_font widths full (Rule height width) lt there = tt

one_width : (widths : Widths) (full : List FontDef) (piece : Piece) → PieceMeets (IsGiven (width_in widths full)) piece → HasWidth widths full piece
one_width widths full (Glyph font code width) given = given
one_width widths full (Rule height width) given = tt

all_there : (full : List FontDef) (ps : List Placed) → AreSound ps → AllByRecursion (λ p. PieceMeets (IsBelow (length full)) p.piece) ps → AllThere (numbered_from 0 (known full)) ps
all_there full [] sound below = tt
all_there full (p ∷ ps) sound below = (one_there full p.piece sound.1.0 below.0, all_there full ps sound.1.1 below.1)

all_have : (widths : Widths) (full : List FontDef) (ps : List Placed) → AreSound ps → AllByRecursion (λ p. PieceMeets (IsBelow (length full)) p.piece) ps → AllByRecursion (λ p. PieceMeets (IsGiven (width_in widths full)) p.piece) ps
    → AllHave widths (numbered_from 0 (known full)) full ps
all_have widths full [] sound below given = tt
all_have widths full (p ∷ ps) sound below given =
    (one_font widths full p.piece sound.1.0 below.0, (one_width widths full p.piece given.0, all_have widths full ps sound.1.1 below.1 given.1))

-- ---- the page

sheet_of : List FontDef → List ℤ → List Placed → List ℕ → Sheet
sheet_of fonts zs ps places = record { counts = zs; body = all_said start_hand ps; places = places; fonts = fonts }

start_near : IsInReach start_hand.at
start_near = record { x = (omega (arith, ints), omega (arith, ints)); y = (omega (arith, ints), omega (arith, ints)) }

closed : (last : ℤ) (fonts : List FontDef) (sheets : List Sheet) (zs : List ℤ) (body : List Command) (places : List ℕ) (b : Bool) (at : ℕ)
    → in_page (paged (gap last fonts sheets) zs body places (record { depth = 0; chosen = b })) zs body places (record { depth = 0; chosen = b }) at c.eop
    ≡ Ok (gap last fonts (sheets ++ record { counts = zs; body = body; places = places; fonts = fonts } ∷ []))
unfolding in_page
closed last fonts sheets zs body places b at = refl

-- the table's further fonts
rest_is : (table fonts more : List FontDef) → table ≡ fonts ++ more → drop (length fonts) table ≡ more
rest_is table fonts more e = rw e (drop_at fonts more (length fonts) refl)

opening_long : (first : Bool) → length (if first then preamble_bytes else []) ≡ (if first then 15 else 0)
unfolding preamble_bytes unit_bytes
opening_long true = refl
opening_long false = refl

nothing_yet : (sheets : List Sheet) → length sheets ≡ 0 → sheets ≡ []
nothing_yet [] e = refl
nothing_yet (s ∷ ss) e = absurd (omega (arith, e))

not_first : (n : ℕ) → nat_eq (n + 1) 0 ≡ false
not_first n = grind arith

is_first : (n : ℕ) → nat_eq n 0 ≡ true → n ≡ 0
is_first n e = grind arith

-- ---- what comes before the end of a page

module _ (lead : CommandsLead) (on : BytesLeadOn) (says_font_def : SaysFontDef) (join : BodiesJoin) (bodies : BodiesLead) (fonts_below : PlacedFontsAreBelow) where
  front_leads : (at : ℕ) (last : ℤ) (first : Bool) (fonts more full : List FontDef) (sheets : List Sheet) (zs : List ℤ) (ps : List Placed) (body : List ℕ)
      → known full ≡ fonts ++ more → (first ≡ true → (last ≡ negsuc 0) × (fonts ≡ []) × (sheets ≡ []))
      → length zs ≡ 10 → AllByRecursion (FitsSigned w32) zs → FitsSigned w32 last → AllByRecursion IsSoundFont more → AllByRecursion HasNumbers more
      → Spells body (all_said start_hand ps) → AllThere (numbered_from 0 (known full)) ps
      → (places : List ℕ) × Leads at (stood first last fonts sheets) (((if first then preamble_bytes else []) ++ bop_bytes zs last ++ definitions_bytes (length fonts) more) ++ body)
      (paged (gap (pos (at + length (if first then preamble_bytes else []))) (numbered_from 0 (known full)) sheets) zs (all_said start_hand ps) places (inside_of (all_after start_hand ps)))
  front_leads at last first fonts more full sheets zs ps body is none ten fit fits sound has spelt there =
      let o : List ℕ = if first then preamble_bytes else [] in
      let b : List ℕ = bop_bytes zs last in
      let d : List ℕ = definitions_bytes (length fonts) more in
      let all : List FontDef = numbered_from 0 (known full) in
      let at1 : ℕ = at + length o in
      let at2 : ℕ = at1 + length b in
      let at3 : ℕ = at2 + length d in
      let s0 : Shape = stood first last fonts sheets in
      let s1 : Shape = gap last (numbered_from 0 fonts) sheets in
      let s2 : Shape = begun (pos at1) (numbered_from 0 fonts) sheets zs in
      let s3 : Shape = begun (pos at1) all sheets zs in
      let few : length fonts + length more ≤ 256 = omega (arith, known_few full, ap length is, length-append fonts more) in
      let l1 : Leads at s0 o s1 = opening_leads lead on says_font_def at first last fonts sheets none in
      let l2 : Leads at1 s1 b s2 = bop_leads lead on says_font_def at1 last (numbered_from 0 fonts) sheets zs ten fit fits in
      let defs : Leads at2 s2 d (begun (pos at1) (numbered_from 0 (fonts ++ more)) sheets zs) = definitions_lead lead on says_font_def at2 (pos at1) fonts more sheets zs (length fonts) refl few sound has in
      let l3 : Leads at2 s2 d s3 = subst (λ (xs : List FontDef). Leads at2 s2 d (begun (pos at1) (numbered_from 0 xs) sheets zs)) (sym is) defs in
      let inside : all_inside all fresh (all_said start_hand ps) ≡ Ok (inside_of (all_after start_hand ps)) = all_said_inside join all start_hand ps there in
      let l4 = bodies (all_said start_hand ps) (gap (pos at1) all sheets) zs [] [] fresh (inside_of (all_after start_hand ps)) at3 body spelt inside in
      let s4 : Shape = paged (gap (pos at1) all sheets) zs (all_said start_hand ps) l4.0 (inside_of (all_after start_hand ps)) in
      let whole : Leads at s0 (o ++ (b ++ (d ++ body))) s4 =
      on at s0 s1 s4 o _ l1 (on at1 s1 s2 s4 b _ l2 (on at2 s2 s3 s4 d body l3 l4.1)) in
      let grouped : o ++ (b ++ (d ++ body)) ≡ ((o ++ b) ++ d) ++ body = sym (simp append_assoc) in
      (l4.0, subst (λ (t : List ℕ). Leads at s0 t s4) grouped whole)

  -- up to the end of a page that is written after those before it
  pub led_front : (k : Kept) (fonts full more : List FontDef) (b : BoxTree) (zs : List ℤ) (out : List ℕ) (turned : Bool) (pages : List Asked) (bytes : List ℕ)
      (page : IsPage k (length fonts) b zs (known full) out turned) → known full ≡ fonts ++ more → All IsSoundFont full → FontsAreBelow (length full) b → length zs ≡ 10 → (stood_for : StandsFor k fonts pages bytes)
      → (places : List ℕ) × Leads (length bytes) (stood (nat_eq k.pages 0) k.last fonts stood_for.sheets) (front_bytes k zs (length fonts) (known full) ++ page.body)
      (paged (gap (pos (page_place k)) (numbered_from 0 (known full)) stood_for.sheets) zs (all_said start_hand (page_placed b)) places (inside_of (all_after start_hand (page_placed b))))
  unfolding front_bytes
  led_front k fonts full more b zs out turned pages bytes page is sound below ten stood_for =
      let table : List FontDef = known full in
      let ps : List Placed = page_placed b in
      let first : Bool = nat_eq k.pages 0 in
      let o : List ℕ = if first then preamble_bytes else [] in
      let rest : drop (length fonts) table ≡ more = rest_is table fonts more is in
      let r_below = recursion_from_All (λ p. PieceMeets (IsBelow (length full)) p.piece) ps (fonts_below (length full) b (page_point b) below) in
      let sound_rest : All IsSoundFont more = subst (All IsSoundFont) rest (All-drop IsSoundFont (length fonts) table (known_sound full sound)) in
      let numbers : All HasNumbers more = subst (All HasNumbers) rest page.numbers in
      let none : first ≡ true → (k.last ≡ negsuc 0) × (fonts ≡ []) × (stood_for.sheets ≡ []) =
      λ e. (let zero_pages : k.pages ≡ 0 = is_first k.pages e in
      let f = stood_for.fresh zero_pages in
      (f.last, f.none, nothing_yet stood_for.sheets (stood_for.count ∙ zero_pages))) in
      let led = front_leads (length bytes) k.last first fonts more full stood_for.sheets zs ps page.body is none ten (recursion_from_All (FitsSigned w32) zs page.counts_fit) page.last_fits
      (recursion_from_All IsSoundFont more sound_rest) (recursion_from_All HasNumbers more numbers) page.spelt (all_there full ps page.sound r_below) in
      let place : length bytes + length o ≡ page_place k = ap (λ (n : ℕ). n + length o) stood_for.len ∙ ap (λ (n : ℕ). k.given + n) (opening_long first) in
      let s0 : Shape = stood first k.last fonts stood_for.sheets in
      let s4 : ℕ → Shape = λ n. paged (gap (pos n) (numbered_from 0 table) stood_for.sheets) zs (all_said start_hand ps) led.0 (inside_of (all_after start_hand ps)) in
      let front_is : (o ++ bop_bytes zs k.last ++ definitions_bytes (length fonts) more) ++ page.body ≡ (o ++ bop_bytes zs k.last ++ definitions_bytes (length fonts) (drop (length fonts) table)) ++ page.body =
      ap (λ (xs : List FontDef). (o ++ bop_bytes zs k.last ++ definitions_bytes (length fonts) xs) ++ page.body) (sym rest) in
      (led.0, subst (λ (n : ℕ). Leads (length bytes) s0 ((o ++ bop_bytes zs k.last ++ definitions_bytes (length fonts) (drop (length fonts) table)) ++ page.body) (s4 n)) place (subst (λ (t : List ℕ). Leads (length bytes) s0 t (s4 (length bytes + length o))) front_is led.1))

module _ (lead : CommandsLead) (on : BytesLeadOn) (says_font_def : SaysFontDef) (says_eop : SaysEop) (join : BodiesJoin) (bodies : BodiesLead)
    (nothing : NothingDrawn) (one : OneDrawn) (draw_on : CommandsDrawOn) (fonts_below : PlacedFontsAreBelow) (widths_given : PlacedWidthsAreGiven) where
  page_reads : (widths : Widths) (full : List FontDef) (zs : List ℤ) (b : BoxTree) (places : List ℕ) → AreSound (page_placed b) → all_fit (page_placed b) ≡ true
      → FontsAreBelow (length full) b → HasWidths widths (record { counts = zs; fonts = full; node = b })
      → page_of widths (sheet_of (numbered_from 0 (known full)) zs (page_placed b) places) ≡ Ok (page_asked (record { counts = zs; fonts = full; node = b }))
  unfolding sheet_of
  page_reads widths full zs b places sound fit below given =
      let all : List FontDef = numbered_from 0 (known full) in
      let ps : List Placed = page_placed b in
      let r_below = recursion_from_All (λ p. PieceMeets (IsBelow (length full)) p.piece) ps (fonts_below (length full) b (page_point b) below) in
      let r_given = recursion_from_All (λ p. PieceMeets (IsGiven (width_in widths full)) p.piece) ps (widths_given (width_in widths full) b (page_point b) given) in
      let drew = draws_all nothing one draw_on widths all full start_hand ps [] start_near fit sound (all_have widths full ps sound r_below r_given) in
      ap (page_from (record { counts = zs; body = all_said start_hand ps; places = places; fonts = all })) (drew.on 0)

  pub pages_join : PagesJoin
  unfolding sheet_of
  pages_join k fonts full more b zs out turned pages bytes page is sound below ten stood_for =
      let table : List FontDef = known full in
      let all : List FontDef = numbered_from 0 table in
      let ps : List Placed = page_placed b in
      let first : Bool = nat_eq k.pages 0 in
      let led = led_front lead on says_font_def join bodies fonts_below k fonts full more b zs out turned pages bytes page is sound below ten stood_for in
      let sheet : Sheet = record { counts = zs; body = all_said start_hand ps; places = led.0; fonts = all } in
      let asked : Asked = record { counts = zs; fonts = full; node = b } in
      let front : List ℕ = front_bytes k zs (length fonts) table ++ page.body in
      let after : Inside = inside_of (all_after start_hand ps) in
      let s0 : Shape = stood first k.last fonts stood_for.sheets in
      let s4 : Shape = paged (gap (pos (page_place k)) all stood_for.sheets) zs (all_said start_hand ps) led.0 after in
      let s5 : Shape = gap (pos (page_place k)) all (stood_for.sheets ++ sheet ∷ []) in
      let l5 : Leads (length bytes + length front) s4 (140 ∷ []) s5 =
      lead (length bytes + length front) s4 s5 (140 ∷ []) _ says_eop refl (closed (pos (page_place k)) all stood_for.sheets zs (all_said start_hand ps) led.0 after.chosen (length bytes + length front)) in
      let led_page : Leads (length bytes) s0 (front ++ 140 ∷ []) s5 = on (length bytes) s0 s4 s5 front (140 ∷ []) led.1 l5 in
      let led_out : Leads (length bytes) s0 out s5 = subst (λ (t : List ℕ). Leads (length bytes) s0 t s5) (sym page.is) led_page in
      let both : Leads 0 start (bytes ++ out) s5 = on 0 start s0 s5 bytes out stood_for.leads (subst (λ (n : ℕ). Leads n s0 out s5) (sym (zero-add (length bytes))) led_out) in
      let later : stood (nat_eq (k.pages + 1) 0) (pos (page_place k)) table (stood_for.sheets ++ sheet ∷ []) ≡ s5 = ap (λ (t : Bool). stood t (pos (page_place k)) table (stood_for.sheets ++ sheet ∷ [])) (not_first k.pages) in
      let turn_is : turned ≡ has_turn (all_said start_hand ps) = page.turn ∙ sym (all_turns start_hand ps) in
      record {
        sheets = stood_for.sheets ++ sheet ∷ [];
        len = length-append bytes out ∙ ap (λ (n : ℕ). n + length out) stood_for.len;
        count = omega (arith, length-append stood_for.sheets (sheet ∷ []), stood_for.count);
        asked = omega (arith, length-append pages (asked ∷ []), stood_for.asked);
        leads = rw later both;
        reads = λ widths given.
            let split = all_split (HasWidths widths) pages asked (recursion_from_All (HasWidths widths) (pages ++ asked ∷ []) given) in
            let read : page_of widths sheet ≡ Ok (page_asked asked) = page_reads widths full zs b led.0 page.sound page.fit below split.1 in
            pages_more widths stood_for.sheets sheet (map page_asked pages) (page_asked asked) (stood_for.reads widths (All-from_recursion (HasWidths widths) pages split.0)) read ∙ ap (λ (qs : List DviPage). Ok qs) (sym (map-snoc page_asked pages asked));
        turned = ap (λ (t : Bool). t || turned) stood_for.turned ∙ ap (λ (t : Bool). have_turn stood_for.sheets || t) turn_is ∙ sym (turns_more stood_for.sheets sheet);
        fresh = λ e. absurd (omega (arith, e));
      }
