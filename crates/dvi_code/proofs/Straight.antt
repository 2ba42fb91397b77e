-- Pages that are read straight on are those of the structure.
use Rattle.std.proofs.Common.{◌≡◌, ℕ, zero, suc, ◌+◌, ◌-◌, List, [], ◌∷◌, ◌++◌, length, Result, Ok, Err, Option, Some, None, refl, sym, ap, subst, ◌∙◌, append_assoc, ℤ, pos, Bool, true, false, cond, add-one}
use Rattle.std.specs.Prelude.{nat_le, nat_eq, ◌&&◌, ◌%◌}
use Rattle.std.specs.Ordering.{int_eq}
use Rattle.std.proofs.lemmas.List.{append-nil}
use Rattle.ts_base.specs.Agreement.{◌>>=◌}
use Rattle.dvi_commands.specs.declared.fault.DviKind.{DviKind}
use Rattle.dvi_commands.specs.declared.fault.DviKind.TheVariants as kinds
use Rattle.dvi_commands.specs.declared.fault.DviBad.{DviBad}
use Rattle.dvi_commands.specs.declared.font.FontDef.{FontDef}
use Rattle.dvi_code.specs.declared.page.DviPage.{DviPage}
use Rattle.dvi_commands.specs.Commands as c
use Rattle.dvi_commands.specs.Fields.{Field}
use Rattle.dvi_commands.specs.Commands.{Command, command, font_defined}
use Rattle.dvi_structure.specs.Places.{Item, Placed, said, bad, fill, is_last, placed, placed_first}
use Rattle.dvi_structure.specs.Structure as parts
use Rattle.dvi_structure.specs.Structure.{Inside, Shape, Sheet, Phase, font_of, inside, selected, closed, obeyed, at_start, at_gap, in_page, at_back, defined, defined_beside, placed_at, next_shape, walk, walked_on, walked, Walked, fault_at, answer, structure, start, file_fonts}
use Rattle.dvi_code.specs.Pages.{Widths, Pen, clean, drawn, counted, all_drawn, page_from, pages_of, file_pages}
use Rattle.dvi_code.specs.Straight.{Reader, reader, start_reader, read_on, page_ended, ends_pages, pages_on}
use Rattle.dvi_code.proofs.Steps.{bound}

-- ---- definitions that are there stay

pub font_stays : (fonts more : List FontDef) (n : ℤ) (f : FontDef) → font_of fonts n ≡ Some f → font_of (fonts ++ more) n ≡ Some f
font_stays [] more n f e = absurd cc
font_stays (g ∷ gs) more n f e = by_number (int_eq g.number n) e (λ h. font_stays gs more n f h)
  where
    by_number : (b : Bool) → cond b (Some g) (font_of gs n) ≡ Some f → (font_of gs n ≡ Some f → font_of (gs ++ more) n ≡ Some f) → cond b (Some g) (font_of (gs ++ more) n) ≡ Some f
    by_number true e h = e
    by_number false e h = h e

-- what a definition adds
beside_adds : (r : Option FontDef) (fonts after : List FontDef) (f : FontDef) → defined_beside r fonts f ≡ Ok after → (more : List FontDef) × (after ≡ fonts ++ more)
beside_adds None fonts after f e = by_sound (parts.is_sound_font f) e
  where
    by_sound : (b : Bool) → cond b (Ok (fonts ++ f ∷ [])) (Err kinds.FontDef) ≡ Ok after → (more : List FontDef) × (after ≡ fonts ++ more)
    by_sound true e = (f ∷ [], cc)
    by_sound false e = absurd cc
beside_adds (Some g) fonts after f e = by_same (parts.is_same_font f g) e
  where
    by_same : (b : Bool) → cond b (Ok fonts) (Err kinds.FontDef) ≡ Ok after → (more : List FontDef) × (after ≡ fonts ++ more)
    by_same true e = ([], let same : after ≡ fonts = cc in same ∙ sym (append-nil fonts))
    by_same false e = absurd cc

pub defined_adds : (fonts after : List FontDef) (f : FontDef) → defined fonts f ≡ Ok after → (more : List FontDef) × (after ≡ fonts ++ more)
defined_adds fonts after f e = beside_adds (font_of fonts f.number) fonts after f e

-- a command that is right in a page draws alike whatever is defined later
selected_there : (i j : Inside) (r : Option FontDef) → selected i r ≡ Ok j → (f : FontDef) × (r ≡ Some f)
selected_there i j None e = absurd cc
selected_there i j (Some f) e = (f, refl)

drawn_alike : (widths : Widths) (fonts a b : List FontDef) (i j : Inside) (p : Pen) (cmd : Command) → inside fonts i cmd ≡ Ok j → drawn widths (fonts ++ a) p cmd ≡ drawn widths (fonts ++ b) p cmd
unfolding inside drawn
drawn_alike widths fonts a b i j p (c.font n) e =
    let r = selected_there i j (font_of fonts n) e in
    rw (font_stays fonts a n r.0 r.1, font_stays fonts b n r.0 r.1) refl
drawn_alike widths fonts a b i j p _ e = refl

-- ---- a page from the middle on

abbrev rest_of : Widths → List FontDef → List ℤ → Pen → List Command → List ℕ → Result DviPage DviBad
rest_of widths fonts counts p cmds places = page_from (record { counts = counts; body = cmds; places = places; fonts = fonts }) (all_drawn widths fonts 0 p cmds)

abbrev later : Result Pen (ℕ × DviKind) → Result Pen (ℕ × DviKind)
later (Ok p) = Ok p
later (Err fault) = Err (fault.0 + 1, fault.1)

shifted : (widths : Widths) (fonts : List FontDef) (k : ℕ) (p : Pen) (cmds : List Command) → all_drawn widths fonts (k + 1) p cmds ≡ later (all_drawn widths fonts k p cmds)
unfolding all_drawn
shifted widths fonts k p [] = refl
shifted widths fonts k p (cmd ∷ cmds) = by_first (drawn widths fonts p cmd) (λ q. shifted widths fonts (k + 1) q cmds)
  where
    by_first : (r : Result Pen DviKind) → ((q : Pen) → all_drawn widths fonts (k + 1 + 1) q cmds ≡ later (all_drawn widths fonts (k + 1) q cmds))
        → (counted (k + 1) r >>= λ q. all_drawn widths fonts (k + 1 + 1) q cmds) ≡ later (counted k r >>= λ q. all_drawn widths fonts (k + 1) q cmds)
    by_first (Ok q) h = h q
    by_first (Err kind) h = refl

from_later : (counts : List ℤ) (at : ℕ) (places : List ℕ) (body other : List Command) (fonts : List FontDef) (r : Result Pen (ℕ × DviKind))
    → page_from (record { counts = counts; body = body; places = at ∷ places; fonts = fonts }) (later r) ≡ page_from (record { counts = counts; body = other; places = places; fonts = fonts }) r
from_later counts at places body other fonts (Ok p) = refl
from_later counts at places body other fonts (Err fault) = rw add-one refl

rest_steps : (widths : Widths) (fonts : List FontDef) (counts : List ℤ) (p : Pen) (cmd : Command) (cmds : List Command) (at : ℕ) (places : List ℕ)
    → rest_of widths fonts counts p (cmd ∷ cmds) (at ∷ places) ≡ (placed_at at (drawn widths fonts p cmd) >>= λ q. rest_of widths fonts counts q cmds places)
unfolding all_drawn
rest_steps widths fonts counts p cmd cmds at places = by_first (drawn widths fonts p cmd)
  where
    by_first : (r : Result Pen DviKind) → page_from (record { counts = counts; body = cmd ∷ cmds; places = at ∷ places; fonts = fonts }) (counted 0 r >>= λ q. all_drawn widths fonts (0 + 1) q cmds)
        ≡ (placed_at at r >>= λ q. rest_of widths fonts counts q cmds places)
    by_first (Ok q) = ap (page_from (record { counts = counts; body = cmd ∷ cmds; places = at ∷ places; fonts = fonts })) (shifted widths fonts 0 q cmds) ∙ from_later counts at places (cmd ∷ cmds) cmds fonts (all_drawn widths fonts 0 q cmds)
    by_first (Err kind) = refl

-- ---- what follows a place of the walk, where the structure is right in the end

abbrev shape : ℤ → List FontDef → List Sheet → Phase → Shape
shape last fonts sheets phase = record { last = last; fonts = fonts; sheets = sheets; phase = phase }

record Between (widths : Widths) (t : Shape) (sheets : List Sheet) (ps : List Placed) : Type 0 where
  more : List Sheet
  sheets_are : t.sheets ≡ sheets ++ more
  reads : (r : Reader) → pages_on widths t.fonts r ps ≡ pages_of widths more

abbrev joined : Widths → Result DviPage DviBad → List Sheet → Result (List DviPage) DviBad
joined widths page others = page >>= λ first. pages_of widths others >>= λ pages. Ok (first ∷ pages)

record Within (widths : Widths) (t : Shape) (fonts : List FontDef) (sheets : List Sheet) (ps : List Placed) (counts : List ℤ) (body : List Command) (places : List ℕ) : Type 0 where
  rest : List Command
  rest_places : List ℕ
  later_fonts : List FontDef
  others : List Sheet
  sheets_are : t.sheets ≡ sheets ++ record { counts = counts; body = body ++ rest; places = places ++ rest_places; fonts = fonts ++ later_fonts } ∷ others
  reads : (p : Pen) → pages_on widths t.fonts (reader counts p) ps ≡ joined widths (rest_of widths (fonts ++ later_fonts) counts p rest rest_places) others

record Same (t : Shape) (sheets : List Sheet) : Type 0 where
  sheets_are : t.sheets ≡ sheets

abbrev PagesAfter : Widths → Shape → List FontDef → List Sheet → List Placed → Phase → Type 0
PagesAfter widths t fonts sheets ps parts.ahead = Between widths t sheets ps
PagesAfter widths t fonts sheets ps parts.between = Between widths t sheets ps
PagesAfter widths t fonts sheets ps (parts.within counts body places i) = Within widths t fonts sheets ps counts body places
PagesAfter widths t fonts sheets ps (parts.after_post post) = Same t sheets
PagesAfter widths t fonts sheets ps parts.ended = Same t sheets

record Follows (widths : Widths) (t s : Shape) (ps : List Placed) : Type 0 where
  added : List FontDef
  fonts_are : t.fonts ≡ s.fonts ++ added
  pages : PagesAfter widths t s.fonts s.sheets ps s.phase

abbrev said_at : ℕ → Command → List Placed → List Placed
said_at at cmd ps = record { at = at; item = said cmd } ∷ ps

as_is : {A E : Type 0} (r : Result A E) → (r >>= λ x. Ok x) ≡ r
as_is (Ok x) = refl
as_is (Err e) = refl

if_ok : {A E : Type 0} (b : Bool) (x y : A) (e : E) → cond b (Ok x) (Err e) ≡ Ok y → x ≡ y
if_ok true x y e h = cc
if_ok false x y e h = absurd cc

if_two : {A E : Type 0} (b d : Bool) (x y : A) (e f : E) → cond b (cond d (Ok x) (Err f)) (Err e) ≡ Ok y → x ≡ y
if_two true d x y e f h = if_ok d x y f h
if_two false d x y e f h = absurd cc

-- a command that neither draws nor ends a page
idle : (widths : Widths) (t : Shape) (r q : Reader) (at : ℕ) (cmd : Command) (ps : List Placed) → ends_pages cmd ≡ false → read_on widths t.fonts r cmd ≡ Ok q → page_ended r cmd ≡ [] → pages_on widths t.fonts r (said_at at cmd ps) ≡ pages_on widths t.fonts q ps
unfolding pages_on
idle widths t r q at cmd ps end reads page = rw (end, reads, page) (as_is (pages_on widths t.fonts q ps))

-- fonts with one that is defined
with_more : (widths : Widths) (t : Shape) (last : ℤ) (fonts : List FontDef) (sheets : List Sheet) (phase : Phase) (u : Shape) (r : Result (List FontDef) DviKind) → (r >>= λ fs. Ok (shape last fs sheets phase)) ≡ Ok u
    → (fs : List FontDef) × (r ≡ Ok fs) × (shape last fs sheets phase ≡ u)
with_more widths t last fonts sheets phase u (Ok fs) e = (fs, refl, cc)
with_more widths t last fonts sheets phase u (Err k) e = absurd cc

defines_between : (widths : Widths) (t : Shape) (last : ℤ) (fonts : List FontDef) (sheets : List Sheet) (u : Shape) (at : ℕ) (d : c.Definition) (ps : List Placed)
    → (defined fonts (font_defined d) >>= λ fs. Ok (shape last fs sheets parts.between)) ≡ Ok u → Follows widths t u ps → Follows widths t (shape last fonts sheets parts.between) (said_at at (c.font_def d) ps)
unfolding read_on
defines_between widths t last fonts sheets u at d ps e f =
    let w = with_more widths t last fonts sheets parts.between u (defined fonts (font_defined d)) e in
    let more = defined_adds fonts w.0 (font_defined d) w.1 in
    let g : Follows widths t (shape last w.0 sheets parts.between) ps = subst (λ (x : Shape). Follows widths t x ps) (sym w.2) f in
    record {
      added = more.0 ++ g.added;
      fonts_are = g.fonts_are ∙ ap (λ (x : List FontDef). x ++ g.added) more.1 ∙ append_assoc fonts more.0 g.added;
      pages = record { more = g.pages.more; sheets_are = g.pages.sheets_are; reads = λ r. idle widths t r r at (c.font_def d) ps refl refl refl ∙ g.pages.reads r };
    }

defines_within : (widths : Widths) (t : Shape) (last : ℤ) (fonts : List FontDef) (sheets : List Sheet) (counts : List ℤ) (body : List Command) (places : List ℕ) (i : Inside) (u : Shape) (at : ℕ) (d : c.Definition) (ps : List Placed)
    → (defined fonts (font_defined d) >>= λ fs. Ok (shape last fs sheets (parts.within counts body places i))) ≡ Ok u → Follows widths t u ps → Follows widths t (shape last fonts sheets (parts.within counts body places i)) (said_at at (c.font_def d) ps)
unfolding read_on
defines_within widths t last fonts sheets counts body places i u at d ps e f =
    let w = with_more widths t last fonts sheets (parts.within counts body places i) u (defined fonts (font_defined d)) e in
    let more = defined_adds fonts w.0 (font_defined d) w.1 in
    let g : Follows widths t (shape last w.0 sheets (parts.within counts body places i)) ps = subst (λ (x : Shape). Follows widths t x ps) (sym w.2) f in
    let p = g.pages in
    let all : w.0 ++ p.later_fonts ≡ fonts ++ (more.0 ++ p.later_fonts) = ap (λ (x : List FontDef). x ++ p.later_fonts) more.1 ∙ append_assoc fonts more.0 p.later_fonts in
    record {
      added = more.0 ++ g.added;
      fonts_are = g.fonts_are ∙ ap (λ (x : List FontDef). x ++ g.added) more.1 ∙ append_assoc fonts more.0 g.added;
      pages = record {
        rest = p.rest;
        rest_places = p.rest_places;
        later_fonts = more.0 ++ p.later_fonts;
        others = p.others;
        sheets_are = p.sheets_are ∙ ap (λ (x : List FontDef). sheets ++ record { counts = counts; body = body ++ p.rest; places = places ++ p.rest_places; fonts = x } ∷ p.others) all;
        reads = λ pen. idle widths t (reader counts pen) (reader counts pen) at (c.font_def d) ps refl refl refl ∙ p.reads pen ∙ ap (λ (x : List FontDef). joined widths (rest_of widths x counts pen p.rest p.rest_places) p.others) all;
      };
    }

defines_after_post : (widths : Widths) (t : Shape) (last : ℤ) (fonts : List FontDef) (sheets : List Sheet) (post : ℕ) (u : Shape) (at : ℕ) (d : c.Definition) (ps : List Placed)
    → (defined fonts (font_defined d) >>= λ fs. Ok (shape last fs sheets (parts.after_post post))) ≡ Ok u → Follows widths t u ps → Follows widths t (shape last fonts sheets (parts.after_post post)) (said_at at (c.font_def d) ps)
defines_after_post widths t last fonts sheets post u at d ps e f =
    let w = with_more widths t last fonts sheets (parts.after_post post) u (defined fonts (font_defined d)) e in
    let more = defined_adds fonts w.0 (font_defined d) w.1 in
    let g : Follows widths t (shape last w.0 sheets (parts.after_post post)) ps = subst (λ (x : Shape). Follows widths t x ps) (sym w.2) f in
    record {
      added = more.0 ++ g.added;
      fonts_are = g.fonts_are ∙ ap (λ (x : List FontDef). x ++ g.added) more.1 ∙ append_assoc fonts more.0 g.added;
      pages = record { sheets_are = g.pages.sheets_are };
    }

begins : (widths : Widths) (t : Shape) (last : ℤ) (fonts : List FontDef) (sheets : List Sheet) (at : ℕ) (counts : List ℤ) (back : ℤ) (ps : List Placed)
    → Follows widths t (shape (pos at) fonts sheets (parts.within counts [] [] parts.fresh)) ps → Follows widths t (shape last fonts sheets parts.between) (said_at at (c.bop counts back) ps)
unfolding read_on pages_of
begins widths t last fonts sheets at counts back ps f =
    let p = f.pages in
    record {
      added = f.added;
      fonts_are = f.fonts_are;
      pages = record {
        more = record { counts = counts; body = p.rest; places = p.rest_places; fonts = fonts ++ p.later_fonts } ∷ p.others;
        sheets_are = p.sheets_are;
        reads = λ r. idle widths t r (reader counts clean) at (c.bop counts back) ps refl refl refl ∙ p.reads clean;
      };
    }

posts : (widths : Widths) (t : Shape) (last : ℤ) (fonts : List FontDef) (sheets : List Sheet) (at post : ℕ) (a : c.Postamble) (ps : List Placed)
    → Follows widths t (shape last fonts sheets (parts.after_post post)) ps → Follows widths t (shape last fonts sheets parts.between) (said_at at (c.post a) ps)
unfolding pages_on pages_of
posts widths t last fonts sheets at post a ps f =
    record { added = f.added; fonts_are = f.fonts_are; pages = record { more = []; sheets_are = f.pages.sheets_are ∙ sym (append-nil sheets); reads = λ r. refl } }

gap_follows : (widths : Widths) (t : Shape) (last : ℤ) (fonts : List FontDef) (sheets : List Sheet) (u : Shape) (at : ℕ) (cmd : Command) (ps : List Placed)
    → at_gap (shape last fonts sheets parts.between) at cmd ≡ Ok u → Follows widths t u ps → Follows widths t (shape last fonts sheets parts.between) (said_at at cmd ps)
unfolding at_gap read_on drawn
gap_follows widths t last fonts sheets u at (c.font_def d) ps e f = defines_between widths t last fonts sheets u at d ps e f
gap_follows widths t last fonts sheets u at c.nop ps e f =
    let same : shape last fonts sheets parts.between ≡ u = cc in
    let g : Follows widths t (shape last fonts sheets parts.between) ps = subst (λ (x : Shape). Follows widths t x ps) (sym same) f in
    record { added = g.added; fonts_are = g.fonts_are; pages = record { more = g.pages.more; sheets_are = g.pages.sheets_are; reads = λ r. idle widths t r r at c.nop ps refl refl refl ∙ g.pages.reads r } }
gap_follows widths t last fonts sheets u at (c.bop counts back) ps e f =
    begins widths t last fonts sheets at counts back ps (subst (λ (x : Shape). Follows widths t x ps) (sym (if_ok (int_eq back last) _ u _ e)) f)
gap_follows widths t last fonts sheets u at (c.post a) ps e f =
    posts widths t last fonts sheets at at a ps (subst (λ (x : Shape). Follows widths t x ps) (sym (if_two (int_eq a.back last) _ _ u _ _ e)) f)
gap_follows widths t last fonts sheets u at _ ps e f = absurd cc

start_follows : (widths : Widths) (t : Shape) (last : ℤ) (fonts : List FontDef) (sheets : List Sheet) (u : Shape) (at : ℕ) (cmd : Command) (ps : List Placed)
    → at_start (shape last fonts sheets parts.ahead) cmd ≡ Ok u → Follows widths t u ps → Follows widths t (shape last fonts sheets parts.ahead) (said_at at cmd ps)
unfolding at_start read_on
start_follows widths t last fonts sheets u at (c.pre p) ps e f =
    let g : Follows widths t (shape last fonts sheets parts.between) ps = subst (λ (x : Shape). Follows widths t x ps) (sym (if_ok (parts.has_units p) _ u _ e)) f in
    record { added = g.added; fonts_are = g.fonts_are; pages = record { more = g.pages.more; sheets_are = g.pages.sheets_are; reads = λ r. idle widths t r r at (c.pre p) ps refl refl refl ∙ g.pages.reads r } }
start_follows widths t last fonts sheets u at _ ps e f = absurd cc

back_follows : (widths : Widths) (t : Shape) (last : ℤ) (fonts : List FontDef) (sheets : List Sheet) (post : ℕ) (u : Shape) (at : ℕ) (cmd : Command) (ps : List Placed)
    → at_back (shape last fonts sheets (parts.after_post post)) post cmd ≡ Ok u → Follows widths t u ps → Follows widths t (shape last fonts sheets (parts.after_post post)) (said_at at cmd ps)
unfolding at_back
back_follows widths t last fonts sheets post u at (c.font_def d) ps e f = defines_after_post widths t last fonts sheets post u at d ps e f
back_follows widths t last fonts sheets post u at c.nop ps e f =
    let same : shape last fonts sheets (parts.after_post post) ≡ u = cc in
    let g : Follows widths t (shape last fonts sheets (parts.after_post post)) ps = subst (λ (x : Shape). Follows widths t x ps) (sym same) f in
    record { added = g.added; fonts_are = g.fonts_are; pages = record { sheets_are = g.pages.sheets_are } }
back_follows widths t last fonts sheets post u at (c.post_post pointer id) ps e f =
    let g : Follows widths t (shape last fonts sheets parts.ended) ps = subst (λ (x : Shape). Follows widths t x ps) (sym (if_two (int_eq pointer (pos post)) _ _ u _ _ e)) f in
    record { added = g.added; fonts_are = g.fonts_are; pages = record { sheets_are = g.pages.sheets_are } }
back_follows widths t last fonts sheets post u at _ ps e f = absurd cc

-- ---- within a page

drawn_on : (widths : Widths) (fonts : List FontDef) (counts : List ℤ) (at : ℕ) (r : Result Pen DviKind) (others : Reader → Result (List DviPage) DviBad)
    → (placed_at at (r >>= λ pen. Ok (reader counts pen)) >>= λ q. others q >>= λ pages. Ok pages) ≡ (placed_at at r >>= λ pen. others (reader counts pen))
drawn_on widths fonts counts at (Ok pen) others = as_is (others (reader counts pen))
drawn_on widths fonts counts at (Err k) others = refl

body_reads : (widths : Widths) (known fonts : List FontDef) (i j : Inside) (counts : List ℤ) (p : Pen) (at : ℕ) (cmd : Command) (ps : List Placed) → inside known i cmd ≡ Ok j
    → pages_on widths fonts (reader counts p) (said_at at cmd ps) ≡ (placed_at at (drawn widths fonts p cmd) >>= λ pen. pages_on widths fonts (reader counts pen) ps)
unfolding inside read_on pages_on
body_reads widths known fonts i j counts p at (c.bop cs b) ps e = absurd cc
body_reads widths known fonts i j counts p at c.eop ps e = absurd cc
body_reads widths known fonts i j counts p at (c.font_def d) ps e = absurd cc
body_reads widths known fonts i j counts p at (c.pre a) ps e = absurd cc
body_reads widths known fonts i j counts p at (c.post a) ps e = absurd cc
body_reads widths known fonts i j counts p at (c.post_post a id) ps e = absurd cc
body_reads widths known fonts i j counts p at cmd ps e = drawn_on widths fonts counts at (drawn widths fonts p cmd) (λ q. pages_on widths fonts q ps)

joined_after : {A : Type 0} (widths : Widths) (r : Result A DviBad) (g : A → Result DviPage DviBad) (others : List Sheet) → joined widths (r >>= g) others ≡ (r >>= λ x. joined widths (g x) others)
joined_after widths (Ok x) g others = refl
joined_after widths (Err b) g others = refl

bind_alike : {A B E : Type 0} (r : Result A E) (f g : A → Result B E) → ((x : A) → f x ≡ g x) → (r >>= f) ≡ (r >>= g)
bind_alike (Ok x) f g h = h x
bind_alike (Err e) f g h = refl

body_follows : (widths : Widths) (t : Shape) (last : ℤ) (fonts : List FontDef) (sheets : List Sheet) (counts : List ℤ) (body : List Command) (places : List ℕ) (i j : Inside) (at : ℕ) (cmd : Command) (ps : List Placed)
    → inside fonts i cmd ≡ Ok j → Follows widths t (shape last fonts sheets (parts.within counts (body ++ cmd ∷ []) (places ++ at ∷ []) j)) ps → Follows widths t (shape last fonts sheets (parts.within counts body places i)) (said_at at cmd ps)
body_follows widths t last fonts sheets counts body places i j at cmd ps e f =
    let p = f.pages in
    let one : (body ++ cmd ∷ []) ++ p.rest ≡ body ++ cmd ∷ p.rest = append_assoc body (cmd ∷ []) p.rest in
    let two : (places ++ at ∷ []) ++ p.rest_places ≡ places ++ at ∷ p.rest_places = append_assoc places (at ∷ []) p.rest_places in
    let own : List FontDef = fonts ++ p.later_fonts in
    record {
      added = f.added;
      fonts_are = f.fonts_are;
      pages = record {
        rest = cmd ∷ p.rest;
        rest_places = at ∷ p.rest_places;
        later_fonts = p.later_fonts;
        others = p.others;
        sheets_are = p.sheets_are ∙ ap (λ (b : List Command). sheets ++ record { counts = counts; body = b; places = (places ++ at ∷ []) ++ p.rest_places; fonts = own } ∷ p.others) one
            ∙ ap (λ (l : List ℕ). sheets ++ record { counts = counts; body = body ++ cmd ∷ p.rest; places = l; fonts = own } ∷ p.others) two;
        reads = λ pen.
            let alike : drawn widths t.fonts pen cmd ≡ drawn widths own pen cmd = ap (λ (fs : List FontDef). drawn widths fs pen cmd) f.fonts_are ∙ drawn_alike widths fonts f.added p.later_fonts i j pen cmd e in
            body_reads widths fonts t.fonts i j counts pen at cmd ps e
            ∙ ap (λ (r : Result Pen DviKind). placed_at at r >>= λ q. pages_on widths t.fonts (reader counts q) ps) alike
            ∙ bind_alike (placed_at at (drawn widths own pen cmd)) (λ q. pages_on widths t.fonts (reader counts q) ps) (λ q. joined widths (rest_of widths own counts q p.rest p.rest_places) p.others) p.reads
            ∙ sym (joined_after widths (placed_at at (drawn widths own pen cmd)) (λ q. rest_of widths own counts q p.rest p.rest_places) p.others)
            ∙ ap (λ (r : Result DviPage DviBad). joined widths r p.others) (sym (rest_steps widths own counts pen cmd p.rest at p.rest_places));
      };
    }

page_reads : (widths : Widths) (fonts : List FontDef) (counts : List ℤ) (p : Pen) (at : ℕ) (ps : List Placed) → pages_on widths fonts (reader counts p) (said_at at c.eop ps) ≡ (pages_on widths fonts (reader counts clean) ps >>= λ pages. Ok (record { counts = counts; marks = p.marks } ∷ pages))
unfolding read_on pages_on
page_reads widths fonts counts p at ps = refl

page_follows : (widths : Widths) (t : Shape) (last : ℤ) (fonts : List FontDef) (sheets : List Sheet) (counts : List ℤ) (body : List Command) (places : List ℕ) (i : Inside) (depth : ℕ) (u : Shape) (at : ℕ) (ps : List Placed)
    → closed (shape last fonts sheets (parts.within counts body places i)) (record { counts = counts; body = body; places = places; fonts = fonts }) depth ≡ Ok u → Follows widths t u ps
    → Follows widths t (shape last fonts sheets (parts.within counts body places i)) (said_at at c.eop ps)
unfolding all_drawn
page_follows widths t last fonts sheets counts body places i (suc depth) u at ps e f = absurd cc
page_follows widths t last fonts sheets counts body places i zero u at ps e f =
    let own : Sheet = record { counts = counts; body = body; places = places; fonts = fonts } in
    let same : shape last fonts (sheets ++ own ∷ []) parts.between ≡ u = cc in
    let g : Follows widths t (shape last fonts (sheets ++ own ∷ []) parts.between) ps = subst (λ (x : Shape). Follows widths t x ps) (sym same) f in
    let p = g.pages in
    let one = append-nil body in
    let two = append-nil places in
    let three = append-nil fonts in
    record {
      added = g.added;
      fonts_are = g.fonts_are;
      pages = record {
        rest = [];
        rest_places = [];
        later_fonts = [];
        others = p.more;
        sheets_are = p.sheets_are ∙ append_assoc sheets (own ∷ []) p.more ∙ rw (one, two, three) refl;
        reads = λ pen. page_reads widths t.fonts counts pen at ps ∙ ap (λ (r : Result (List DviPage) DviBad). r >>= λ pages. Ok (record { counts = counts; marks = pen.marks } ∷ pages)) (p.reads (reader counts clean));
      };
    }

within_follows : (widths : Widths) (t : Shape) (last : ℤ) (fonts : List FontDef) (sheets : List Sheet) (counts : List ℤ) (body : List Command) (places : List ℕ) (i : Inside) (u : Shape) (at : ℕ) (cmd : Command) (ps : List Placed)
    → in_page (shape last fonts sheets (parts.within counts body places i)) counts body places i at cmd ≡ Ok u → Follows widths t u ps → Follows widths t (shape last fonts sheets (parts.within counts body places i)) (said_at at cmd ps)
unfolding in_page
within_follows widths t last fonts sheets counts body places i u at (c.font_def d) ps e f = defines_within widths t last fonts sheets counts body places i u at d ps e f
within_follows widths t last fonts sheets counts body places i u at c.eop ps e f = page_follows widths t last fonts sheets counts body places i i.depth u at ps e f
within_follows widths t last fonts sheets counts body places i u at cmd ps e f =
    let m = bound (inside fonts i cmd) (λ j. Ok (shape last fonts sheets (parts.within counts (body ++ cmd ∷ []) (places ++ at ∷ []) j))) u e in
    let same : shape last fonts sheets (parts.within counts (body ++ cmd ∷ []) (places ++ at ∷ []) m.0) ≡ u = cc in
    body_follows widths t last fonts sheets counts body places i m.0 at cmd ps m.1 (subst (λ (x : Shape). Follows widths t x ps) (sym same) f)

-- ---- the walk

step_follows : (widths : Widths) (t : Shape) (last : ℤ) (fonts : List FontDef) (sheets : List Sheet) (phase : Phase) (u : Shape) (at : ℕ) (cmd : Command) (ps : List Placed)
    → obeyed (shape last fonts sheets phase) phase at cmd ≡ Ok u → Follows widths t u ps → Follows widths t (shape last fonts sheets phase) (said_at at cmd ps)
step_follows widths t last fonts sheets parts.ahead u at cmd ps e f = start_follows widths t last fonts sheets u at cmd ps e f
step_follows widths t last fonts sheets parts.between u at cmd ps e f = gap_follows widths t last fonts sheets u at cmd ps e f
step_follows widths t last fonts sheets (parts.within counts body places i) u at cmd ps e f = within_follows widths t last fonts sheets counts body places i u at cmd ps e f
step_follows widths t last fonts sheets (parts.after_post post) u at cmd ps e f = back_follows widths t last fonts sheets post u at cmd ps e f
step_follows widths t last fonts sheets parts.ended u at cmd ps e f = absurd cc

fill_reads : (widths : Widths) (fonts : List FontDef) (r : Reader) (at : ℕ) (bytes : List ℕ) (ps : List Placed) → pages_on widths fonts r (record { at = at; item = fill bytes } ∷ ps) ≡ pages_on widths fonts r ps
unfolding pages_on
fill_reads widths fonts r at bytes ps = refl

fill_follows : (widths : Widths) (t : Shape) (last : ℤ) (fonts : List FontDef) (sheets : List Sheet) (phase : Phase) (at : ℕ) (bytes : List ℕ) (ps : List Placed)
    → Follows widths t (shape last fonts sheets phase) ps → Follows widths t (shape last fonts sheets phase) (record { at = at; item = fill bytes } ∷ ps)
fill_follows widths t last fonts sheets parts.ahead at bytes ps f =
    record { added = f.added; fonts_are = f.fonts_are; pages = record { more = f.pages.more; sheets_are = f.pages.sheets_are; reads = λ r. fill_reads widths t.fonts r at bytes ps ∙ f.pages.reads r } }
fill_follows widths t last fonts sheets parts.between at bytes ps f =
    record { added = f.added; fonts_are = f.fonts_are; pages = record { more = f.pages.more; sheets_are = f.pages.sheets_are; reads = λ r. fill_reads widths t.fonts r at bytes ps ∙ f.pages.reads r } }
fill_follows widths t last fonts sheets (parts.within counts body places i) at bytes ps f =
    let p = f.pages in
    record {
      added = f.added;
      fonts_are = f.fonts_are;
      pages = record { rest = p.rest; rest_places = p.rest_places; later_fonts = p.later_fonts; others = p.others; sheets_are = p.sheets_are; reads = λ pen. fill_reads widths t.fonts (reader counts pen) at bytes ps ∙ p.reads pen };
    }
fill_follows widths t last fonts sheets (parts.after_post post) at bytes ps f = record { added = f.added; fonts_are = f.fonts_are; pages = f.pages }
fill_follows widths t last fonts sheets parts.ended at bytes ps f = record { added = f.added; fonts_are = f.fonts_are; pages = f.pages }

pub filled_same : {A : Type 0} (x y : A) (at count : ℕ) (bytes : List ℕ) → parts.filled x at count bytes ≡ Ok y → x ≡ y
unfolding parts.filled
filled_same x y at count [] e = if_ok (nat_le 4 count && nat_eq (at % 4) 0) x y _ e
filled_same x y at count (b ∷ bs) e = by_byte (nat_eq b 223) e (λ h. filled_same x y (at + 1) (count + 1) bs h)
  where
    by_byte : (d : Bool) → cond d (parts.filled x (at + 1) (count + 1) bs) (Err (fault_at at kinds.Postamble)) ≡ Ok y → (parts.filled x (at + 1) (count + 1) bs ≡ Ok y → x ≡ y) → x ≡ y
    by_byte true e h = h e
    by_byte false e h = absurd cc

abbrev done : Shape → Walked
done t = record { shape = t; fault = None }

never : (s t : Shape) (b : DviBad) → record { shape = s; fault = Some b } ≡ done t → ⊥
never s t b e = none_is (Some b) (ap (λ (w : Walked). w.fault) e) b refl
  where
    none_is : (f : Option DviBad) → f ≡ None → (b : DviBad) → f ≡ Some b → ⊥
    none_is None e b h = cc
    none_is (Some d) e b h = cc

went_on : (s t : Shape) (go : Shape → Walked) (r : Result Shape DviBad) → walked_on s go r ≡ done t → (u : Shape) × (r ≡ Ok u) × (go u ≡ done t)
went_on s t go (Ok u) e = (u, refl, e)
went_on s t go (Err b) e = absurd (never s t b e)

placed_ok : {A : Type 0} (at : ℕ) (r : Result A DviKind) (u : A) → placed_at at r ≡ Ok u → r ≡ Ok u
placed_ok at (Ok x) u e = cc
placed_ok at (Err k) u e = absurd cc

at_end : (widths : Widths) (last : ℤ) (fonts : List FontDef) (sheets : List Sheet) (phase : Phase) → phase ≡ parts.ended → Follows widths (shape last fonts sheets phase) (shape last fonts sheets phase) []
at_end widths last fonts sheets parts.ahead e = absurd cc
at_end widths last fonts sheets parts.between e = absurd cc
at_end widths last fonts sheets (parts.within counts body places i) e = absurd cc
at_end widths last fonts sheets (parts.after_post post) e = absurd cc
at_end widths last fonts sheets parts.ended e = record { added = []; fonts_are = sym (append-nil fonts); pages = record { sheets_are = refl } }

follows : (widths : Widths) (t : Shape) → t.phase ≡ parts.ended → (ps : List Placed) (s : Shape) → walk s ps ≡ done t → Follows widths t s ps
unfolding walk
follows widths t over [] s e =
    let same : s ≡ t = ap (λ (w : Walked). w.shape) e in
    subst (λ (x : Shape). Follows widths x s []) same (at_end widths s.last s.fonts s.sheets s.phase (ap (λ (x : Shape). x.phase) same ∙ over))
follows widths t over (p ∷ ps) s e = by_item p.at p.item (went_on s t (λ u. walk u ps) (next_shape s p.at p.item) e) (λ u h. follows widths t over ps u h)
  where
    by_item : (at : ℕ) (item : Item) → ((u : Shape) × (next_shape s at item ≡ Ok u) × (walk u ps ≡ done t)) → ((u : Shape) → walk u ps ≡ done t → Follows widths t u ps) → Follows widths t s (record { at = at; item = item } ∷ ps)
    by_item at (said cmd) w on = step_follows widths t s.last s.fonts s.sheets s.phase w.0 at cmd ps (placed_ok at _ w.0 w.1) (on w.0 w.2)
    by_item at (bad k) w on = absurd (let e = w.1 in cc)
    by_item at (fill bytes) w on =
        let same : s ≡ w.0 = filled_same s w.0 at 0 bytes w.1 in
        fill_follows widths t s.last s.fonts s.sheets s.phase at bytes ps (subst (λ (x : Shape). Follows widths t x ps) (sym same) (on w.0 w.2))

-- ---- a whole file

post_post_ends : (s u : Shape) (phase : Phase) (at : ℕ) (cmd : Command) → is_last cmd ≡ true → obeyed s phase at cmd ≡ Ok u → u.phase ≡ parts.ended
unfolding at_start at_gap in_page at_back inside
post_post_ends s u parts.ahead at (c.post_post p id) last e = absurd cc
post_post_ends s u parts.between at (c.post_post p id) last e = absurd cc
post_post_ends s u (parts.within counts body places i) at (c.post_post p id) last e = absurd cc
post_post_ends s u (parts.after_post post) at (c.post_post p id) last e = ap (λ (x : Shape). x.phase) (sym (if_two (int_eq p (pos post)) _ _ u _ _ e))
post_post_ends s u parts.ended at cmd last e = absurd cc
post_post_ends s u phase at cmd last e = absurd cc

file_ends : (xs : List ℕ) (at skip : ℕ) (s t : Shape) → walk s (placed at skip xs) ≡ done t → t.phase ≡ parts.ended
unfolding walk placed
file_ends [] at zero s t e = absurd (never s t _ e)
file_ends [] at (suc skip) s t e = absurd (never s t _ e)
file_ends (b ∷ bs) at (suc skip) s t e = file_ends bs (at + 1) skip s t e
file_ends (b ∷ bs) at zero s t e = by_command (command (b ∷ bs)) e (λ skip u h. file_ends bs (at + 1) skip u t h)
  where
    by_last : (l : Bool) (cmd : Command) (rest : List ℕ) (place skip : ℕ) → is_last cmd ≡ l → walk s (said_at at cmd (cond l (record { at = place; item = fill rest } ∷ []) (placed (at + 1) skip bs))) ≡ done t → ((u : Shape) → walk u (placed (at + 1) skip bs) ≡ done t → t.phase ≡ parts.ended) → t.phase ≡ parts.ended
    by_last true cmd rest place skip last e on =
        let w = went_on s t _ (placed_at at (obeyed s s.phase at cmd)) e in
        let f = went_on w.0 t _ (parts.filled w.0 place 0 rest) w.2 in
        let same : w.0 ≡ f.0 = filled_same w.0 f.0 place 0 rest f.1 in
        let end : f.0 ≡ t = ap (λ (x : Walked). x.shape) f.2 in
        ap (λ (x : Shape). x.phase) (sym end) ∙ ap (λ (x : Shape). x.phase) (sym same) ∙ post_post_ends s w.0 s.phase at cmd last (placed_ok at _ w.0 w.1)
    by_last false cmd rest place skip last e on =
        let w = went_on s t _ (placed_at at (obeyed s s.phase at cmd)) e in
        on w.0 w.2

    by_command : (r : Field Command) → walk s (placed_first at (length bs) (λ skip. placed (at + 1) skip bs) r) ≡ done t → ((skip : ℕ) (u : Shape) → walk u (placed (at + 1) skip bs) ≡ done t → t.phase ≡ parts.ended) → t.phase ≡ parts.ended
    by_command (Err k) e on = absurd (never s t _ e)
    by_command (Ok x) e on = by_last (is_last x.0) x.0 x.1 _ (length bs - length x.1) refl e (on (length bs - length x.1))

structure_done : (w : Walked) (t : Shape) → answer w.shape w.fault ≡ Ok t → w ≡ done t
structure_done w t e = by_fault w.shape w.fault e
  where
    by_fault : (s : Shape) (f : Option DviBad) → answer s f ≡ Ok t → record { shape = s; fault = f } ≡ done t
    by_fault s None e = let same : s ≡ t = cc in ap done same
    by_fault s (Some b) e = absurd cc

read_whole : (widths : Widths) (bytes : List ℕ) (t : Shape) → structure bytes ≡ Ok t → pages_of widths t.sheets ≡ pages_on widths t.fonts start_reader (placed 0 0 bytes)
read_whole widths bytes t e =
    let w = structure_done (walked bytes) t e in
    let f = follows widths t (file_ends bytes 0 0 start t w) (placed 0 0 bytes) start w in
    sym (f.pages.reads start_reader ∙ ap (pages_of widths) (sym f.pages.sheets_are))

structure_found : (r : Result Shape DviBad) (fonts : List FontDef) → (r >>= λ s. Ok s.fonts) ≡ Ok fonts → (t : Shape) × (r ≡ Ok t) × (t.fonts ≡ fonts)
structure_found (Ok t) fonts e = (t, refl, cc)
structure_found (Err b) fonts e = absurd cc

-- The pages of a file whose structure is right are read straight on.
pub pages_are : (widths : Widths) (bytes : List ℕ) (fonts : List FontDef) → file_fonts bytes ≡ Ok fonts → file_pages widths bytes ≡ pages_on widths fonts start_reader (placed 0 0 bytes)
pages_are widths bytes fonts e =
    let s = structure_found (structure bytes) fonts e in
    ap (λ (r : Result Shape DviBad). r >>= λ t. pages_of widths t.sheets) s.1 ∙ read_whole widths bytes s.0 s.1 ∙ ap (λ (fs : List FontDef). pages_on widths fs start_reader (placed 0 0 bytes)) s.2

structure_bad : (r : Result Shape DviBad) (b : DviBad) → (r >>= λ s. Ok s.fonts) ≡ Err b → r ≡ Err b
structure_bad (Ok t) b e = absurd cc
structure_bad (Err d) b e = cc

pub no_pages : (widths : Widths) (bytes : List ℕ) (b : DviBad) → file_fonts bytes ≡ Err b → file_pages widths bytes ≡ Err b
no_pages widths bytes b e = ap (λ (r : Result Shape DviBad). r >>= λ t. pages_of widths t.sheets) (structure_bad (structure bytes) b e)
