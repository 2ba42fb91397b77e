-- The whole pages of a prefix of a file are the first of those of the file.
use Rattle.std.proofs.Common.{◌≡◌, ℕ, zero, suc, ◌-◌, ◌+◌, List, [], ◌∷◌, ◌++◌, length, Result, Ok, Err, Option, Some, None, refl, sym, ap, subst, ◌∙◌, append_assoc, arith, ℤ, Bool, true, false, cond, length-append}
use Rattle.std.specs.Prelude.{IfOk}
use Rattle.std.proofs.lemmas.List.{append-nil}
use Rattle.ts_base.specs.Agreement.{◌>>=◌}
use Rattle.dvi_commands.specs.declared.fault.DviKind.{DviKind}
use Rattle.dvi_commands.specs.declared.fault.DviBad.{DviBad}
use Rattle.dvi_code.specs.declared.page.DviPage.{DviPage}
use Rattle.dvi_commands.specs.Fields.{Field}
use Rattle.dvi_commands.specs.Commands as c
use Rattle.dvi_commands.specs.Commands.{Command, command}
use Rattle.dvi_structure.specs.Places.{Item, Placed, said, bad, fill, is_last, placed_first, placed}
use Rattle.dvi_structure.specs.Structure.{Shape, Sheet, Phase, ahead, between, within, after_post, ended, Inside, start, at_start, at_gap, in_page, at_back, obeyed, closed, placed_at, filled, next_shape, walk, walked_on, walked, Walked, answer, structure, whole_sheets}
use Rattle.dvi_code.specs.Pages.{Widths, page_of, pages_of, file_pages, whole_pages}
use Rattle.dvi_commands.proofs.Writing.{commands_stay}
use Rattle.dvi_code.proofs.Steps.{bound}
use Rattle.dvi_code.proofs.Straight.{filled_same}

pub record Grows (xs ys : List Sheet) : Type 0 where
  pub more : List Sheet
  pub is : ys ≡ xs ++ more

same : (xs : List Sheet) → Grows xs xs
same xs = record { more = []; is = sym (append-nil xs) }

then : (x y z : List Sheet) → Grows x y → Grows y z → Grows x z
then x y z p q = record { more = p.more ++ q.more; is = q.is ∙ ap (λ (t : List Sheet). t ++ q.more) p.is ∙ append_assoc x p.more q.more }

-- where it goes on, the pages only grow
record Keeps {E : Type 0} (s : Shape) (r : Result Shape E) : Type 0 where
  on : IfOk r (λ t. Grows s.sheets t.sheets)

stops : {E : Type 0} (s : Shape) (e : E) → Keeps {E = E} s (Err e)
stops s e = record { on = tt }

goes : {E : Type 0} (s t : Shape) → Grows s.sheets t.sheets → Keeps {E = E} s (Ok t)
goes s t h = record { on = h }

if_then : {E : Type 0} (s : Shape) (b : Bool) (r : Result Shape E) (e : E) → Keeps s r → Keeps s (cond b r (Err e))
if_then s true r e h = h
if_then s false r e h = stops s e

bind_grows : {A E : Type 0} (s : Shape) (r : Result A E) (f : A → Result Shape E) → ((x : A) → Keeps s (f x)) → Keeps s (r >>= f)
bind_grows s (Ok x) f h = h x
bind_grows s (Err e) f h = stops s e

start_grows : (s : Shape) (cmd : Command) → Keeps s (at_start s cmd)
unfolding at_start
start_grows s (c.pre p) = if_then s _ _ _ (goes s _ (same s.sheets))
start_grows s _ = stops s _

gap_grows : (s : Shape) (at : ℕ) (cmd : Command) → Keeps s (at_gap s at cmd)
unfolding at_gap
gap_grows s at c.nop = goes s _ (same s.sheets)
gap_grows s at (c.font_def d) = bind_grows s _ _ (λ fonts. goes s _ (same s.sheets))
gap_grows s at (c.bop counts back) = if_then s _ _ _ (goes s _ (same s.sheets))
gap_grows s at (c.post p) = if_then s _ _ _ (if_then s _ _ _ (goes s _ (same s.sheets)))
gap_grows s at _ = stops s _

closes : (s : Shape) (sheet : Sheet) (depth : ℕ) → Keeps s (closed s sheet depth)
closes s sheet zero = goes s _ (record { more = sheet ∷ []; is = refl })
closes s sheet (suc depth) = stops s _

page_grows : (s : Shape) (counts : List ℤ) (body : List Command) (places : List ℕ) (i : Inside) (at : ℕ) (cmd : Command) → Keeps s (in_page s counts body places i at cmd)
unfolding in_page
page_grows s counts body places i at (c.font_def d) = bind_grows s _ _ (λ fonts. goes s _ (same s.sheets))
page_grows s counts body places i at c.eop = closes s (record { counts = counts; body = body; places = places; fonts = s.fonts }) i.depth
page_grows s counts body places i at _ = bind_grows s _ _ (λ j. goes s _ (same s.sheets))

back_grows : (s : Shape) (post : ℕ) (cmd : Command) → Keeps s (at_back s post cmd)
unfolding at_back
back_grows s post c.nop = goes s _ (same s.sheets)
back_grows s post (c.font_def d) = bind_grows s _ _ (λ fonts. goes s _ (same s.sheets))
back_grows s post (c.post_post p id) = if_then s _ _ _ (if_then s _ _ _ (goes s _ (same s.sheets)))
back_grows s post _ = stops s _

obeyed_grows : (s : Shape) (phase : Phase) (at : ℕ) (cmd : Command) → Keeps s (obeyed s phase at cmd)
obeyed_grows s ahead at cmd = start_grows s cmd
obeyed_grows s between at cmd = gap_grows s at cmd
obeyed_grows s (within counts body places i) at cmd = page_grows s counts body places i at cmd
obeyed_grows s (after_post post) at cmd = back_grows s post cmd
obeyed_grows s ended at cmd = stops s _

placed_grows : (s : Shape) (at : ℕ) (r : Result Shape DviKind) → Keeps s r → Keeps s (placed_at at r)
placed_grows s at (Ok t) h = goes s t h.on
placed_grows s at (Err e) h = stops s _

fill_grows : {E : Type 0} (s : Shape) (r : Result Shape E) → ((t : Shape) → r ≡ Ok t → s ≡ t) → Keeps s r
fill_grows s (Ok t) h = goes s t (subst (λ (x : Shape). Grows s.sheets x.sheets) (h t refl) (same s.sheets))
fill_grows s (Err e) h = stops s e

next_grows : (s : Shape) (at : ℕ) (item : Item) → Keeps s (next_shape s at item)
next_grows s at (said cmd) = placed_grows s at (obeyed s s.phase at cmd) (obeyed_grows s s.phase at cmd)
next_grows s at (bad k) = stops s _
next_grows s at (fill bytes) = fill_grows s (filled s at 0 bytes) (λ t e. filled_same s t at 0 bytes e)

on_grows : (s : Shape) (go : Shape → Walked) (r : Result Shape DviBad) → Keeps s r → ((t : Shape) → Grows t.sheets (go t).shape.sheets) → Grows s.sheets (walked_on s go r).shape.sheets
on_grows s go (Ok t) h on = then s.sheets t.sheets (go t).shape.sheets h.on (on t)
on_grows s go (Err e) h on = same s.sheets

walk_grows : (ps : List Placed) (s : Shape) → Grows s.sheets (walk s ps).shape.sheets
unfolding walk
walk_grows [] s = same s.sheets
walk_grows (p ∷ ps) s = on_grows s (λ t. walk t ps) (next_shape s p.at p.item) (next_grows s p.at p.item) (λ t. walk_grows ps t)

-- ---- prefixes

both_on : (s : Shape) (f g : Shape → Walked) (r : Result Shape DviBad) → ((t : Shape) → Grows (f t).shape.sheets (g t).shape.sheets) → Grows (walked_on s f r).shape.sheets (walked_on s g r).shape.sheets
both_on s f g (Ok t) h = h t
both_on s f g (Err e) h = same s.sheets

fill_keeps : (s : Shape) (r : Result Shape DviBad) → ((t : Shape) → r ≡ Ok t → s ≡ t) → (walked_on s (λ t. record { shape = t; fault = None }) r).shape.sheets ≡ s.sheets
fill_keeps s (Ok t) h = ap (λ (x : Shape). x.sheets) (sym (h t refl))
fill_keeps s (Err e) h = refl

tails : (last : Bool) (s : Shape) (a b : ℕ) (f g : List ℕ) (ps qs : List Placed) → Grows (walk s ps).shape.sheets (walk s qs).shape.sheets
    → Grows (walk s (cond last (record { at = a; item = fill f } ∷ []) ps)).shape.sheets (walk s (cond last (record { at = b; item = fill g } ∷ []) qs)).shape.sheets
unfolding walk
tails true s a b f g ps qs h = rw (fill_keeps s (filled s a 0 f) (λ t e. filled_same s t a 0 f e), fill_keeps s (filled s b 0 g) (λ t e. filled_same s t b 0 g e)) (same s.sheets)
tails false s a b f g ps qs h = h

-- the command at the front, read alone and with more after it
at_command : (b : ℕ) (bs y : List ℕ) (at : ℕ) (s : Shape) → ((j k : ℕ) (t : Shape) → Grows (walk t (placed j k bs)).shape.sheets (walk t (placed j k (bs ++ y))).shape.sheets)
    → (r : Field Command) → command (b ∷ bs) ≡ r
    → Grows (walk s (placed_first at (length bs) (λ skip. placed (at + 1) skip bs) r)).shape.sheets (walk s (placed at zero (b ∷ (bs ++ y)))).shape.sheets
unfolding placed walk
at_command b bs y at s goes_on (Err e) is = walk_grows (placed at zero (b ∷ (bs ++ y))) s
at_command b bs y at s goes_on (Ok x) is =
    let long : command (b ∷ (bs ++ y)) ≡ Ok (x.0, x.1 ++ y) = commands_stay (b ∷ bs) y x.1 x.0 is in
    let n : length (bs ++ y) - length (x.1 ++ y) ≡ length bs - length x.1 = omega (arith, length-append bs y, length-append x.1 y) in
    rw (long, n) (both_on s _ _ (next_shape s at (said x.0)) (λ t. tails (is_last x.0) t _ _ x.1 (x.1 ++ y) _ _ (goes_on (at + 1) (length bs - length x.1) t)))

cut_grows : (x y : List ℕ) (at k : ℕ) (s : Shape) → Grows (walk s (placed at k x)).shape.sheets (walk s (placed at k (x ++ y))).shape.sheets
unfolding placed walk
cut_grows [] y at zero s = walk_grows (placed at zero y) s
cut_grows [] y at (suc k) s = walk_grows (placed at (suc k) y) s
cut_grows (b ∷ bs) y at (suc k) s = cut_grows bs y (at + 1) k s
cut_grows (b ∷ bs) y at zero s = at_command b bs y at s (λ j k t. cut_grows bs y j k t) (command (b ∷ bs)) refl

pub whole_grows : (x y : List ℕ) → Grows (whole_sheets x) (whole_sheets (x ++ y))
whole_grows x y = cut_grows x y 0 0 start

-- ---- pages

one_page : (widths : Widths) (r : Result DviPage DviBad) (others : Result (List DviPage) DviBad) (pages : List DviPage) → (r >>= λ first. others >>= λ more. Ok (first ∷ more)) ≡ Ok pages
    → (first : DviPage) × (more : List DviPage) × (r ≡ Ok first) × (others ≡ Ok more) × (first ∷ more ≡ pages)
one_page widths (Ok first) (Ok more) pages e = (first, more, refl, refl, cc)
one_page widths (Ok first) (Err b) pages e = absurd cc
one_page widths (Err b) others pages e = absurd cc

both_ok : (r : Result DviPage DviBad) (others : Result (List DviPage) DviBad) (first : DviPage) (more : List DviPage) → r ≡ Ok first → others ≡ Ok more → (r >>= λ f. others >>= λ m. Ok (f ∷ m)) ≡ Ok (first ∷ more)
both_ok r others first more e f = rw (e, f) refl

pages_first : (widths : Widths) (xs ys : List Sheet) (pages : List DviPage) → pages_of widths (xs ++ ys) ≡ Ok pages → (first : List DviPage) × (more : List DviPage) × (pages_of widths xs ≡ Ok first) × (pages ≡ first ++ more)
unfolding pages_of
pages_first widths [] ys pages e = ([], pages, refl, refl)
pages_first widths (s ∷ xs) ys pages e =
    let p = one_page widths (page_of widths s) (pages_of widths (xs ++ ys)) pages e in
    let q = pages_first widths xs ys p.1 p.3 in
    (p.0 ∷ q.0, q.1, both_ok (page_of widths s) (pages_of widths xs) p.0 q.0 p.2 q.2, sym p.4 ∙ ap (λ (ps : List DviPage). p.0 ∷ ps) q.3)

sheets_are : (w : Walked) (t : Shape) → answer w.shape w.fault ≡ Ok t → w.shape ≡ t
sheets_are w t e = by_fault w.shape w.fault e
  where
    by_fault : (s : Shape) (f : Option DviBad) → answer s f ≡ Ok t → s ≡ t
    by_fault s None e = cc
    by_fault s (Some b) e = absurd cc

pub whole_pages_first : (widths : Widths) (x y : List ℕ) (pages : List DviPage) → file_pages widths (x ++ y) ≡ Ok pages → (first : List DviPage) × (more : List DviPage) × (whole_pages widths x ≡ Ok first) × (pages ≡ first ++ more)
whole_pages_first widths x y pages e =
    let m = bound (structure (x ++ y)) (λ t. pages_of widths t.sheets) pages e in
    let same : whole_sheets (x ++ y) ≡ m.0.sheets = ap (λ (t : Shape). t.sheets) (sheets_are (walked (x ++ y)) m.0 m.1) in
    let g = whole_grows x y in
    let all : pages_of widths (whole_sheets x ++ g.more) ≡ Ok pages = ap (pages_of widths) (sym g.is ∙ same) ∙ m.2 in
    pages_first widths (whole_sheets x) g.more pages all
