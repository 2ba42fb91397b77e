-- Passes: what the code makes of them, and the places at which their lines end.
use Rattle.std.proofs.Common.{◌≡◌, ℕ, zero, suc, ◌+◌, ◌^◌, ◌<◌, ◌≤◌, ◌≢◌, Bool, true, false, cond, ◌||◌, List, [], ◌∷◌, ◌++◌, length, get_or, drop, reverse, Option, Some, None, refl, subst, sym, ◌∙◌, ap, arith, append_assoc, append-nil, ℤ, pos, negsuc, ◌+ℤ◌, ◌*ℤ◌, neg_ℤ, unsigned_abs, nat_lt, int_lt, SFits, w32}
use Rattle.std.specs.List.{filter, range_with_len}
use Rattle.std.proofs.lemmas.Bool.{ne_eqb}
use Rattle.std.proofs.lemmas.Int.{ints}
use Rattle.std.proofs.lemmas.Bool.Decides.{nat_tests}
use Rattle.std.proofs.lemmas.Nat.{mul-le}
use Rattle.std.proofs.lemmas.List.{get_or_default}
use Rattle.ts_geometry.specs.Numbers.{IsWithin}
use Rattle.box_tree.specs.declared.item.Item.{Item}
use Rattle.line_break.specs.declared.search.Lines.{Lines as PassLines}
use Rattle.line_break.specs.declared.shape.BreakAt.{BreakAt}
use Rattle.line_break.specs.declared.states.Reached.{Reached}
use Rattle.line_break.specs.declared.legal.Break.{Break}
use Rattle.line_break.specs.Best.{start, states_to, last_break}
use Rattle.line_break.specs.Codes.{meaning, IsChain, at_index, walk_to, best_end_of}
use Rattle.line_break.specs.Lines.{Pass, skip, totals, apart, is_legal, of_badness, of_penalty, penalty, place_of, plain_demerits, weight}
use Rattle.ts_geometry.specs.declared.direction.Dir.TheVariants.{Yoko}
use Rattle.ts_geometry.specs.declared.glue.Glue.{Glue as Glues}
use Rattle.box_tree.specs.Nodes.{tree_item}
use Rattle.box_tree.specs.Sound.{IsSoundGlue}
use Rattle.line_break.specs.declared.totals.Totals.{Totals}
use Rattle.line_break.specs.Running.{AreNear, none, totals_with}
use Rattle.line_break.specs.Paragraphs.{or_ends, deciding_ends, or_later, pairs_over, any_shrinks, item_shrinks_without_end, ends_before, ends_option, chosen_ends}
use Rattle.line_break.specs.Ready.{pass_of, IsPrepared, HasSmallDemerits, pairs}
use Rattle.line_break.proofs.Meaning.{Head, head-at, walk_next, walk_end}
use Rattle.line_break.proofs.Prepared.{breaks_count}
use Rattle.line_break.proofs.Running.{front_is, nearer, totals_near}
use Rattle.line_break.proofs.Step.{ends, state_of}

-- ---- infinite shrink

shrinks_at : (xs : List Item) (i : ℕ) (x : Item) → i < length xs → x ≡ get_or xs i x → any_shrinks (drop i xs) ≡ (item_shrinks_without_end x || any_shrinks (drop (suc i) xs))
shrinks_at xs i x h e = ap (λ (ys : List Item). any_shrinks ys) (front_is xs i x h) ∙ ap (λ (y : Item). item_shrinks_without_end y || any_shrinks (drop (suc i) xs)) (sym e)

pub shrinks_here : (xs : List Item) (i : ℕ) (x : Item) → i < length xs → x ≡ get_or xs i x → item_shrinks_without_end x ≡ true → any_shrinks (drop i xs) ≡ true
shrinks_here xs i x h e t = shrinks_at xs i x h e ∙ ap (λ b. b || any_shrinks (drop (suc i) xs)) t

pub shrinks_later : (xs : List Item) (i : ℕ) (x : Item) → i < length xs → x ≡ get_or xs i x → item_shrinks_without_end x ≡ false → any_shrinks (drop (i + 1) xs) ≡ any_shrinks (drop i xs)
shrinks_later xs i x h e t = let one : i + 1 ≡ suc i = omega arith in ap (λ n. any_shrinks (drop n xs)) one ∙ sym (shrinks_at xs i x h e ∙ ap (λ b. b || any_shrinks (drop (suc i) xs)) t)

-- ---- the last break

pub last_is : (l : PassLines) → IsPrepared l → length l.breaks.now ≡ suc (last_break (pass_of l))
last_is l q = ap (λ (bs : List Break). length bs) q.breaks ∙ breaks_count l.items.now

filter_short : (t : ℕ → Bool) (xs : List ℕ) → length (filter t xs) ≤ length xs
filter_short t [] = omega arith
filter_short t (x ∷ xs) = let h = filter_short t xs in elim (t x) as (λ b. length (cond b (x ∷ filter t xs) (filter t xs)) ≤ suc (length xs)) [ true ↦ omega (arith, h) | false ↦ omega (arith, h) ]

range_length : (a n : ℕ) → length (range_with_len a n) ≡ n
range_length a zero = refl
range_length a (suc n) = ap suc (range_length (a + 1) n)

pub last_few : (l : PassLines) → IsPrepared l → last_break (pass_of l) ≤ 700000
last_few l q =
    let h = filter_short (is_legal l.items.now) (range_with_len 0 (length l.items.now)) in
    let e = range_length 0 (length l.items.now) in
    omega (arith, h, e, q.few)

-- ---- small demerits

square_near : (z : ℤ) → unsigned_abs z ≤ 9999 → IsWithin (2 ^ 28) (z *ℤ z)
square_near (pos n) h = let m = mul-le n n 9999 9999 h h in (omega (arith, ints, m), omega (arith, ints, m))
square_near (negsuc n) h = let m = mul-le (suc n) (suc n) 9999 9999 h h in (omega (arith, ints, m), omega (arith, ints, m))

opposite_near : (z : ℤ) → IsWithin (2 ^ 28) z → IsWithin (2 ^ 28) (neg_ℤ z)
opposite_near z w = (omega (arith, ints), omega (arith, ints))

of_badness_near : (z : ℤ) → IsWithin (2 ^ 28) (of_badness z)
of_badness_near z =
    elim (nat_lt (unsigned_abs z) 10000) as (λ t. nat_lt (unsigned_abs z) 10000 ≡ t → IsWithin (2 ^ 28) (cond t (z *ℤ z) (pos 100000000))) [
      | true ↦ λ e. square_near z (grind (arith, nat_tests))
      | false ↦ λ e. (omega (arith, ints), omega (arith, ints))
    ] refl

of_penalty_near : (z : ℤ) → IsWithin (2 ^ 28) (of_penalty z)
of_penalty_near z =
    elim (nat_lt (unsigned_abs z) 10000) as (λ t. nat_lt (unsigned_abs z) 10000 ≡ t → IsWithin (2 ^ 28) (cond t (cond (int_lt (pos 0) z) (z *ℤ z) (neg_ℤ (z *ℤ z))) (pos 0))) [
      | true ↦ λ e.
          let near = square_near z (grind (arith, nat_tests)) in
          elim (int_lt (pos 0) z) as (λ u. IsWithin (2 ^ 28) (cond u (z *ℤ z) (neg_ℤ (z *ℤ z)))) [ true ↦ near | false ↦ opposite_near (z *ℤ z) near ]
      | false ↦ λ e. (omega (arith, ints), omega (arith, ints))
    ] refl

plain_near : (p : Pass) (s b : ℕ) → IsWithin (2 ^ 29) (plain_demerits p s b)
unfolding plain_demerits
plain_near p s b =
    let h = of_badness_near (p.shape.line_penalty +ℤ pos (weight p s b).badness) in
    let k = of_penalty_near (penalty p b) in
    more _ _ h k
  where
    more : (x y : ℤ) → IsWithin (2 ^ 28) x → IsWithin (2 ^ 28) y → IsWithin (2 ^ 29) (x +ℤ y)
    more x y u v = (omega (arith, ints), omega (arith, ints))

adjusted_near : (t : Bool) (x adj : ℤ) → IsWithin (2 ^ 29) x → IsWithin (2 ^ 31) adj → IsWithin (2 ^ 33) (x +ℤ cond t adj (pos 0))
adjusted_near true x adj h k = (omega (arith, ints), omega (arith, ints))
adjusted_near false x adj h k = (omega (arith, ints), omega (arith, ints))

pub small_demerits : (p : Pass) → IsWithin (2 ^ 31) p.shape.adj_demerits → HasSmallDemerits p
small_demerits p h c s b = adjusted_near (apart c (weight p s b).class) (plain_demerits p s b) p.shape.adj_demerits (plain_near p s b) h

-- ---- the ends of the lines

abbrev pub back : Pass → List Reached → ℕ → List BreakAt
back p rs i = ends_before p (at_index rs i).at (walk_to rs i)

abbrev at_place : ℕ → BreakAt
at_place n = record { 0 = n }

pub back_end : (p : Pass) (rs : List Reached) (i : ℕ) → IsChain rs → i < length rs → (at_index rs i).at ≡ 0 → back p rs i ≡ []
back_end p rs i chain h e = ap (ends_before p (at_index rs i).at) (walk_end rs i chain h e)

back_next : (p : Pass) (rs : List Reached) (i : ℕ) → IsChain rs → i < length rs → (at_index rs i).at ≢ 0 → back p rs i ≡ at_place (place_of p (at_index rs i).at) ∷ back p rs (at_index rs i).from
back_next p rs i chain h e = ap (ends_before p (at_index rs i).at) (walk_next rs i chain h e)

-- one step back, at whatever default the code reads with
pub back_step : (p : Pass) (rs : List Reached) (i : ℕ) (d : Reached) (was now ys : List BreakAt) (b : BreakAt) → IsChain rs → i < length rs → (get_or rs i d).at ≢ 0 → b.0 ≡ place_of p (get_or rs i d).at → now ≡ was ++ b ∷ [] → was ++ back p rs i ≡ ys → ((get_or rs i d).from < i) × (now ++ back p rs (get_or rs i d).from ≡ ys)
back_step p rs i d was now ys b chain h ne place is same =
    let e : at_index rs i ≡ get_or rs i d = get_or_default rs i _ d h in
    let ne' : (at_index rs i).at ≢ 0 = rw e ne in
    let low' : (at_index rs i).from < i = chain i h (ne_eqb (at_index rs i).at 0 ne') in
    let low : (get_or rs i d).from < i = rw e at low' in
    let next : back p rs i ≡ b ∷ back p rs (get_or rs i d).from =
    back_next p rs i chain h ne' ∙ ap (λ (r : Reached). at_place (place_of p r.at) ∷ back p rs r.from) e ∙ ap (λ n. at_place n ∷ back p rs (get_or rs i d).from) (sym place) in (
      low,
      ap (λ (xs : List BreakAt). xs ++ back p rs (get_or rs i d).from) is
          ∙ append_assoc was (b ∷ []) (back p rs (get_or rs i d).from)
          ∙ ap (λ (xs : List BreakAt). was ++ xs) (sym next)
          ∙ same,
    )

-- the ends of the state that the code takes
pub ends_chosen : (p : Pass) (rs : List Reached) (n end : ℕ) → n ≡ last_break p → end < length rs → meaning rs ≡ states_to p n → Some end ≡ best_end_of rs n → Some (reverse (back p rs end)) ≡ chosen_ends p
ends_chosen p rs n end e inside same is =
    let P : ℕ → Type 0 = λ m. meaning rs ≡ states_to p m in
    let Q : ℕ → Type 0 = λ m. Some end ≡ best_end_of rs m in
    let at : (get_or (meaning rs) end start).at ≡ (at_index rs end).at = ap (λ (h : Head). h.at) (head-at rs end inside) in
    ap (λ n. Some (reverse (ends_before p n (walk_to rs end)))) (sym at)
    ∙ ap (λ (o : Option ℕ). ends_option p (state_of (meaning rs) o)) (subst Q e is)
    ∙ ap (ends_option p) (ends p rs (subst P e same))

pub no_ends_chosen : (p : Pass) (rs : List Reached) (n : ℕ) → n ≡ last_break p → meaning rs ≡ states_to p n → None ≡ best_end_of rs n → None ≡ chosen_ends p
no_ends_chosen p rs n e same is =
    let P : ℕ → Type 0 = λ m. meaning rs ≡ states_to p m in
    let Q : ℕ → Type 0 = λ m. None ≡ best_end_of rs m in
    ap (λ (o : Option ℕ). ends_option p (state_of (meaning rs) o)) (subst Q e is) ∙ ap (ends_option p) (ends p rs (subst P e same))

pub back_stops : (p : Pass) (rs : List Reached) (i : ℕ) (d : Reached) (was ys : List BreakAt) → IsChain rs → i < length rs → (get_or rs i d).at ≡ 0 → was ++ back p rs i ≡ ys → was ≡ ys
back_stops p rs i d was ys chain h e same =
    let f : at_index rs i ≡ get_or rs i d = get_or_default rs i _ d h in
    let none : back p rs i ≡ [] = back_end p rs i chain h (ap (λ (r : Reached). r.at) f ∙ e) in
    sym (append-nil was) ∙ ap (λ (xs : List BreakAt). was ++ xs) (sym none) ∙ same

-- ---- one pass after another

pub ends_some : (p : Pass) (ps : List Pass) (xs : List BreakAt) → Some xs ≡ chosen_ends p → xs ≡ deciding_ends (p ∷ ps)
ends_some p ps xs e = ap (λ (o : Option (List BreakAt)). or_ends o (deciding_ends ps)) e

pub ends_none : (p : Pass) (ps : List Pass) (xs : List BreakAt) → None ≡ chosen_ends p → xs ≡ deciding_ends ps → xs ≡ deciding_ends (p ∷ ps)
ends_none p ps xs e f = f ∙ ap (λ (o : Option (List BreakAt)). or_ends o (deciding_ends ps)) e

pub pairs_some : (p : Pass) (ps : List Pass) (m n : ℕ) (xs : List BreakAt) → Some xs ≡ chosen_ends p → n ≡ m + pairs p (last_break p) → n ≡ m + pairs_over (p ∷ ps)
pairs_some p ps m n xs e h = let z : 0 ≡ or_later (chosen_ends p) (pairs_over ps) = ap (λ (o : Option (List BreakAt)). or_later o (pairs_over ps)) e in omega (arith, z, h)

pub pairs_none : (p : Pass) (ps : List Pass) (m k n : ℕ) → None ≡ chosen_ends p → k ≡ m + pairs p (last_break p) → n ≡ k + pairs_over ps → n ≡ m + pairs_over (p ∷ ps)
pairs_none p ps m k n e h g = let z : pairs_over ps ≡ or_later (chosen_ends p) (pairs_over ps) = ap (λ (o : Option (List BreakAt)). or_later o (pairs_over ps)) e in omega (arith, z, h, g)

pub pairs_most : (p : Pass) (ps : List Pass) (m n : ℕ) → n ≤ m + pairs p (last_break p) → n ≤ m + pairs_over (p ∷ ps)
pairs_most p ps m n h = omega (arith, h)

pub pairs_most_none : (p : Pass) (ps : List Pass) (m k n : ℕ) → None ≡ chosen_ends p → k ≡ m + pairs p (last_break p) → n ≤ k + pairs_over ps → n ≤ m + pairs_over (p ∷ ps)
pairs_most_none p ps m k n e h g = let z : pairs_over ps ≡ or_later (chosen_ends p) (pairs_over ps) = ap (λ (o : Option (List BreakAt)). or_later o (pairs_over ps)) e in omega (arith, z, h, g)

-- ---- near skips

pub right_near : (g : Glues) (x : Item) (u t : Totals) → IsSoundGlue g → x ≡ skip g → u ≡ none → t ≡ totals_with (tree_item x) u → AreNear (2 ^ 60) t
right_near g x u t s e f h =
    let is : t ≡ totals (skip g ∷ []) = h ∙ ap (λ (v : Totals). totals_with (tree_item x) v) f ∙ ap (λ (y : Item). totals_with (tree_item y) none) e in
    subst (λ (v : Totals). AreNear (2 ^ 60) v) (sym is) (nearer (totals (skip g ∷ [])) (totals_near Yoko (skip g ∷ []) (omega arith) (s, tt)))

pub both_near : (l r : Glues) (t : Totals) → IsSoundGlue l → IsSoundGlue r → t ≡ totals (skip l ∷ skip r ∷ []) → IsWithin (2 ^ 60) t.stretch.0
both_near l r t a b e =
    let near : AreNear (2 ^ 60) t = subst (λ (v : Totals). AreNear (2 ^ 60) v) (sym e) (nearer (totals (skip l ∷ skip r ∷ [])) (totals_near Yoko (skip l ∷ skip r ∷ []) (omega arith) (a, (b, tt)))) in
    near.stretch

pub adj_near : (z : ℤ) → SFits w32 z → IsWithin (2 ^ 31) z
adj_near z f = (omega (arith, ints, f.sfits), omega (arith, ints, f.sfits))
