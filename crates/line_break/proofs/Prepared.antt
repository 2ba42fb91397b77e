-- The totals of a line are differences of those that the code keeps.
use Rattle.std.proofs.Common.{◌≡◌, ℕ, zero, suc, ◌+◌, ◌-◌, ◌*◌, ◌^◌, ◌<◌, ◌≤◌, true, false, cond, List, [], ◌∷◌, ◌++◌, length, get_or, drop, take, arith, refl, subst, sym, ◌∙◌, ap, ℤ, pos, ◌+ℤ◌, ◌-ℤ◌}
use Rattle.std.specs.List.{filter, range_with_len}
use Rattle.std.proofs.lemmas.Int.{ints}
use Rattle.std.proofs.lemmas.List.{take-append-drop, get_or-map, length-map}
use Rattle.ts_geometry.specs.declared.glue.Glue.{Glue as Glues}
use Rattle.ts_geometry.specs.declared.glue.Order.{Order}
use Rattle.ts_geometry.specs.declared.glue.Order.TheVariants.{Normal, Fil, Fill, Filll}
use Rattle.ts_geometry.specs.Directions.{sp}
use Rattle.ts_geometry.specs.Numbers.{IsWithin, max_dimen}
use Rattle.box_tree.specs.declared.item.Item.{Item}
use Rattle.box_tree.specs.declared.node.BoxKind.TheVariants.{Horizontal}
use Rattle.box_tree.specs.declared.node.SetGlue.{SetGlue}
use Rattle.box_tree.specs.declared.node.SetGlue.TheVariants.{Stretch, Shrink}
use Rattle.box_tree.specs.Nodes.{tree_items}
use Rattle.box_tree.specs.Offsets.{extents, parts}
use Rattle.line_break.specs.declared.legal.Break.{Break}
use Rattle.line_break.specs.declared.search.Lines.{Lines as PassLines}
use Rattle.line_break.specs.declared.totals.Totals.{Totals}
use Rattle.line_break.specs.Best.{last_break}
use Rattle.line_break.specs.Lines.{is_dropped, is_legal, legal_breaks, place_in, place_after_start, without_dropped, kept_between, kept_to, skip, with_skips, line, penalty, penalty_at, penalty_of, totals, with_extra}
use Rattle.line_break.specs.Ready.{pass_of, IsPrepared, IsBeforeEnd, AreSoundItems}
use Rattle.line_break.specs.Running.{AreNear, none, plus, minus, break_at, kept_place, all_breaks}
use Rattle.line_break.proofs.Running.{from_near, after_near, totals_within, nearer, wider, front_is}
use Rattle.line_break.proofs.Step.{all_range, all_filter}
use Rattle.std.proofs.lemmas.List.Elements.{All-from_recursion}
use Rattle.ts_geometry.specs.declared.direction.Dir.TheVariants.{Yoko}

abbrev made : ℤ → ℤ → ℤ → ℤ → ℤ → ℤ → Totals
made a b c d e f = record { width = sp a; stretch = sp b; fil = sp c; fill = sp d; filll = sp e; shrink = sp f }

same : (a b c d e f a' b' c' d' e' f' : ℤ) → a ≡ a' → b ≡ b' → c ≡ c' → d ≡ d' → e ≡ e' → f ≡ f' → made a b c d e f ≡ made a' b' c' d' e' f'
same a b c d e f a' b' c' d' e' f' p q r s t u = cc

-- ---- totals of two lists

extents-append : (xs ys : List Item) → extents Horizontal (tree_items (xs ++ ys)) ≡ extents Horizontal (tree_items xs) +ℤ extents Horizontal (tree_items ys)
extents-append [] ys = omega (arith, ints)
extents-append (x ∷ xs) ys = let h = extents-append xs ys in omega (arith, ints, h)

parts-append : (set : SetGlue) (xs ys : List Item) → parts set (tree_items (xs ++ ys)) ≡ parts set (tree_items xs) +ℤ parts set (tree_items ys)
parts-append set [] ys = omega (arith, ints)
parts-append set (x ∷ xs) ys = let h = parts-append set xs ys in omega (arith, ints, h)

less : (a b c : ℤ) → c ≡ a +ℤ b → a ≡ c -ℤ b
less a b c e = omega (arith, ints)

abbrev grows : SetGlue → List Item → ℤ
grows set xs = parts set (tree_items xs)

abbrev by_order : Order → SetGlue
by_order order = Stretch order (sp (pos 0)) (sp (pos 0))

abbrev shrinking : SetGlue
shrinking = Shrink Normal (sp (pos 0)) (sp (pos 0))

-- the first of two lists has what both have without the second
first_is : (xs ys : List Item) → totals xs ≡ minus (totals (xs ++ ys)) (totals ys)
first_is xs ys =
    same _ _ _ _ _ _ _ _ _ _ _ _
    (less _ _ _ (extents-append xs ys))
    (less _ _ _ (parts-append (by_order Normal) xs ys))
    (less _ _ _ (parts-append (by_order Fil) xs ys))
    (less _ _ _ (parts-append (by_order Fill) xs ys))
    (less _ _ _ (parts-append (by_order Filll) xs ys))
    (less _ _ _ (parts-append shrinking xs ys))

pub front_totals : (n : ℕ) (xs : List Item) → totals (take n xs) ≡ minus (totals xs) (totals (drop n xs))
front_totals n xs = first_is (take n xs) (drop n xs) ∙ ap (λ (ys : List Item). minus (totals ys) (totals (drop n xs))) (take-append-drop n xs)

-- ---- what is kept after a break

-- how many items at the front are dropped
abbrev lead : List Item → ℕ
lead [] = 0
lead (x ∷ xs) = cond (is_dropped x) (suc (lead xs)) 0

kept_place-is : (place : ℕ) (xs : List Item) → kept_place place xs ≡ place + lead xs
kept_place-is place [] = omega arith
kept_place-is place (x ∷ xs) =
    let h = kept_place-is (suc place) xs in
    elim (is_dropped x) as (λ t. cond t (kept_place (suc place) xs) place ≡ place + cond t (suc (lead xs)) 0) [ true ↦ omega (arith, h) | false ↦ omega arith ]

-- taking so many items, and then dropping those at the front
front_kept : (n : ℕ) (xs : List Item) → without_dropped (take n xs) ≡ take (n - lead xs) (without_dropped xs)
front_kept zero xs = let e : 0 - lead xs ≡ 0 = omega arith in ap (λ m. take m (without_dropped xs)) (sym e)
front_kept (suc n) [] = let e : suc n - 0 ≡ suc n = omega arith in ap (λ m. take m (without_dropped [])) (sym e)
front_kept (suc n) (x ∷ xs) =
    let e : suc n - suc (lead xs) ≡ n - lead xs = omega arith in
    let f : suc n - 0 ≡ suc n = omega arith in
    elim (is_dropped x) as (λ t. cond t (without_dropped (take n xs)) (x ∷ take n xs) ≡ take (suc n - cond t (suc (lead xs)) 0) (cond t (without_dropped xs) (x ∷ xs))) [
      | true ↦ front_kept n xs ∙ ap (λ m. take m (without_dropped xs)) (sym e)
      | false ↦ ap (λ m. take m (x ∷ xs)) (sym f)
    ]

rest_kept : (n : ℕ) (xs : List Item) → lead xs ≤ n → drop (n - lead xs) (without_dropped xs) ≡ drop n xs
rest_kept n [] h = let e : n - 0 ≡ n = omega arith in ap (λ m. drop m []) e
rest_kept n (x ∷ xs) h =
    elim (is_dropped x) as (λ t. cond t (suc (lead xs)) 0 ≤ n → drop (n - cond t (suc (lead xs)) 0) (cond t (without_dropped xs) (x ∷ xs)) ≡ drop n (x ∷ xs)) [
      | true ↦ λ k.
          let e : n - suc (lead xs) ≡ (n - 1) - lead xs = omega arith in
          let f : suc (n - 1) ≡ n = omega (arith, k) in
          ap (λ m. drop m (without_dropped xs)) e ∙ rest_kept (n - 1) xs (omega (arith, k)) ∙ ap (λ m. drop m (x ∷ xs)) f
      | false ↦ λ k. let e : n - 0 ≡ n = omega arith in ap (λ m. drop m (x ∷ xs)) e
    ] h

-- where all that is taken is dropped
none_kept : (n : ℕ) (xs : List Item) → n ≤ lead xs → without_dropped (take n xs) ≡ []
none_kept n xs h = let e : n - lead xs ≡ 0 = omega (arith, h) in front_kept n xs ∙ ap (λ m. take m (without_dropped xs)) e

drop_nil_any : {X : Type 0} (n : ℕ) → ◌≡◌ {A = List X} (drop n []) []
drop_nil_any zero = refl
drop_nil_any (suc n) = refl

pub drop_drop_any : {X : Type 0} (m n : ℕ) (xs : List X) → drop n (drop m xs) ≡ drop (m + n) xs
drop_drop_any zero n xs = let e : 0 + n ≡ n = omega arith in ap (λ k. drop k xs) (sym e)
drop_drop_any (suc m) n [] = drop_nil_any n ∙ sym (drop_nil_any (suc m + n))
drop_drop_any (suc m) n (x ∷ xs) = let e : suc (m + n) ≡ suc m + n = omega arith in drop_drop_any m n xs ∙ ap (λ k. drop k (x ∷ xs)) e

-- the totals of what is kept between two places
pub between_totals : (xs : List Item) (s b : ℕ) → (break_at xs s).kept < b → totals (kept_between xs s b) ≡ minus (break_at xs s).after (break_at xs b).from
between_totals xs s b h =
    let ys = drop s xs in
    let n = b - s in
    let k = kept_place-is s ys in
    let few : lead ys ≤ n = omega (arith, k, h) in
    let whole : s + n ≡ b = omega (arith, k, h) in
    ap (λ (zs : List Item). totals zs) (front_kept n ys)
    ∙ front_totals (n - lead ys) (without_dropped ys)
    ∙ ap (λ (zs : List Item). minus (totals (without_dropped ys)) (totals zs)) (rest_kept n ys few ∙ drop_drop_any s n xs ∙ ap (λ m. drop m xs) whole)

pub between_none : (xs : List Item) (s b : ℕ) → b ≤ (break_at xs s).kept → kept_between xs s b ≡ []
between_none xs s b h = let k = kept_place-is s (drop s xs) in none_kept (b - s) (drop s xs) (omega (arith, k, h))

-- ---- the line with its skips

skips_more : (w a m s e : ℤ) → w ≡ m +ℤ s → (a +ℤ w) +ℤ e ≡ ((a +ℤ s) +ℤ e) +ℤ m
skips_more w a m s e p = omega (arith, ints)

skips_same : (w a m s : ℤ) → w ≡ m +ℤ s → a +ℤ w ≡ (a +ℤ s) +ℤ m
skips_same w a m s p = omega (arith, ints)

abbrev across : List Item → ℤ
across xs = extents Horizontal (tree_items xs)

pub skips_totals : (extra : ℤ) (l r : Glues) (mid : List Item) → with_extra extra (totals (skip l ∷ mid ++ skip r ∷ [])) ≡ plus (with_extra extra (totals (skip l ∷ skip r ∷ []))) (totals mid)
skips_totals extra l r mid =
    let right = skip r ∷ [] in
    same _ _ _ _ _ _ _ _ _ _ _ _
    (skips_same _ _ (across mid) (across right) (extents-append mid right))
    (skips_more _ _ (grows (by_order Normal) mid) (grows (by_order Normal) right) extra (parts-append (by_order Normal) mid right))
    (skips_same _ _ (grows (by_order Fil) mid) (grows (by_order Fil) right) (parts-append (by_order Fil) mid right))
    (skips_same _ _ (grows (by_order Fill) mid) (grows (by_order Fill) right) (parts-append (by_order Fill) mid right))
    (skips_same _ _ (grows (by_order Filll) mid) (grows (by_order Filll) right) (parts-append (by_order Filll) mid right))
    (skips_same _ _ (grows shrinking mid) (grows shrinking right) (parts-append shrinking mid right))

plus_0 : (a : ℤ) → a +ℤ pos 0 ≡ a
plus_0 a = omega (arith, ints)

pub plus_none : (t : Totals) → plus t none ≡ t
plus_none t = same _ _ _ _ _ _ _ _ _ _ _ _ (plus_0 _) (plus_0 _) (plus_0 _) (plus_0 _) (plus_0 _) (plus_0 _)

-- ---- the breaks that the code keeps

pub breaks_count : (xs : List Item) → length (all_breaks xs) ≡ suc (length (legal_breaks xs))
breaks_count xs = let e : length xs - 0 ≡ length xs = omega arith in ap suc (length-map (filter (is_legal xs) (range_with_len 0 (length xs - 0))) (break_at xs) ∙ ap (λ n. length (filter (is_legal xs) (range_with_len 0 n))) e)

pub break_is : (xs : List Item) (b : ℕ) (d : Break) → suc b < length (all_breaks xs) → get_or (all_breaks xs) (suc b) d ≡ break_at xs (place_in xs (suc b))
break_is xs b d h =
    let e : length xs - 0 ≡ length xs = omega arith in
    let n = length-map (filter (is_legal xs) (range_with_len 0 (length xs - 0))) (break_at xs) in
    get_or-map (break_at xs) (filter (is_legal xs) (range_with_len 0 (length xs - 0))) b 0 d (omega (arith, n, h))
    ∙ ap (λ m. break_at xs (get_or (filter (is_legal xs) (range_with_len 0 m)) b 0)) e

-- ---- lines by the breaks that the code keeps

abbrev kept_by : List Item → ℕ → ℕ → List Item
kept_by xs s b = kept_to xs (place_after_start xs s) (place_in xs b)

by_totals : (xs : List Item) (s b : ℕ) (d : Break) → s < b → b < length (all_breaks xs) → (get_or (all_breaks xs) s d).kept < (get_or (all_breaks xs) b d).place → totals (kept_by xs s b) ≡ minus (get_or (all_breaks xs) s d).after (get_or (all_breaks xs) b d).from
by_totals xs s zero d lt h k = absurd (omega (arith, lt))
by_totals xs zero (suc b) d lt h k = front_totals (place_in xs (suc b)) xs ∙ ap (λ (e : Break). minus (totals xs) e.from) (sym (break_is xs b d h))
by_totals xs (suc s) (suc b) d lt h k =
    let end = break_is xs b d h in
    let start = break_is xs s d (omega (arith, lt, h)) in
    let place : (get_or (all_breaks xs) (suc b) d).place ≡ place_in xs (suc b) = ap (λ (e : Break). e.place) end in
    let kept : (get_or (all_breaks xs) (suc s) d).kept ≡ (break_at xs (place_in xs (suc s))).kept = ap (λ (e : Break). e.kept) start in
    between_totals xs (place_in xs (suc s)) (place_in xs (suc b)) (omega (arith, place, kept, k))
    ∙ ap (λ (e : Break). minus (break_at xs (place_in xs (suc s))).after e.from) (sym end)
    ∙ ap (λ (e : Break). minus e.after (get_or (all_breaks xs) (suc b) d).from) (sym start)

by_none : (xs : List Item) (s b : ℕ) (d : Break) → s < b → b < length (all_breaks xs) → (get_or (all_breaks xs) b d).place ≤ (get_or (all_breaks xs) s d).kept → kept_by xs s b ≡ []
by_none xs s zero d lt h k = absurd (omega (arith, lt))
by_none xs zero (suc b) d lt h k =
    let place : (get_or (all_breaks xs) (suc b) d).place ≡ place_in xs (suc b) = ap (λ (e : Break). e.place) (break_is xs b d h) in
    let none : place_in xs (suc b) ≡ 0 = omega (arith, place, k) in
    ap (λ n. take n xs) none
by_none xs (suc s) (suc b) d lt h k =
    let place : (get_or (all_breaks xs) (suc b) d).place ≡ place_in xs (suc b) = ap (λ (e : Break). e.place) (break_is xs b d h) in
    let kept : (get_or (all_breaks xs) (suc s) d).kept ≡ (break_at xs (place_in xs (suc s))).kept = ap (λ (e : Break). e.kept) (break_is xs s d (omega (arith, lt, h))) in
    between_none xs (place_in xs (suc s)) (place_in xs (suc b)) (omega (arith, place, kept, k))

pub inside : (l : PassLines) (b : ℕ) → IsPrepared l → b ≤ last_break (pass_of l) → b < length l.breaks.now
inside l b q h = let e : length l.breaks.now ≡ suc (length (legal_breaks l.items.now)) = ap (λ (bs : List Break). length bs) q.breaks ∙ breaks_count l.items.now in omega (arith, e, h)

inside_all : (l : PassLines) (b : ℕ) → b ≤ last_break (pass_of l) → b < length (all_breaks l.items.now)
inside_all l b h = let e = breaks_count l.items.now in omega (arith, e, h)

pub line_totals : (l : PassLines) (s b : ℕ) (d : Break) → IsPrepared l → s < b → b ≤ last_break (pass_of l) → (get_or l.breaks.now s d).kept < (get_or l.breaks.now b d).place → plus l.background (minus (get_or l.breaks.now s d).after (get_or l.breaks.now b d).from) ≡ with_extra l.extra.0 (totals (line (pass_of l) s b))
unfolding line
line_totals l s b d q lt h k =
    let xs = l.items.now in
    let P : List Break → Type 0 = λ bs. (get_or bs s d).kept < (get_or bs b d).place in
    let mid = by_totals xs s b d lt (inside_all l b h) (subst P q.breaks k) in
    ap (λ (bs : List Break). plus l.background (minus (get_or bs s d).after (get_or bs b d).from)) q.breaks
    ∙ ap (λ (t : Totals). plus l.background t) (sym mid)
    ∙ ap (λ (t : Totals). plus t (totals (kept_by xs s b))) q.background
    ∙ sym (skips_totals l.extra.0 l.shape.left l.shape.right (kept_by xs s b))

pub line_none : (l : PassLines) (s b : ℕ) (d : Break) → IsPrepared l → s < b → b ≤ last_break (pass_of l) → (get_or l.breaks.now b d).place ≤ (get_or l.breaks.now s d).kept → l.background ≡ with_extra l.extra.0 (totals (line (pass_of l) s b))
unfolding line
line_none l s b d q lt h k =
    let P : List Break → Type 0 = λ bs. (get_or bs b d).place ≤ (get_or bs s d).kept in
    let mid : kept_by l.items.now s b ≡ [] = by_none l.items.now s b d lt (inside_all l b h) (subst P q.breaks k) in
    q.background ∙ ap (λ (ys : List Item). with_extra l.extra.0 (totals (with_skips l.shape ys))) (sym mid)

-- ---- near totals

pub record IsNearBreak (b : Break) : Type 0 where
  pub from : AreNear (11 * 2 ^ 48) b.from
  pub after : AreNear (11 * 2 ^ 48) b.after

all_near : (xs : List Item) (b : ℕ) (d : Break) → length xs ≤ 700000 → AreSoundItems xs → b < length (all_breaks xs) → IsNearBreak (get_or (all_breaks xs) b d)
all_near xs zero d l s h = record { from = from_near xs 0 l s; after = from_near xs 0 l s }
all_near xs (suc b) d l s h = subst IsNearBreak (sym (break_is xs b d h)) (record { from = from_near xs (place_in xs (suc b)) l s; after = after_near xs (place_in xs (suc b)) l s })

pub break_near : (l : PassLines) (b : ℕ) (d : Break) → IsPrepared l → b ≤ last_break (pass_of l) → IsNearBreak (get_or l.breaks.now b d)
break_near l b d q h = subst (λ (bs : List Break). IsNearBreak (get_or bs b d)) (sym q.breaks) (all_near l.items.now b d q.few q.sound (inside_all l b h))

with_more : (extra : ℤ) (t : Totals) → IsWithin max_dimen extra → AreNear (2 * 2 ^ 32) t → AreNear (2 ^ 48) (with_extra extra t)
with_more extra t d h = record {
  width = up _ h.width;
  stretch = (omega (arith, ints, d, h.stretch), omega (arith, ints, d, h.stretch));
  fil = up _ h.fil;
  fill = up _ h.fill;
  filll = up _ h.filll;
  shrink = up _ h.shrink;
}
  where
    up : (z : ℤ) → IsWithin (2 * 2 ^ 32) z → IsWithin (2 ^ 48) z
    up z w = (omega (arith, ints), omega (arith, ints))

pub background_near : (l : PassLines) → IsPrepared l → AreNear (2 ^ 48) l.background
background_near l q =
    let skips = skip l.shape.left ∷ skip l.shape.right ∷ [] in
    let near = totals_within Yoko skips (q.shape_sound.left, (q.shape_sound.right, tt)) in
    subst (λ (t : Totals). AreNear (2 ^ 48) t) (sym q.background) (with_more l.extra.0 (totals skips) q.extra near)

pub from_60 : (l : PassLines) (b : ℕ) (d : Break) → IsPrepared l → b ≤ last_break (pass_of l) → AreNear (2 ^ 60) (get_or l.breaks.now b d).from
from_60 l b d q h = nearer (get_or l.breaks.now b d).from (break_near l b d q h).from

pub after_60 : (l : PassLines) (b : ℕ) (d : Break) → IsPrepared l → b ≤ last_break (pass_of l) → AreNear (2 ^ 60) (get_or l.breaks.now b d).after
after_60 l b d q h = nearer (get_or l.breaks.now b d).after (break_near l b d q h).after

pub background_60 : (l : PassLines) → IsPrepared l → AreNear (2 ^ 60) l.background
background_60 l q = wider (2 ^ 48) (2 ^ 60) l.background (omega arith) (background_near l q)

pub background_58 : (l : PassLines) → IsPrepared l → AreNear (2 ^ 58) l.background
background_58 l q = wider (2 ^ 48) (2 ^ 58) l.background (omega arith) (background_near l q)

before_end_near : (l : PassLines) (b : ℕ) (d : Break) → IsPrepared l → b ≤ last_break (pass_of l) → AreNear (12 * 2 ^ 48) (minus l.background (get_or l.breaks.now b d).from)
before_end_near l b d q h = record { width = by _ _ near.width end.width; stretch = by _ _ near.stretch end.stretch; fil = by _ _ near.fil end.fil; fill = by _ _ near.fill end.fill; filll = by _ _ near.filll end.filll; shrink = by _ _ near.shrink end.shrink }
  where
    near : AreNear (2 ^ 48) l.background
    near = background_near l q

    end : AreNear (11 * 2 ^ 48) (get_or l.breaks.now b d).from
    end = (break_near l b d q h).from

    by : (x y : ℤ) → IsWithin (2 ^ 48) x → IsWithin (11 * 2 ^ 48) y → IsWithin (12 * 2 ^ 48) (x -ℤ y)
    by x y u v = (omega (arith, ints, u, v), omega (arith, ints, u, v))

before_near : (l : PassLines) (b : ℕ) (d : Break) (t : Totals) → IsPrepared l → b ≤ last_break (pass_of l) → IsBeforeEnd l b t → AreNear (12 * 2 ^ 48) t
before_near l b d t q h e = subst (λ (u : Totals). AreNear (12 * 2 ^ 48) u) (sym (e d)) (before_end_near l b d q h)

pub before_60 : (l : PassLines) (b : ℕ) (t : Totals) → IsPrepared l → b ≤ last_break (pass_of l) → IsBeforeEnd l b t → AreNear (2 ^ 60) t
before_60 l b t q h e = wider (12 * 2 ^ 48) (2 ^ 60) t (omega arith) (before_near l b (break_at [] 0) t q h e)

-- so no multiple of a line by a ratio of badness passes 64 bits
pub line_near : (l : PassLines) (s b : ℕ) (d : Break) (t u : Totals) → IsPrepared l → s ≤ last_break (pass_of l) → b ≤ last_break (pass_of l) → IsBeforeEnd l b t → u ≡ plus t (get_or l.breaks.now s d).after → AreNear (23 * 2 ^ 48) u
line_near l s b d t u q g h e f =
    subst (λ (v : Totals). AreNear (23 * 2 ^ 48) v) (sym f) (both t (get_or l.breaks.now s d).after (before_near l b d t q h e) (break_near l s d q g).after)
  where
    by : (x y : ℤ) → IsWithin (12 * 2 ^ 48) x → IsWithin (11 * 2 ^ 48) y → IsWithin (23 * 2 ^ 48) (x +ℤ y)
    by x y u v = (omega (arith, ints, u, v), omega (arith, ints, u, v))

    both : (v w : Totals) → AreNear (12 * 2 ^ 48) v → AreNear (11 * 2 ^ 48) w → AreNear (23 * 2 ^ 48) (plus v w)
    both v w h k = record { width = by _ _ h.width k.width; stretch = by _ _ h.stretch k.stretch; fil = by _ _ h.fil k.fil; fill = by _ _ h.fill k.fill; filll = by _ _ h.filll k.filll; shrink = by _ _ h.shrink k.shrink }

pub line_58 : (l : PassLines) (s b : ℕ) (d : Break) (t u : Totals) → IsPrepared l → s ≤ last_break (pass_of l) → b ≤ last_break (pass_of l) → IsBeforeEnd l b t → u ≡ plus t (get_or l.breaks.now s d).after → AreNear (2 ^ 58) u
line_58 l s b d t u q g h e f = wider (23 * 2 ^ 48) (2 ^ 58) u (omega arith) (line_near l s b d t u q g h e f)

turn : (a b c : ℤ) → (a -ℤ c) +ℤ b ≡ a +ℤ (b -ℤ c)
turn a b c = omega (arith, ints)

turned : (t u v : Totals) → plus (minus t v) u ≡ plus t (minus u v)
turned t u v =
    same _ _ _ _ _ _ _ _ _ _ _ _
    (turn t.width.0 u.width.0 v.width.0)
    (turn t.stretch.0 u.stretch.0 v.stretch.0)
    (turn t.fil.0 u.fil.0 v.fil.0)
    (turn t.fill.0 u.fill.0 v.fill.0)
    (turn t.filll.0 u.filll.0 v.filll.0)
    (turn t.shrink.0 u.shrink.0 v.shrink.0)

pub line_is : (l : PassLines) (s b : ℕ) (d : Break) (t : Totals) → IsPrepared l → s < b → b ≤ last_break (pass_of l) → IsBeforeEnd l b t → (get_or l.breaks.now s d).kept < (get_or l.breaks.now b d).place → plus t (get_or l.breaks.now s d).after ≡ with_extra l.extra.0 (totals (line (pass_of l) s b))
line_is l s b d t q lt h e k =
    ap (λ (u : Totals). plus u (get_or l.breaks.now s d).after) (e d)
    ∙ turned l.background (get_or l.breaks.now s d).after (get_or l.breaks.now b d).from
    ∙ line_totals l s b d q lt h k

-- ---- the item at a break

legal_inside : (xs : List Item) (k : ℕ) → k < length (legal_breaks xs) → get_or (legal_breaks xs) k 0 < length xs
legal_inside xs k h = All-from_recursion (λ i. i < length xs) (legal_breaks xs) (all_filter (λ i. i < length xs) (is_legal xs) (range_with_len 0 (length xs)) (all_range 0 (length xs) (length xs) (omega arith))) k 0 h

pub place_inside : (xs : List Item) (b : ℕ) → 0 < b → b ≤ length (legal_breaks xs) → place_in xs b < length xs
place_inside xs zero h k = absurd (omega (arith, h))
place_inside xs (suc b) h k = legal_inside xs b (omega (arith, k))

pub place_is : (l : PassLines) (b : ℕ) (d : Break) → IsPrepared l → 0 < b → b ≤ last_break (pass_of l) → (get_or l.breaks.now b d).place ≡ place_in l.items.now b
place_is l zero d q g h = absurd (omega (arith, g))
place_is l (suc b) d q g h = ap (λ (bs : List Break). (get_or bs (suc b) d).place) q.breaks ∙ ap (λ (e : Break). e.place) (break_is l.items.now b d (inside_all l (suc b) h))

pub place_in_items : (l : PassLines) (b : ℕ) (d : Break) → IsPrepared l → 0 < b → b ≤ last_break (pass_of l) → (get_or l.breaks.now b d).place < length l.items.now
place_in_items l b d q g h = let e = place_is l b d q g h in let i = place_inside l.items.now b g h in omega (arith, e, i)

pub penalty_is : (l : PassLines) (b n : ℕ) (x : Item) → IsPrepared l → 0 < b → b ≤ last_break (pass_of l) → n ≡ place_in l.items.now b → penalty_at (get_or l.items.now n x) ≡ penalty (pass_of l) b
unfolding penalty
penalty_is l b n x q g h place =
    ap (λ m. penalty_at (get_or l.items.now m x)) place
    ∙ ap (λ (ys : List Item). penalty_of ys) (sym (front_is l.items.now (place_in l.items.now b) x (place_inside l.items.now b g h)))
