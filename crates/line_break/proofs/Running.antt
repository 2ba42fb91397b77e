-- Legal breaks, and the totals from them on, as the code meets them.
use Rattle.std.proofs.Common.{◌≡◌, ℕ, zero, suc, ◌+◌, ◌-◌, ◌*◌, ◌^◌, ◌<◌, ◌≤◌, Bool, true, false, cond, List, [], ◌∷◌, ◌++◌, length, get_or, drop, map, reverse, arith, refl, subst, sym, ◌∙◌, ap, add-one, ℤ, pos}
use Rattle.std.specs.List.{filter, range_with_len}
use Rattle.std.proofs.lemmas.Grind.{common_steps}
use Rattle.std.proofs.lemmas.Int.{ints}
use Rattle.std.proofs.lemmas.List.{reverse-append}
use Rattle.ts_geometry.specs.declared.direction.Dir.{Dir}
use Rattle.ts_geometry.specs.declared.glue.Order.TheVariants.{Normal, Fil, Fill, Filll}
use Rattle.ts_geometry.specs.Directions.{sp}
use Rattle.ts_geometry.specs.Numbers.{IsWithin}
use Rattle.box_tree.specs.declared.item.Item.{Item}
use Rattle.box_tree.specs.declared.node.BoxKind.TheVariants.{Horizontal}
use Rattle.box_tree.specs.declared.node.SetGlue.{SetGlue}
use Rattle.box_tree.specs.declared.node.SetGlue.TheVariants.{Stretch, Shrink}
use Rattle.box_tree.specs.Nodes.{tree_item, tree_items}
use Rattle.box_tree.specs.Offsets.{extents, parts}
use Rattle.box_tree.specs.Sound.{IsSoundItem, AreSound}
use Rattle.box_tree.proofs.Near.{item_extent_near, item_part_near}
use Rattle.line_break.specs.declared.legal.Break.{Break}
use Rattle.line_break.specs.declared.totals.Totals.{Totals}
use Rattle.line_break.specs.Lines.{is_solid, is_dropped, begins_with_glue, begins_solid, is_after_solid, can_end_at, can_end_before, is_legal, totals, without_dropped}
use Rattle.line_break.specs.Ready.{AreSoundItems}
use Rattle.line_break.specs.Running.{AreNear, break_before, break_at, with_before, breaks_from, kept_place}

-- ---- the items from a place on

pub front_is : (xs : List Item) (i : ℕ) (d : Item) → i < length xs → drop i xs ≡ get_or xs i d ∷ drop (suc i) xs
front_is (x ∷ xs) zero d h = refl
front_is (x ∷ xs) (suc i) d h = front_is xs i d (omega (arith, h))
front_is [] i d h = absurd (omega (arith, h))

-- ---- near sums

extents_near : (dir : Dir) (xs : List Item) → AreSound dir (tree_items xs) → IsWithin (length xs * 2 ^ 32) (extents Horizontal (tree_items xs))
extents_near dir [] s = (omega (arith, ints), omega (arith, ints))
extents_near dir (x ∷ xs) s =
    let one = item_extent_near Horizontal dir (tree_item x) s.0 in
    let rest = extents_near dir xs s.1 in
    (omega (arith, ints), omega (arith, ints))

parts_near : (set : SetGlue) (dir : Dir) (xs : List Item) → AreSound dir (tree_items xs) → IsWithin (length xs * 2 ^ 32) (parts set (tree_items xs))
parts_near set dir [] s = (omega (arith, ints), omega (arith, ints))
parts_near set dir (x ∷ xs) s =
    let one = item_part_near set dir (tree_item x) s.0 in
    let rest = parts_near set dir xs s.1 in
    (omega (arith, ints), omega (arith, ints))

pub totals_within : (dir : Dir) (xs : List Item) → AreSound dir (tree_items xs) → AreNear (length xs * 2 ^ 32) (totals xs)
totals_within dir xs s = record {
  width = extents_near dir xs s;
  stretch = parts_near (Stretch Normal (sp (pos 0)) (sp (pos 0))) dir xs s;
  fil = parts_near (Stretch Fil (sp (pos 0)) (sp (pos 0))) dir xs s;
  fill = parts_near (Stretch Fill (sp (pos 0)) (sp (pos 0))) dir xs s;
  filll = parts_near (Stretch Filll (sp (pos 0)) (sp (pos 0))) dir xs s;
  shrink = parts_near (Shrink Normal (sp (pos 0)) (sp (pos 0))) dir xs s;
}

pub wider : (m n : ℕ) (t : Totals) → m ≤ n → AreNear m t → AreNear n t
wider m n t l h = record { width = by _ h.width; stretch = by _ h.stretch; fil = by _ h.fil; fill = by _ h.fill; filll = by _ h.filll; shrink = by _ h.shrink }
  where
    by : (z : ℤ) → IsWithin m z → IsWithin n z
    by z u = (omega (arith, ints, l, u), omega (arith, ints, l, u))

pub totals_near : (dir : Dir) (xs : List Item) → length xs ≤ 700000 → AreSound dir (tree_items xs) → AreNear (11 * 2 ^ 48) (totals xs)
totals_near dir xs l s = wider (length xs * 2 ^ 32) (11 * 2 ^ 48) (totals xs) (omega (arith, l)) (totals_within dir xs s)

pub nearer : (t : Totals) → AreNear (11 * 2 ^ 48) t → AreNear (2 ^ 60) t
nearer t h = wider (11 * 2 ^ 48) (2 ^ 60) t (omega arith) h

pub drop_sound : (dir : Dir) (xs : List Item) (i : ℕ) → AreSound dir (tree_items xs) → AreSound dir (tree_items (drop i xs))
drop_sound dir xs zero s = s
drop_sound dir [] (suc i) s = tt
drop_sound dir (x ∷ xs) (suc i) s = drop_sound dir xs i s.1

drop_short : (xs : List Item) (i : ℕ) → length (drop i xs) ≤ length xs
drop_short xs zero = omega arith
drop_short [] (suc i) = omega arith
drop_short (x ∷ xs) (suc i) = let h = drop_short xs i in omega (arith, h)

pub from_near : (xs : List Item) (i : ℕ) → length xs ≤ 700000 → AreSoundItems xs → AreNear (11 * 2 ^ 48) (totals (drop i xs))
from_near xs i l s = let h = drop_short xs i in totals_near s.0 (drop i xs) (omega (arith, h, l)) (drop_sound s.0 xs i s.1)

kept_sound : (dir : Dir) (xs : List Item) → AreSound dir (tree_items xs) → AreSound dir (tree_items (without_dropped xs))
kept_sound dir [] s = tt
kept_sound dir (x ∷ xs) s = elim (is_dropped x) as (λ t. AreSound dir (tree_items (cond t (without_dropped xs) (x ∷ xs)))) [ true ↦ kept_sound dir xs s.1 | false ↦ s ]

kept_short : (xs : List Item) → length (without_dropped xs) ≤ length xs
kept_short [] = omega arith
kept_short (x ∷ xs) = let h = kept_short xs in elim (is_dropped x) as (λ t. length (cond t (without_dropped xs) (x ∷ xs)) ≤ suc (length xs)) [ true ↦ omega (arith, h) | false ↦ omega arith ]

pub after_near : (xs : List Item) (i : ℕ) → length xs ≤ 700000 → AreSoundItems xs → AreNear (11 * 2 ^ 48) (totals (without_dropped (drop i xs)))
after_near xs i l s =
    let h = drop_short xs i in
    let k = kept_short (drop i xs) in
    totals_near s.0 (without_dropped (drop i xs)) (omega (arith, h, k, l)) (kept_sound s.0 (drop i xs) (drop_sound s.0 xs i s.1))

-- ---- one item more, towards the front

abbrev made : ℕ → ℕ → Totals → Totals → Break
made place kept from after = record { place = place; kept = kept; from = from; after = after }

pub one_before : (place : ℕ) (x : Item) (rest : List Item) → with_before x (break_before (suc place) rest) ≡ break_before place (x ∷ rest)
one_before place x rest =
    let back : suc place - 1 ≡ place = omega arith in
    ap (λ n. cond (is_dropped x) (made n (kept_place (suc place) rest) (totals (x ∷ rest)) (totals (without_dropped rest))) (made n n (totals (x ∷ rest)) (totals (x ∷ rest)))) back
    ∙ elim (is_dropped x) as (λ t. cond t (made place (kept_place (suc place) rest) (totals (x ∷ rest)) (totals (without_dropped rest))) (made place place (totals (x ∷ rest)) (totals (x ∷ rest))) ≡ made place (cond t (kept_place (suc place) rest) place) (totals (x ∷ rest)) (totals (cond t (without_dropped rest) (x ∷ rest)))) [ true ↦ refl | false ↦ refl ]

pub at_before : (xs : List Item) (i : ℕ) (d : Item) → i < length xs → with_before (get_or xs i d) (break_at xs (suc i)) ≡ break_at xs i
at_before xs i d h =
    one_before i (get_or xs i d) (drop (suc i) xs) ∙ ap (λ (ys : List Item). break_before i ys) (sym (front_is xs i d h))

pub at_end : (xs : List Item) → break_at xs (length xs) ≡ break_before (length xs) []
at_end xs = let e : drop (length xs) xs ≡ [] = grind (arith, common_steps) in ap (λ (ys : List Item). break_before (length xs) ys) e

pub one_legal : (xs : List Item) (i : ℕ) → i < length xs → breaks_from xs i ≡ cond (is_legal xs i) (break_at xs i ∷ breaks_from xs (i + 1)) (breaks_from xs (i + 1))
one_legal xs i h =
    let n : length xs - i ≡ suc (length xs - (i + 1)) = omega (arith, h) in
    let rest = filter (is_legal xs) (range_with_len (i + 1) (length xs - (i + 1))) in
    ap (λ m. map (break_at xs) (filter (is_legal xs) (range_with_len i m))) n
    ∙ elim (is_legal xs i) as (λ t. map (break_at xs) (cond t (i ∷ rest) rest) ≡ cond t (break_at xs i ∷ map (break_at xs) rest) (map (break_at xs) rest)) [ true ↦ refl | false ↦ refl ]

pub legal_is : (xs : List Item) (i : ℕ) (a b : Bool) (x : Item) → i < length xs → x ≡ get_or xs i x → a ≡ is_after_solid xs i → b ≡ begins_with_glue (drop (i + 1) xs) → can_end_at a b x ≡ is_legal xs i
unfolding is_legal
legal_is xs i a b x h e f g =
    let rest : drop i xs ≡ x ∷ drop (i + 1) xs = front_is xs i x h ∙ ap (λ (y : Item). y ∷ drop (suc i) xs) (sym e) ∙ ap (λ n. x ∷ drop n xs) (sym (add-one i)) in
    ap (λ t. can_end_at t b x) f
    ∙ ap (λ t. can_end_at (is_after_solid xs i) t x) g
    ∙ ap (λ (ys : List Item). can_end_before (is_after_solid xs i) ys) (sym rest)

solid_is : (xs : List Item) (i : ℕ) (d : Item) → i < length xs → is_solid (get_or xs i d) ≡ begins_solid (drop i xs)
solid_is xs i d h = ap (λ (ys : List Item). begins_solid ys) (sym (front_is xs i d h))

pub after_solid_is : (xs : List Item) (i : ℕ) (x : Item) → 0 < i → i < length xs → x ≡ get_or xs (i - 1) x → is_solid x ≡ is_after_solid xs i
after_solid_is xs zero x h k e = absurd (omega (arith, h))
after_solid_is xs (suc i) x h k e = let back : suc i - 1 ≡ i = omega arith in ap (λ (y : Item). is_solid y) (e ∙ ap (λ n. get_or xs n x) back) ∙ solid_is xs i x (omega (arith, k))

pub item_sound : (xs : List Item) (i : ℕ) (x : Item) → i < length xs → x ≡ get_or xs i x → AreSoundItems xs → (dir : Dir) × IsSoundItem dir (tree_item x)
item_sound xs i x h e s =
    let all : AreSound s.0 (tree_items (get_or xs i x ∷ drop (suc i) xs)) = subst (λ (ys : List Item). AreSound s.0 (tree_items ys)) (front_is xs i x h) (drop_sound s.0 xs i s.1) in
    (s.0, subst (λ (y : Item). IsSoundItem s.0 (tree_item y)) (sym e) all.0)

pub here_near : (xs : List Item) (b : Break) → length xs ≤ 700000 → AreSoundItems xs → b ≡ break_at xs b.place → AreNear (2 ^ 60) b.from
here_near xs b l s e = subst (λ (c : Break). AreNear (2 ^ 60) c.from) (sym e) (nearer (totals (drop b.place xs)) (from_near xs b.place l s))

-- the break one item nearer to the front
pub record IsNext (xs : List Item) (here new : Break) : Type 0 where
  pub inside : new.place ≤ length xs
  pub next : new.place + 1 ≡ here.place
  pub is : new ≡ break_at xs new.place

next_from : (xs : List Item) (n : ℕ) (here new : Break) (x : Item) → here.place ≡ n → 0 < n → n ≤ length xs → here ≡ break_at xs n → x ≡ get_or xs (n - 1) x → new ≡ with_before x here → IsNext xs here new
next_from xs zero here new x p h k e f g = absurd (omega (arith, h))
next_from xs (suc i) here new x p h k e f g =
    let back : suc i - 1 ≡ i = omega arith in
    let is : new ≡ break_at xs i = g ∙ ap (λ (c : Break). with_before x c) e ∙ ap (λ (y : Item). with_before y (break_at xs (suc i))) (f ∙ ap (λ m. get_or xs m x) back) ∙ at_before xs i x (omega (arith, k)) in
    let place : new.place ≡ i = ap (λ (c : Break). c.place) is in
    record { inside = omega (arith, place, k); next = omega (arith, place, p); is = is ∙ ap (break_at xs) (sym place) }

pub next_is : (xs : List Item) (here new : Break) (x : Item) → 0 < here.place → here.place ≤ length xs → here ≡ break_at xs here.place → x ≡ get_or xs (here.place - 1) x → new ≡ with_before x here → IsNext xs here new
next_is xs here new x h k e f g = next_from xs here.place here new x refl h k e f g

abbrev pub IsRunning : List Item → Break → List Break → Type 0
IsRunning xs here breaks = (here.place ≤ length xs) × (here ≡ break_at xs here.place) × (reverse breaks ≡ breaks_from xs here.place)

pub next_legal : (xs : List Item) (here new : Break) (old now : List Break) → IsNext xs here new → here.place ≤ length xs → is_legal xs new.place ≡ true → now ≡ old ++ new ∷ [] → reverse old ≡ breaks_from xs here.place → reverse now ≡ breaks_from xs new.place
next_legal xs here new old now n h t e f =
    ap reverse e
    ∙ reverse-append old (new ∷ [])
    ∙ ap (λ (bs : List Break). new ∷ bs) (f ∙ ap (breaks_from xs) (sym n.next))
    ∙ ap (λ (b : Break). b ∷ breaks_from xs (new.place + 1)) n.is
    ∙ sym (one_legal xs new.place (omega (arith, n.next, h)) ∙ ap (λ u. cond u (break_at xs new.place ∷ breaks_from xs (new.place + 1)) (breaks_from xs (new.place + 1))) t)

pub next_other : (xs : List Item) (here new : Break) (old : List Break) → IsNext xs here new → here.place ≤ length xs → is_legal xs new.place ≡ false → reverse old ≡ breaks_from xs here.place → reverse old ≡ breaks_from xs new.place
next_other xs here new old n h t f =
    f ∙ ap (breaks_from xs) (sym n.next)
    ∙ sym (one_legal xs new.place (omega (arith, n.next, h)) ∙ ap (λ u. cond u (break_at xs new.place ∷ breaks_from xs (new.place + 1)) (breaks_from xs (new.place + 1))) t)
