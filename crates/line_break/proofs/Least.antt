-- No walk of admissible lines has a lower sum.
use Rattle.std.proofs.Common.{◌≡◌, ℕ, zero, suc, ◌+◌, ◌≤◌, Bool, true, false, cond, List, [], ◌∷◌, Option, Some, None, ◌⊎◌, inl, inr, refl, subst, sym, ◌∙◌, ap, arith, ℤ, pos, ◌+ℤ◌, ◌≤ℤ◌, int_lt, int_le, unsigned_abs, IsSomeAnd, ◌&&◌, eq-eqb, eqb-true, add-zero, add-suc, ◌-◌, ◌==◌, negsuc}
use Rattle.std.specs.List.{fold, filter, filter_map}
use Rattle.std.proofs.lemmas.Int.{ints}
use Rattle.std.proofs.lemmas.Bool.{and_from, and_parts}
use Rattle.line_break.specs.declared.weight.Class.{Class}
use Rattle.line_break.specs.declared.weight.Class.TheVariants.{VeryLoose, Loose, Decent, Tight}
use Rattle.line_break.specs.Lines.{Pass, weight, demerits, rank, apart}
use Rattle.line_break.specs.Best.{State, start, is_admissible, after_line, later_least, earlier_least, leads_to, with_line, least, classes, best_of, is_near, reached, new_states, states_to, chosen, last_break, or_rescue}
use Rattle.line_break.specs.Walks.{IsWalk, class_at, walk_sum, IsLeast}
use Rattle.line_break.proofs.Members.{Has, has_left, has_right, has_filter, has_filter_map, has_mapped}

-- the result is a state whose sum is at most w
pub record AtMost (o : Option State) (w : ℤ) : Type 0 where
  pub state : State
  pub is : o ≡ Some state
  pub below : state.sum ≤ℤ w

later_least-old : (best : Option State) (y : State) (w : ℤ) → AtMost best w → AtMost (later_least best y) w
later_least-old None y w h = absurd (cc (h.is))
later_least-old (Some x) y w h =
    let same : x ≡ h.state = cc (h.is) in
    let low : x.sum ≤ℤ w = rw same h.below in
    elim (int_lt x.sum y.sum) as (λ b. int_lt x.sum y.sum ≡ b → AtMost (cond b (Some x) (Some y)) w) [
      | true ↦ λ e. record { state = x; is = refl; below = low }
      | false ↦ λ e. record { state = y; is = refl; below = grind (arith, ints) }
    ] refl

later_least-new : (best : Option State) (y : State) → AtMost (later_least best y) y.sum
later_least-new None y = record { state = y; is = refl; below = omega (arith, ints) }
later_least-new (Some x) y =
    elim (int_lt x.sum y.sum) as (λ b. int_lt x.sum y.sum ≡ b → AtMost (cond b (Some x) (Some y)) y.sum) [
      | true ↦ λ e. record { state = x; is = refl; below = grind (arith, ints) }
      | false ↦ λ e. record { state = y; is = refl; below = omega (arith, ints) }
    ] refl

with_line-old : (p : Pass) (b : ℕ) (c : Class) (best : Option State) (x : State) (w : ℤ) → AtMost best w → AtMost (with_line p b c best x) w
with_line-old p b c best x w h =
    elim (leads_to p b c x) as (λ t. AtMost (cond t (later_least best (after_line p b x)) best) w) [
      | true ↦ later_least-old best (after_line p b x) w h
      | false ↦ h
    ]

with_line-new : (p : Pass) (b : ℕ) (c : Class) (best : Option State) (x : State) → leads_to p b c x ≡ true → AtMost (with_line p b c best x) (after_line p b x).sum
with_line-new p b c best x h = rw h (later_least-new best (after_line p b x))

keeps_least : (p : Pass) (b : ℕ) (c : Class) (best : Option State) (states : List State) (w : ℤ) → AtMost best w → AtMost (fold (with_line p b c) best states) w
keeps_least p b c best [] w h = h
keeps_least p b c best (x ∷ states) w h = keeps_least p b c (with_line p b c best x) states w (with_line-old p b c best x w h)

-- of all states from which a line of the class leads to b, none leads there with less
least_below : (p : Pass) (b : ℕ) (c : Class) (best : Option State) (states : List State) (x : State) → Has x states → leads_to p b c x ≡ true → AtMost (fold (with_line p b c) best states) (after_line p b x).sum
least_below p b c best [] x m h = absurd m
least_below p b c best (z ∷ states) x (inl same) h =
    let P : State → Type 0 = λ s. AtMost (with_line p b c best s) (after_line p b x).sum in
    keeps_least p b c (with_line p b c best z) states (after_line p b x).sum (subst P (sym same) (with_line-new p b c best x h))
least_below p b c best (z ∷ states) x (inr m) h = least_below p b c (with_line p b c best z) states x m h

-- ---- the best of some states

earlier_least-old : (best : Option State) (y : State) (w : ℤ) → AtMost best w → AtMost (earlier_least best y) w
earlier_least-old None y w h = absurd (cc (h.is))
earlier_least-old (Some x) y w h =
    let same : x ≡ h.state = cc (h.is) in
    let low : x.sum ≤ℤ w = rw same h.below in
    elim (int_lt y.sum x.sum) as (λ b. int_lt y.sum x.sum ≡ b → AtMost (cond b (Some y) (Some x)) w) [
      | true ↦ λ e. record { state = y; is = refl; below = grind (arith, ints) }
      | false ↦ λ e. record { state = x; is = refl; below = low }
    ] refl

earlier_least-new : (best : Option State) (y : State) → AtMost (earlier_least best y) y.sum
earlier_least-new None y = record { state = y; is = refl; below = omega (arith, ints) }
earlier_least-new (Some x) y =
    elim (int_lt y.sum x.sum) as (λ b. int_lt y.sum x.sum ≡ b → AtMost (cond b (Some y) (Some x)) y.sum) [
      | true ↦ λ e. record { state = y; is = refl; below = omega (arith, ints) }
      | false ↦ λ e. record { state = x; is = refl; below = grind (arith, ints) }
    ] refl

keeps_best : (best : Option State) (states : List State) (w : ℤ) → AtMost best w → AtMost (fold earlier_least best states) w
keeps_best best [] w h = h
keeps_best best (x ∷ states) w h = keeps_best (earlier_least best x) states w (earlier_least-old best x w h)

best_below : (best : Option State) (states : List State) (x : State) → Has x states → AtMost (fold earlier_least best states) x.sum
best_below best [] x m = absurd m
best_below best (z ∷ states) x (inl same) =
    let P : State → Type 0 = λ s. AtMost (fold earlier_least (earlier_least best s) states) x.sum in
    subst P (sym same) (keeps_best (earlier_least best x) states x.sum (earlier_least-new best x))
best_below best (z ∷ states) x (inr m) = best_below (earlier_least best z) states x m

earlier_least-one : (best : Option State) (y z : State) → earlier_least best y ≡ Some z → (best ≡ Some z) ⊎ (y ≡ z)
earlier_least-one None y z e = inr (cc e)
earlier_least-one (Some x) y z e =
    elim (int_lt y.sum x.sum) as (λ b. cond b (Some y) (Some x) ≡ Some z → (Some x ≡ Some z) ⊎ (y ≡ z)) [
      | true ↦ λ f. inr (cc f)
      | false ↦ λ f. inl f
    ] e

best_member : (best : Option State) (states : List State) (z : State) → fold earlier_least best states ≡ Some z → (best ≡ Some z) ⊎ Has z states
best_member best [] z e = inl e
best_member best (x ∷ states) z e =
    elim (best_member (earlier_least best x) states z e) as (λ _. (best ≡ Some z) ⊎ Has z (x ∷ states)) [
      | inl f ↦ elim (earlier_least-one best x z f) as (λ _. (best ≡ Some z) ⊎ Has z (x ∷ states)) [ inl g ↦ inl g | inr g ↦ inr (inl g) ]
      | inr m ↦ inr (inr m)
    ]

pub best_of_member : (states : List State) (z : State) → best_of states ≡ Some z → Has z states
best_of_member states z e = elim (best_member None states z e) as (λ _. Has z states) [ inl f ↦ absurd (cc f) | inr m ↦ m ]

-- ---- where a least state comes from

pub record FromLine (p : Pass) (b : ℕ) (c : Class) (states : List State) (z : State) : Type 0 where
  pub before : State
  pub there : Has before states
  pub leads : leads_to p b c before ≡ true
  pub is : z ≡ after_line p b before

later_least-one : (best : Option State) (y z : State) → later_least best y ≡ Some z → (best ≡ Some z) ⊎ (y ≡ z)
later_least-one None y z e = inr (cc e)
later_least-one (Some x) y z e =
    elim (int_lt x.sum y.sum) as (λ b. cond b (Some x) (Some y) ≡ Some z → (Some x ≡ Some z) ⊎ (y ≡ z)) [
      | true ↦ λ f. inl f
      | false ↦ λ f. inr (cc f)
    ] e

with_line-one : (p : Pass) (b : ℕ) (c : Class) (best : Option State) (x z : State) → with_line p b c best x ≡ Some z → (best ≡ Some z) ⊎ ((leads_to p b c x ≡ true) × (z ≡ after_line p b x))
with_line-one p b c best x z e =
    elim (leads_to p b c x) as (λ t. leads_to p b c x ≡ t → cond t (later_least best (after_line p b x)) best ≡ Some z → (best ≡ Some z) ⊎ ((leads_to p b c x ≡ true) × (z ≡ after_line p b x))) [
      | true ↦ λ t f. elim (later_least-one best (after_line p b x) z f) as (λ _. (best ≡ Some z) ⊎ ((leads_to p b c x ≡ true) × (z ≡ after_line p b x))) [ inl g ↦ inl g | inr g ↦ inr (t, sym g) ]
      | false ↦ λ t f. inl f
    ] refl e

wider : (p : Pass) (b : ℕ) (c : Class) (x : State) (states : List State) (z : State) → FromLine p b c states z → FromLine p b c (x ∷ states) z
wider p b c x states z h = record { before = h.before; there = inr h.there; leads = h.leads; is = h.is }

least_member : (p : Pass) (b : ℕ) (c : Class) (best : Option State) (states : List State) (z : State) → fold (with_line p b c) best states ≡ Some z → (best ≡ Some z) ⊎ FromLine p b c states z
least_member p b c best [] z e = inl e
least_member p b c best (x ∷ states) z e =
    elim (least_member p b c (with_line p b c best x) states z e) as (λ _. (best ≡ Some z) ⊎ FromLine p b c (x ∷ states) z) [
      | inl f ↦ elim (with_line-one p b c best x z f) as (λ _. (best ≡ Some z) ⊎ FromLine p b c (x ∷ states) z) [
        | inl g ↦ inl g
        | inr g ↦ inr (record { before = x; there = inl refl; leads = g.0; is = g.1 })
      ]
      | inr m ↦ inr (wider p b c x states z m)
    ]

pub least_from_line : (p : Pass) (b : ℕ) (c : Class) (states : List State) (z : State) → least p b states c ≡ Some z → FromLine p b c states z
least_from_line p b c states z e = elim (least_member p b c None states z e) as (λ _. FromLine p b c states z) [ inl f ↦ absurd (cc f) | inr m ↦ m ]

same_class : (c d : Class) → rank c ≡ rank d → c ≡ d
same_class VeryLoose VeryLoose e = refl
same_class VeryLoose Loose e = absurd (omega (arith, e))
same_class VeryLoose Decent e = absurd (omega (arith, e))
same_class VeryLoose Tight e = absurd (omega (arith, e))
same_class Loose VeryLoose e = absurd (omega (arith, e))
same_class Loose Loose e = refl
same_class Loose Decent e = absurd (omega (arith, e))
same_class Loose Tight e = absurd (omega (arith, e))
same_class Decent VeryLoose e = absurd (omega (arith, e))
same_class Decent Loose e = absurd (omega (arith, e))
same_class Decent Decent e = refl
same_class Decent Tight e = absurd (omega (arith, e))
same_class Tight VeryLoose e = absurd (omega (arith, e))
same_class Tight Loose e = absurd (omega (arith, e))
same_class Tight Decent e = absurd (omega (arith, e))
same_class Tight Tight e = refl

among_classes : (c : Class) → Has c classes
among_classes VeryLoose = inl refl
among_classes Loose = inr (inl refl)
among_classes Decent = inr (inr (inl refl))
among_classes Tight = inr (inr (inr (inl refl)))

-- ---- the law

-- a state at b does as well for any line from b as a walk of sum w whose last line has class c
pub record Covered (p : Pass) (states : List State) (b : ℕ) (c : Class) (w : ℤ) : Type 0 where
  pub state : State
  pub there : Has state states
  pub at_b : state.at ≡ b
  pub as_good : ((state.class ≡ c) × (state.sum ≤ℤ w)) ⊎ ((state.sum +ℤ pos (unsigned_abs p.shape.adj_demerits)) ≤ℤ w)

-- `\adjdemerits` makes no more difference than its absolute value, whatever its sign
adjusted : (adj a b : ℤ) (t u : Bool) → ((a +ℤ pos (unsigned_abs adj)) ≤ℤ b) → ((a +ℤ cond t adj (pos 0)) ≤ℤ (b +ℤ cond u adj (pos 0)))
adjusted (pos n) a b true true h = omega (arith, ints)
adjusted (pos n) a b true false h = omega (arith, ints)
adjusted (pos n) a b false true h = omega (arith, ints)
adjusted (pos n) a b false false h = omega (arith, ints)
adjusted (negsuc n) a b true true h = omega (arith, ints)
adjusted (negsuc n) a b true false h = omega (arith, ints)
adjusted (negsuc n) a b false true h = omega (arith, ints)
adjusted (negsuc n) a b false false h = omega (arith, ints)

-- one more line, from a state that is as good
line_sum : (p : Pass) (s b : ℕ) (c : Class) (w : ℤ) (x : State) → x.at ≡ s → ((x.class ≡ c) × (x.sum ≤ℤ w)) ⊎ ((x.sum +ℤ pos (unsigned_abs p.shape.adj_demerits)) ≤ℤ w) → (after_line p b x).sum ≤ℤ (w +ℤ demerits p c s b)
line_sum p s b c w x e (inl same) =
    let P : ℕ → Type 0 = λ n. (x.sum +ℤ demerits p x.class n b) ≤ℤ (w +ℤ demerits p c s b) in
    let Q : Class → Type 0 = λ d. (x.sum +ℤ demerits p d s b) ≤ℤ (w +ℤ demerits p c s b) in
    subst P (sym e) (subst Q (sym same.0) (omega (arith, ints)))
line_sum p s b c w x e (inr far) =
    let P : ℕ → Type 0 = λ n. (x.sum +ℤ demerits p x.class n b) ≤ℤ (w +ℤ demerits p c s b) in
    let cls = (weight p s b).class in
    let step = adjusted p.shape.adj_demerits x.sum w (apart x.class cls) (apart c cls) far in
    subst P (sym e) (omega (arith, ints, step))

or_rescue-reached : (p : Pass) (b : ℕ) (states ys : List State) (y : State) → Has y ys → Has y (or_rescue p b states ys)
or_rescue-reached p b states [] y m = absurd m
or_rescue-reached p b states (x ∷ ys) y m = m

pub is_near-best : (p : Pass) (found : List State) (z y : State) → best_of found ≡ Some z → y.sum ≤ℤ (z.sum +ℤ pos (unsigned_abs p.shape.adj_demerits)) → is_near p (best_of found) y ≡ true
is_near-best p found z y e h = rw e (grind (arith, ints))

-- what was found at b, the best of it and what is kept
kept_or_near : (p : Pass) (b : ℕ) (states : List State) (c : Class) (w : ℤ) (y z : State) → y.at ≡ b → y.class ≡ c → y.sum ≤ℤ w → Has y (filter_map (least p b states) classes) → best_of (filter_map (least p b states) classes) ≡ Some z → z.at ≡ b → Has z (filter_map (least p b states) classes) → Covered p (reached p b states) b c w
kept_or_near p b states c w y z ya yc yw my e za mz =
    let found = filter_map (least p b states) classes in
    let far = z.sum +ℤ pos (unsigned_abs p.shape.adj_demerits) in
    elim (int_le y.sum far) as (λ t. int_le y.sum far ≡ t → Covered p (reached p b states) b c w) [
      | true ↦ λ t. record {
        state = y;
        there = has_filter (is_near p (best_of found)) y found my (is_near-best p found z y e (grind (arith, ints)));
        at_b = ya;
        as_good = inl (yc, yw);
      }
      | false ↦ λ t. record {
        state = z;
        there = has_filter (is_near p (best_of found)) z found mz (is_near-best p found z z e (omega (arith, ints)));
        at_b = za;
        as_good = inr (grind (arith, ints));
      }
    ] refl

line_state : (p : Pass) (b : ℕ) (c : Class) (x z : State) → z ≡ after_line p b x → leads_to p b c x ≡ true → (z.at ≡ b) × (z.class ≡ c)
line_state p b c x z e leads =
    let tests = and_parts (is_admissible p x.at b) (rank (weight p x.at b).class == rank c) leads in
    (ap (λ (s : State). s.at) e, ap (λ (s : State). s.class) e ∙ same_class (weight p x.at b).class c (eqb-true (rank (weight p x.at b).class) (rank c) tests.1))

found_at : (p : Pass) (b : ℕ) (states : List State) (c : Class) (z : State) → least p b states c ≡ Some z → (z.at ≡ b) × (z.class ≡ c)
found_at p b states c z e = let from = least_from_line p b c states z e in line_state p b c from.before z from.is from.leads

any_found_at : (p : Pass) (b : ℕ) (states : List State) (z : State) → Has z (filter_map (least p b states) classes) → z.at ≡ b
any_found_at p b states z m = let from = has_mapped (least p b states) z classes m in (found_at p b states from.0 z from.1).0

at_least : (a b c : ℤ) → a ≤ℤ b → b ≤ℤ c → a ≤ℤ c
at_least a b c h k = omega (arith, ints)

-- one line more: what covers a walk to s covers the walk that goes on to b
arrives : (p : Pass) (b s : ℕ) (states : List State) (c : Class) (w : ℤ) → is_admissible p s b ≡ true → Covered p states s c w → Covered p (new_states p b states) b (weight p s b).class (w +ℤ demerits p c s b)
unfolding new_states
arrives p b s states c w adm h =
    let cls = (weight p s b).class in
    let P : ℕ → Type 0 = λ n. (is_admissible p n b && rank (weight p n b).class == rank cls) ≡ true in
    let leads : leads_to p b cls h.state ≡ true = subst P (sym h.at_b) (and_from (is_admissible p s b) (rank cls == rank cls) adm (eq-eqb (rank cls) (rank cls) refl)) in
    let low = least_below p b cls None states h.state h.there leads in
    let found = filter_map (least p b states) classes in
    let my = has_filter_map (least p b states) cls low.state classes (among_classes cls) low.is in
    let best = best_below None found low.state my in
    let mz = best_of_member found best.state best.is in
    let ys = found_at p b states cls low.state low.is in
    let sum = at_least low.state.sum (after_line p b h.state).sum (w +ℤ demerits p c s b) low.below (line_sum p s b c w h.state h.at_b h.as_good) in
    let kept = kept_or_near p b states cls (w +ℤ demerits p c s b) low.state best.state ys.0 ys.1 sum my best.is (any_found_at p b states best.state mz) mz in
    record { state = kept.state; there = or_rescue-reached p b states (reached p b states) kept.state kept.there; at_b = kept.at_b; as_good = kept.as_good }

stays : (p : Pass) (k n : ℕ) (x : State) → Has x (states_to p k) → Has x (states_to p (k + n))
unfolding states_to
stays p k zero x h = rw (add-zero k) h
stays p k (suc n) x h = rw (add-suc k n) (has_left x (states_to p (k + n)) (new_states p (suc (k + n)) (states_to p (k + n))) (stays p k n x h))

stays_to : (p : Pass) (k m : ℕ) (x : State) → k ≤ m → Has x (states_to p k) → Has x (states_to p m)
stays_to p k m x h there = let e : k + (m - k) ≡ m = omega arith in rw e at (stays p k (m - k) x there)

first : (p : Pass) → Has start (states_to p 0)
unfolding states_to
first p = inl refl

joins : (p : Pass) (k s : ℕ) (c : Class) (w : ℤ) → s ≤ k → is_admissible p s (suc k) ≡ true → Covered p (states_to p s) s c w → Covered p (states_to p (suc k)) (suc k) (weight p s (suc k)).class (w +ℤ demerits p c s (suc k))
unfolding states_to
joins p k s c w le adm h =
    let now : Covered p (states_to p k) s c w = record { state = h.state; there = stays_to p s k h.state le h.there; at_b = h.at_b; as_good = h.as_good } in
    let new = arrives p (suc k) s (states_to p k) c w adm now in
    record { state = new.state; there = has_right new.state (states_to p k) (new_states p (suc k) (states_to p k)) new.there; at_b = new.at_b; as_good = new.as_good }

-- every walk of admissible lines is covered at its end
pub covers : (p : Pass) (b : ℕ) (walk : List ℕ) → IsWalk p b walk → Covered p (states_to p b) b (class_at p b walk) (walk_sum p b walk)
covers p b [] e =
    let P : ℕ → Type 0 = λ n. Covered p (states_to p n) n Decent (pos 0) in
    subst P (sym e) (record { state = start; there = first p; at_b = refl; as_good = inl (refl, omega (arith, ints)) })
covers p zero (s ∷ earlier) w = absurd (omega (arith, w.0))
covers p (suc k) (s ∷ earlier) w = joins p k s (class_at p s earlier) (walk_sum p s earlier) (omega (arith, w.0)) w.1 (covers p s earlier w.2)

ends : (p : Pass) (c : Class) (w : ℤ) → Covered p (states_to p (last_break p)) (last_break p) c w → IsSomeAnd (chosen p) (λ x. x.sum ≤ℤ w)
unfolding chosen
ends p c w h =
    let here = has_filter (λ (x : State). x.at == last_break p) h.state (states_to p (last_break p)) h.there (eq-eqb h.state.at (last_break p) h.at_b) in
    let best = best_below None (filter (λ (x : State). x.at == last_break p) (states_to p (last_break p))) h.state here in
    let low : h.state.sum ≤ℤ w = elim h.as_good as (λ _. h.state.sum ≤ℤ w) [ inl a ↦ a.1 | inr a ↦ omega (arith, ints) ] in
    rw best.is (at_least best.state.sum h.state.sum w best.below low)

pub no_walk_is_less : (p : Pass) → IsLeast p
no_walk_is_less p walk h = ends p (class_at p (last_break p) walk) (walk_sum p (last_break p) walk) (covers p (last_break p) walk h)
