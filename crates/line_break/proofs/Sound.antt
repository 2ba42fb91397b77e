-- Without a rescue each state stands for a walk of admissible lines.
use Rattle.std.proofs.Common.{◌≡◌, ℕ, zero, suc, ◌≤◌, true, false, List, [], ◌∷◌, ◌++◌, Some, None, ◌⊎◌, inl, inr, refl, subst, sym, ◌∙◌, ap, arith, ℤ, ◌+ℤ◌, IfSome, ◌&&◌, eqb-true, ◌==◌}
use Rattle.std.specs.List.{filter, filter_map}
use Rattle.std.proofs.lemmas.Bool.{and_parts}
use Rattle.line_break.specs.declared.weight.Class.{Class}
use Rattle.line_break.specs.Lines.{Pass, weight, demerits, rank}
use Rattle.line_break.specs.Best.{State, is_admissible, after_line, least, classes, best_of, is_near, reached, new_states, states_to, chosen, last_break, or_rescue, all_close}
use Rattle.line_break.specs.Walks.{IsWalk, class_at, walk_sum, is_empty, NeedsNoRescue, IsOfAdmissibleLines}
use Rattle.line_break.proofs.Members.{Has, has_filtered, has_mapped}
use Rattle.line_break.proofs.Least.{least_from_line, best_of_member}

pub record Good (p : Pass) (k : ℕ) (x : State) : Type 0 where
  pub met : x.at ≤ k
  pub walk : IsWalk p x.at x.walk
  pub class : class_at p x.at x.walk ≡ x.class
  pub sum : walk_sum p x.at x.walk ≡ x.sum

good-line : (p : Pass) (k : ℕ) (x : State) → Good p k x → is_admissible p x.at (suc k) ≡ true → Good p (suc k) (after_line p (suc k) x)
good-line p k x h adm = record {
  met = omega arith;
  walk = (omega (arith, h.met), adm, h.walk);
  class = refl;
  sum = ap (λ (c : Class). walk_sum p x.at x.walk +ℤ demerits p c x.at (suc k)) h.class ∙ ap (λ (w : ℤ). w +ℤ demerits p x.class x.at (suc k)) h.sum;
}

good-later : (p : Pass) (k : ℕ) (x : State) → Good p k x → Good p (suc k) x
good-later p k x h = record { met = omega (arith, h.met); walk = h.walk; class = h.class; sum = h.sum }

has_either : {X : Type 0} (x : X) (xs ys : List X) → Has x (xs ++ ys) → Has x xs ⊎ Has x ys
has_either x [] ys h = inr h
has_either x (z ∷ xs) ys (inl e) = inl (inl e)
has_either x (z ∷ xs) ys (inr h) = elim (has_either x xs ys h) as (λ _. ((z ≡ x) ⊎ Has x xs) ⊎ Has x ys) [ inl a ↦ inl (inr a) | inr b ↦ inr b ]

not-rescued : (p : Pass) (b : ℕ) (states found : List State) (x : State) → (is_empty found && (p.is_last && all_close p b states)) ≡ false → Has x (or_rescue p b states found) → Has x found
not-rescued p b states (y ∷ ys) x e h = h
not-rescued p b states [] x e h = rw e at h

good-reached : (p : Pass) (k : ℕ) (states : List State) (x : State) → ((y : State) → Has y states → Good p k y) → Has x (reached p (suc k) states) → Good p (suc k) x
good-reached p k states x all h =
    let found = has_filtered (is_near p (best_of (filter_map (least p (suc k) states) classes))) x (filter_map (least p (suc k) states) classes) h in
    let from = has_mapped (least p (suc k) states) x classes found.0 in
    let line = least_from_line p (suc k) from.0 states x from.1 in
    let tests = and_parts (is_admissible p line.before.at (suc k)) (rank (weight p line.before.at (suc k)).class == rank from.0) line.leads in
    let P : State → Type 0 = Good p (suc k) in
    subst P (sym line.is) (good-line p k line.before (all line.before line.there) tests.0)

good-all : (p : Pass) (k : ℕ) → NeedsNoRescue p → k ≤ last_break p → (x : State) → Has x (states_to p k) → Good p k x
unfolding states_to new_states
good-all p zero unrescued le x (inl e) =
    let P : State → Type 0 = Good p zero in
    subst P e (record { met = omega arith; walk = refl; class = refl; sum = refl })
good-all p zero unrescued le x (inr h) = absurd h
good-all p (suc k) unrescued le x h =
    let below : k ≤ last_break p = omega (arith, le) in
    elim (has_either x (states_to p k) (new_states p (suc k) (states_to p k)) h) as (λ _. Good p (suc k) x) [
      | inl a ↦ good-later p k x (good-all p k unrescued below x a)
      | inr b ↦ good-reached p k (states_to p k) x (λ y m. good-all p k unrescued below y m) (not-rescued p (suc k) (states_to p k) (reached p (suc k) (states_to p k)) x (unrescued k (omega (arith, le))) b)
    ]

pub is_of_admissible_lines : (p : Pass) → NeedsNoRescue p → IsOfAdmissibleLines p
unfolding chosen
is_of_admissible_lines p unrescued =
    let here = filter (λ (x : State). x.at == last_break p) (states_to p (last_break p)) in
    elim (best_of here) as (λ o. best_of here ≡ o → IfSome o (λ x. IsWalk p (last_break p) x.walk × (walk_sum p (last_break p) x.walk ≡ x.sum))) [
      | None ↦ λ e. tt
      | Some x ↦ λ e.
          let there = has_filtered (λ (y : State). y.at == last_break p) x (states_to p (last_break p)) (best_of_member here x e) in
          let good = good-all p (last_break p) unrescued (omega arith) x there.0 in
          let at : x.at ≡ last_break p = eqb-true x.at (last_break p) there.1 in
          let P : ℕ → Type 0 = λ n. IsWalk p n x.walk × (walk_sum p n x.walk ≡ x.sum) in
          subst P at (good.walk, good.sum)
    ] refl
