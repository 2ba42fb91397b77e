-- What all values of tables have is kept.
use Rattle.std.proofs.Common.{◌≡◌, ◌≢◌, ℕ, List, [], ◌∷◌, Option, Some, None, Bool, true, false, IfSome, cond, ap, sym, subst, ⊎_elim}
use Rattle.std.proofs.lemmas.Bool.{cases_eq}
use Rattle.std.specs.Ordering.{nat_cmp}
use Rattle.std.specs.Option.{option_map}
use Rattle.std.specs.FinMap as fin
use Rattle.layered_tables.specs.declared.kept.Kept.{Kept}
use Rattle.layered_tables.specs.Environments.{opened, closed, in_all, in_innermost, in_those_from}
use Rattle.layered_tables.specs.Tables.{Table, value_at, member_at, put, innermost, with_set, with_replaced}
use Rattle.layered_tables.specs.Values.{HasAll, HaveAll}
use Rattle.layered_tables.proofs.Writing.{get-write_there, get-write_apart}

module _ {X : Type 0} where
  pub value_there : (n : ℕ) (value : X) (m : ℕ) (t : Table X) → value_at (put n value m t) n ≡ Some value
  value_there n value m t = ap (option_map (λ kept. kept.value)) (get-write_there n (Some (record { value = value; member = m })) t)

  pub value_apart : (n : ℕ) (value : X) (m : ℕ) (t : Table X) (q : ℕ) → q ≢ n → value_at (put n value m t) q ≡ value_at t q
  value_apart n value m t q apart = ap (option_map (λ kept. kept.value)) (get-write_apart n (Some (record { value = value; member = m })) t q apart)

module _ {X : Type 0} (P : X → Type 0) where
  pub has_none : HasAll P fin.empty
  has_none n = let Q : Option (Kept X) → Type 0 = λ o. IfSome (option_map (λ kept. kept.value) o) P in subst Q (sym (fin.get-empty nat_cmp n)) tt

  pub has_put : (n : ℕ) (value : X) (m : ℕ) (t : Table X) → P value → HasAll P t → HasAll P (put n value m t)
  has_put n value m t of_value of_t q =
      let Q : Option X → Type 0 = λ o. IfSome o P in
      ⊎_elim
      (λ here. let R : ℕ → Type 0 = λ k. IfSome (value_at (put n value m t) k) P in
      subst R (sym here) (subst Q (sym (value_there n value m t)) of_value))
      (λ apart. subst Q (sym (value_apart n value m t q apart)) (of_t q))
      (cases_eq q n)

  in_each : (f : Table X → Table X) (ts : List (Table X)) → ((t : Table X) → HasAll P t → HasAll P (f t)) → HaveAll P ts → HaveAll P (in_all f ts)
  in_each f [] keeps of = tt
  in_each f (t ∷ ts) keeps of = (keeps t of.0, in_each f ts keeps of.1)

  in_first : (f : ℕ → Table X → Table X) (ts : List (Table X)) → ((m : ℕ) (t : Table X) → HasAll P t → HasAll P (f m t)) → HaveAll P ts
      → HaveAll P (in_innermost f ts)
  in_first f [] keeps of = tt
  in_first f (t ∷ ts) keeps of = (keeps _ t of.0, of.1)

  either : (b : Bool) (ts us : List (Table X)) → HaveAll P ts → HaveAll P us → HaveAll P (cond b ts us)
  either true ts us of_ts of_us = of_ts
  either false ts us of_ts of_us = of_us

  in_some : (m : ℕ) (f : Table X → Table X) (ts : List (Table X)) → ((t : Table X) → HasAll P t → HasAll P (f t)) → HaveAll P ts
      → HaveAll P (in_those_from m f ts)
  in_some m f [] keeps of = tt
  in_some m f (t ∷ ts) keeps of = either _ (f t ∷ in_those_from m f ts) (t ∷ ts) (keeps t of.0, in_some m f ts keeps of.1) of

  -- in all tables what is set has it
  pub have_set : (n : ℕ) (value : X) (b : Bool) (ts : List (Table X)) → P value → HaveAll P ts → HaveAll P (with_set n value b ts)
  have_set n value true ts of_value of = in_each (put n value 1) ts (λ t. has_put n value 1 t of_value) of
  have_set n value false ts of_value of = in_first (put n value) ts (λ m t. has_put n value m t of_value) of

  pub have_replaced : (n : ℕ) (value : X) (ts : List (Table X)) → P value → HaveAll P ts → HaveAll P (with_replaced n value ts)
  have_replaced n value ts of_value of =
      let m = member_at (innermost ts) n in in_some m (put n value m) ts (λ t. has_put n value m t of_value) of

  pub have_opened : (ts : List (Table X)) → HaveAll P ts → HaveAll P (opened ts)
  have_opened [] of = tt
  have_opened (t ∷ ts) of = (of.0, of)

  pub have_closed : (ts : List (Table X)) → HaveAll P ts → HaveAll P (closed ts)
  have_closed [] of = tt
  have_closed (t ∷ ts) of = of.1

  pub have_none : HaveAll P (fin.empty ∷ [])
  have_none = (has_none, tt)

  pub has_innermost : (ts : List (Table X)) → HaveAll P ts → HasAll P (innermost ts)
  has_innermost [] of = has_none
  has_innermost (t ∷ ts) of = of.0

module _ {X : Type 0} (P Q : X → Type 0) where
  if_some : (o : Option X) → ((x : X) → P x → Q x) → IfSome o P → IfSome o Q
  if_some None more of = tt
  if_some (Some x) more of = more x of

  pub have_more : (ts : List (Table X)) → ((x : X) → P x → Q x) → HaveAll P ts → HaveAll Q ts
  have_more [] more of = tt
  have_more (t ∷ ts) more of = (λ n. if_some (value_at t n) more (of.0 n), have_more ts more of.1)
