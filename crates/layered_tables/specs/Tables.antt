-- Tables: finite maps from numbers to what was set there.
use Rattle.std.specs.Prelude.{ℕ, List, [], ◌∷◌, Option, Some, None}
use Rattle.std.specs.Option.{option_map}
use Rattle.std.specs.Ordering.{nat_cmp}
use Rattle.std.specs.FinMap as map
use Rattle.std.specs.Coded.{Coded, code_by, coded×, coded_ℕ}
use Rattle.std.specs.Prelude.{refl, Bool}
use Rattle.layered_tables.specs.declared.kept.Kept.{Kept}
use Rattle.layered_tables.specs.Environments.{in_those_from, set}

abbrev pub Table : Type 0 → Type 0
Table X = map.FinMap nat_cmp (Kept X)

abbrev pub kept_code : {X : Type 0} → Coded X → Coded (Kept X)
kept_code {X} x = code_by (X × ℕ) (coded× x coded_ℕ) (λ k. (k.value, k.member)) (λ p. record { value = p.0; member = p.1 }) (λ _. refl)

abbrev pub table_code : {X : Type 0} → Coded X → Coded (Table X)
table_code x = map.code coded_ℕ (kept_code x)

module _ {X : Type 0} where
  -- what stands at a number: none where nothing was ever set there
  abbrev pub value_at : Table X → ℕ → Option X
  value_at t n = option_map (λ kept. kept.value) (map.get t n)

  -- in which environment it was set: what was never set counts as set in number 1
  abbrev pub member_of : Option (Kept X) → ℕ
  member_of None = 1
  member_of (Some kept) = kept.member

  abbrev pub member_at : Table X → ℕ → ℕ
  member_at t n = member_of (map.get t n)

  -- a table with a value, set in the environment of this number
  abbrev pub put : ℕ → X → ℕ → Table X → Table X
  put n value member t = map.insert t n (record { value = value; member = member })

  -- the innermost table
  abbrev pub innermost : List (Table X) → Table X
  innermost [] = map.empty
  innermost (t ∷ ts) = t

  -- a value is set at a number
  abbrev pub with_set : ℕ → X → Bool → List (Table X) → List (Table X)
  with_set n value is_global ts = set is_global (put n value) ts

  -- The present value at a number is exchanged for another one: in the environment in which it was set, and in all after it.
  abbrev pub with_replaced : ℕ → X → List (Table X) → List (Table X)
  with_replaced n value ts =
      let member = member_at (innermost ts) n in in_those_from member (put n value member) ts
