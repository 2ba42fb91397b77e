-- What all values of tables have.
use Rattle.std.specs.Prelude.{ℕ, List, [], ◌∷◌, IfSome}
use Rattle.layered_tables.specs.Tables.{Table, value_at}

module _ {X : Type 0} where
  -- each value of a table
  abbrev pub HasAll : (X → Type 0) → Table X → Type 0
  HasAll P t = (n : ℕ) → IfSome (value_at t n) P

  -- each value of each table
  abbrev pub HaveAll : (X → Type 0) → List (Table X) → Type 0
  HaveAll P [] = Unit {0}
  HaveAll P (t ∷ ts) = HasAll P t × HaveAll P ts
