-- Each coding pairs a number with at most one cell, and a cell with exactly one number.
use Rattle.std.specs.Prelude.{◌≡◌, ℕ, Option, Some, None}
use Rattle.jis_codes.specs.Kuten.{Kuten, IsKuten}
use Rattle.jis_codes.specs.Spellings.{Coding, Spells}

abbrev pub AtMostOneCell : Type 0
AtMostOneCell = (coding : Coding) (number : ℕ) (a b : Kuten) → Spells coding number a → Spells coding number b → a ≡ b

-- the cell has this number and no other
abbrev pub IsOnlyNumber : Coding → Kuten → ℕ → Type 0
IsOnlyNumber coding k number = Spells coding number k × ((other : ℕ) → Spells coding other k → other ≡ number)

abbrev pub ExactlyOneNumber : Type 0
ExactlyOneNumber = (coding : Coding) (k : Kuten) → IsKuten k → (number : ℕ) × IsOnlyNumber coding k number

-- the cell of this number, or none where no cell has it
abbrev pub IsCellOf : Coding → ℕ → Option Kuten → Type 0
IsCellOf coding number (Some k) = Spells coding number k
IsCellOf coding number None = (k : Kuten) → ¬ (Spells coding number k)
