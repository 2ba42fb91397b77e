-- The places of JIS X 0208: 94 rows of 94 cells.
use Rattle.std.specs.Prelude.{ℕ, ◌≤◌}

pub record Kuten : Type 0 where
  pub row : ℕ
  pub cell : ℕ

-- a row and a cell that there are
abbrev pub IsKuten : Kuten → Type 0
IsKuten k = (1 ≤ k.row) × (k.row ≤ 94) × (1 ≤ k.cell) × (k.cell ≤ 94)
