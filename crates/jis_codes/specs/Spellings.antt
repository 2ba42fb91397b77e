-- The numbers that stand for a cell of JIS X 0208: two bytes as a number, high byte first (JIS X 0208, EUC-JP and
-- Shift_JIS), or the row and the cell as they are counted (kuten).
use Rattle.std.specs.Prelude.{◌≡◌, ℕ, ◌+◌, ◌-◌, ◌*◌, ◌/◌, ◌%◌, ◌<◌, ◌≤◌, ◌⊎◌, nat_le, if◌then◌else◌}
use Rattle.jis_codes.specs.Kuten.{Kuten, IsKuten}

pub data Coding : Type 0 where
  jis : Coding
  euc : Coding
  shift_jis : Coding
  kuten : Coding

abbrev pub two_bytes : ℕ → ℕ → ℕ
two_bytes high low = 256 * high + low

-- Shift_JIS: two rows have one lead byte, and the trail byte says which of the two. Rows up to 62 have the lead
-- bytes from 0x81 and those above have theirs from 0xE0.
abbrev pub low_lead : ℕ → ℕ
low_lead row = (row - 1) / 2 + 0x81

abbrev pub high_lead : ℕ → ℕ
high_lead row = (row - 1) / 2 + 0xC1

-- in an odd row no cell has the trail byte 0x7F
abbrev pub odd_trail : ℕ → ℕ
odd_trail cell = if nat_le 64 cell then cell + 0x40 else cell + 0x3F

abbrev pub even_trail : ℕ → ℕ
even_trail cell = cell + 0x9E

abbrev pub IsLowOdd : ℕ → Kuten → Type 0
IsLowOdd number k = (k.row ≤ 62) × (k.row % 2 ≡ 1) × (number ≡ two_bytes (low_lead k.row) (odd_trail k.cell))

abbrev pub IsLowEven : ℕ → Kuten → Type 0
IsLowEven number k = (k.row ≤ 62) × (k.row % 2 ≡ 0) × (number ≡ two_bytes (low_lead k.row) (even_trail k.cell))

abbrev pub IsHighOdd : ℕ → Kuten → Type 0
IsHighOdd number k = (62 < k.row) × (k.row % 2 ≡ 1) × (number ≡ two_bytes (high_lead k.row) (odd_trail k.cell))

abbrev pub IsHighEven : ℕ → Kuten → Type 0
IsHighEven number k = (62 < k.row) × (k.row % 2 ≡ 0) × (number ≡ two_bytes (high_lead k.row) (even_trail k.cell))

-- the coding has this number for this row and cell
abbrev pub Has : Coding → ℕ → Kuten → Type 0
Has jis number k = number ≡ two_bytes (k.row + 0x20) (k.cell + 0x20)
Has euc number k = number ≡ two_bytes (k.row + 0xA0) (k.cell + 0xA0)
Has shift_jis number k = IsLowOdd number k ⊎ IsLowEven number k ⊎ IsHighOdd number k ⊎ IsHighEven number k
Has kuten number k = number ≡ two_bytes k.row k.cell

-- there is such a cell, and this is its number in the coding
abbrev pub Spells : Coding → ℕ → Kuten → Type 0
Spells coding number k = IsKuten k × Has coding number k
