-- The number of a cell, and the cell of a number, as functions.
use Rattle.std.specs.Prelude.{ℕ, ◌+◌, ◌-◌, ◌*◌, ◌/◌, ◌%◌, nat_le, nat_eq, ◌&&◌, Bool, if◌then◌else◌, Option, Some, None}
use Rattle.jis_codes.specs.Kuten.{Kuten}
use Rattle.jis_codes.specs.Spellings.{Coding, jis, euc, shift_jis, kuten, two_bytes, low_lead, high_lead, odd_trail, even_trail}

abbrev pub lead : ℕ → ℕ
lead row = if nat_le row 62 then low_lead row else high_lead row

abbrev pub trail : ℕ → ℕ → ℕ
trail row cell = if nat_eq (row % 2) 1 then odd_trail cell else even_trail cell

abbrev pub number_of : Coding → Kuten → ℕ
number_of jis k = two_bytes (k.row + 0x20) (k.cell + 0x20)
number_of euc k = two_bytes (k.row + 0xA0) (k.cell + 0xA0)
number_of shift_jis k = two_bytes (lead k.row) (trail k.row k.cell)
number_of kuten k = two_bytes k.row k.cell

abbrev pub is_within : ℕ → ℕ → ℕ → Bool
is_within least most n = nat_le least n && nat_le n most

-- the cell, where there is one
abbrev pub cell_at : ℕ → ℕ → Option Kuten
cell_at row cell = if is_within 1 94 row && is_within 1 94 cell then Some (record { row = row; cell = cell }) else None

-- the first of the two rows of a lead byte
abbrev pub first_row : ℕ → Option ℕ
first_row byte =
    if is_within 0x81 0x9F byte then Some (2 * (byte - 0x81) + 1)
    else (if is_within 0xE0 0xEF byte then Some (2 * (byte - 0xC1) + 1) else None)

-- where a trail byte leads: 0 for the first of the two rows and 1 for the second, and the cell
abbrev pub place : ℕ → Option (ℕ × ℕ)
place byte =
    if is_within 0x40 0x7E byte then Some (0, byte - 0x3F)
    else (if is_within 0x80 0x9E byte then Some (0, byte - 0x40)
    else (if is_within 0x9F 0xFC byte then Some (1, byte - 0x9E) else None))

abbrev pub cell_of_pair : Option ℕ → Option (ℕ × ℕ) → Option Kuten
cell_of_pair None trail = None
cell_of_pair (Some row) None = None
cell_of_pair (Some row) (Some at) = cell_at (row + at.0) at.1

-- the cell of a number, where it has one
abbrev pub cell_of : Coding → ℕ → Option Kuten
cell_of jis number = cell_at (number / 256 - 0x20) (number % 256 - 0x20)
cell_of euc number = cell_at (number / 256 - 0xA0) (number % 256 - 0xA0)
cell_of shift_jis number = cell_of_pair (first_row (number / 256)) (place (number % 256))
cell_of kuten number = cell_at (number / 256) (number % 256)
