-- The spellings of five cells, and numbers that no cell has.
use Rattle.std.proofs.Common.{◌≡◌, ℕ, ◌∷◌, [], List, Some, None, map, refl}
use Rattle.jis_codes.specs.Kuten.{Kuten}
use Rattle.jis_codes.specs.Spellings.{jis, euc, shift_jis}
use Rattle.jis_codes.specs.Numbers.{number_of, cell_of}

at : ℕ → ℕ → Kuten
at row cell = record { row = row; cell = cell }

-- あ, い, 亜, 漢, 字
some_cells : List Kuten
some_cells = at 4 2 ∷ at 4 4 ∷ at 16 1 ∷ at 20 33 ∷ at 27 90 ∷ []

jis-some_cells : map (number_of jis) some_cells ≡ 0x2422 ∷ 0x2424 ∷ 0x3021 ∷ 0x3441 ∷ 0x3B7A ∷ []
unfolding some_cells at
jis-some_cells = refl

euc-some_cells : map (number_of euc) some_cells ≡ 0xA4A2 ∷ 0xA4A4 ∷ 0xB0A1 ∷ 0xB4C1 ∷ 0xBBFA ∷ []
unfolding some_cells at
euc-some_cells = refl

shift_jis-some_cells : map (number_of shift_jis) some_cells ≡ 0x82A0 ∷ 0x82A2 ∷ 0x889F ∷ 0x8ABF ∷ 0x8E9A ∷ []
unfolding some_cells at
shift_jis-some_cells = refl

no_cells : map (cell_of shift_jis) (0x817F ∷ 0xA040 ∷ 0xF040 ∷ []) ≡ None ∷ None ∷ None ∷ []
no_cells = refl

last_cells : map (cell_of shift_jis) (0x9FFC ∷ 0xE040 ∷ 0xEFFC ∷ []) ≡ Some (at 62 94) ∷ Some (at 63 1) ∷ Some (at 94 94) ∷ []
unfolding at
last_cells = refl
