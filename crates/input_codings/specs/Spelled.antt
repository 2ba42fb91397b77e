-- The bytes that spell characters in a coding (ISO-2022-JP, EUC-JP and Shift_JIS).
use Rattle.std.specs.Prelude.{◌≢◌, ◌<◌, ℕ, ◌/◌, ◌%◌, List, [], ◌∷◌, ◌++◌}
use Rattle.jis_codes.specs.declared.Char.{Char}
use Rattle.jis_codes.specs.declared.Char.TheVariants.{One, Ja}
use Rattle.jis_codes.specs.Kuten.{IsKuten}
use Rattle.jis_codes.specs.Spellings.{jis, euc, shift_jis}
use Rattle.jis_codes.specs.Numbers.{number_of}
use Rattle.input_codings.specs.declared.coding.Coding.{Coding}
use Rattle.input_codings.specs.declared.coding.Coding.TheVariants.{Jis, Euc, Sjis}

-- the two bytes of a number, the high one first
abbrev pub bytes_of : ℕ → List ℕ
bytes_of number = number / 256 ∷ number % 256 ∷ []

-- the bytes of a character; in JIS a cell stands between ESC $ B and ESC ( B
abbrev pub spelled_one : Coding → Char → List ℕ
spelled_one coding (One b) = b ∷ []
spelled_one Jis (Ja k) = 0x1B ∷ 0x24 ∷ 0x42 ∷ (bytes_of (number_of jis k) ++ 0x1B ∷ 0x28 ∷ 0x42 ∷ [])
spelled_one Euc (Ja k) = bytes_of (number_of euc k)
spelled_one Sjis (Ja k) = bytes_of (number_of shift_jis k)

abbrev pub spelled : Coding → List Char → List ℕ
spelled coding [] = []
spelled coding (c ∷ cs) = spelled_one coding c ++ spelled coding cs

-- a byte below 128 that begins no escape, or a cell
abbrev pub HasSpelling : Char → Type 0
HasSpelling (One b) = (b < 128) × (b ≢ 27)
HasSpelling (Ja k) = IsKuten k
