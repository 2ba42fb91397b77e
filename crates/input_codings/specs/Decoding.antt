-- The characters of a line. The escapes are those of ISO-2022-JP, and the numbers of cells those of JIS X 0208, EUC-JP
-- and Shift_JIS.
use Rattle.std.specs.Prelude.{ℕ, zero, suc, ◌+◌, ◌-◌, ◌==◌, ◌&&◌, ◌||◌, nat_lt, Bool, false, if◌then◌else◌, List, [], ◌∷◌, get_or, Option, Some, None, option_map, Result, Ok, Err}
use Rattle.jis_codes.specs.declared.Char.{Char}
use Rattle.jis_codes.specs.declared.Char.TheVariants.{One, Ja}
use Rattle.jis_codes.specs.Kuten.{Kuten}
use Rattle.jis_codes.specs.Spellings.{jis, euc, shift_jis, two_bytes}
use Rattle.jis_codes.specs.Numbers.{cell_of}
use Rattle.input_codings.specs.declared.coding.Coding.{Coding}
use Rattle.input_codings.specs.declared.coding.Coding.TheVariants.{Jis, Euc, Sjis}
use Rattle.input_codings.specs.declared.item.State.{State}
use Rattle.input_codings.specs.declared.item.State.TheVariants.{OneByte, TwoByte}
use Rattle.input_codings.specs.declared.item.Item.{Item}
use Rattle.input_codings.specs.declared.item.Item.TheVariants.{Character, Escape}

-- the state that an escape selects: ESC $ @ and ESC $ B two-byte state, ESC ( B and ESC ( J one-byte state
abbrev pub escape : ℕ → ℕ → Option State
escape second third =
    if (second == 0x24) && (third == 0x40 || third == 0x42) then Some TwoByte
    else (if (second == 0x28) && (third == 0x42 || third == 0x4A) then Some OneByte else None)

-- the cell of two bytes in one-byte state
abbrev pub pair : Coding → ℕ → Option Kuten
pair Jis number = None
pair Euc number = cell_of euc number
pair Sjis number = cell_of shift_jis number

abbrev pub japanese : Option Kuten → Option Item
japanese cell = option_map (λ k. Character (Ja k)) cell

-- the character of two bytes in a state; in one-byte state a byte below 128 is one by itself
abbrev pub character : Coding → State → ℕ → ℕ → Option Item
character coding TwoByte first second = japanese (cell_of jis (two_bytes first second))
character coding OneByte first second =
    if nat_lt first 128 then Some (Character (One first)) else japanese (pair coding (two_bytes first second))

-- what begins at the first of three bytes, if anything does; after the line's end stand bytes 0
abbrev pub item : Coding → State → ℕ → ℕ → ℕ → Option Item
item coding state first second third =
    if first == 27 then option_map (λ s. Escape s) (escape second third) else character coding state first second

-- how many bytes a character has
abbrev pub length_of : Char → ℕ
length_of (One b) = 1
length_of (Ja k) = 2

-- a character in front of those that follow, if they aren't refused
abbrev pub in_front : Char → Result (List Char) ℕ → Result (List Char) ℕ
in_front c (Ok cs) = Ok (c ∷ cs)
in_front c (Err place) = Err place

-- an item, and then what follows in its state, after so many more bytes
abbrev pub item_then : State → ℕ → Option Item → (State → ℕ → Result (List Char) ℕ) → Result (List Char) ℕ
item_then state place None rest = Err place
item_then state place (Some (Character c)) rest = in_front c (rest state (length_of c - 1))
item_then state place (Some (Escape selected)) rest = rest selected 2

-- The characters of bytes from a place on, of which the first so many belong to an item before; or the place at which
-- no item begins.
abbrev pub decoded_from : Coding → State → ℕ → ℕ → List ℕ → Result (List Char) ℕ
decoded_from coding state passed place [] = Ok []
decoded_from coding state (suc passed) place (b ∷ bs) = decoded_from coding state passed (place + 1) bs
decoded_from coding state zero place (b ∷ bs) =
    item_then state place (item coding state b (get_or bs 0 0) (get_or bs 1 0)) (λ s n. decoded_from coding s n (place + 1) bs)

-- the characters of a line's bytes; or the place, from 0, of the first byte of a bad character or escape
abbrev pub decoded : Coding → List ℕ → Result (List Char) ℕ
decoded coding bytes = decoded_from coding OneByte 0 0 bytes

abbrev pub is_space : Char → Bool
is_space (One b) = b == 32
is_space (Ja k) = false

-- a character in front of trimmed ones: a character 32 with none after it goes
abbrev pub before_trimmed : Char → List Char → List Char
before_trimmed c [] = if is_space c then [] else c ∷ []
before_trimmed c (d ∷ ds) = c ∷ d ∷ ds

-- without the characters 32 at the end
abbrev pub trimmed : List Char → List Char
trimmed [] = []
trimmed (c ∷ cs) = before_trimmed c (trimmed cs)
