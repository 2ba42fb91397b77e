-- A metric file as halfwords and words of two and four bytes, the high byte first (TeX: The Program, sections 540 to 542).
use Rattle.std.specs.Prelude.{ℕ, zero, suc, ◌+◌, ◌*◌, ◌/◌, ◌%◌, List, [], ◌∷◌, drop}
use Rattle.byteorder.specs.Endian.{big_number}

-- the halfword and the word of that number, counted from 0
unfoldable pub halfword : List ℕ → ℕ → ℕ
halfword file i = big_number 2 (drop (2 * i) file)

unfoldable pub word : List ℕ → ℕ → ℕ
word file i = big_number 4 (drop (4 * i) file)

-- so many words, from that one on
abbrev pub words : List ℕ → ℕ → ℕ → List ℕ
words file from zero = []
words file from (suc n) = word file from ∷ words file (from + 1) n

-- the four bytes of a word
abbrev pub first_byte : ℕ → ℕ
first_byte w = w / 16777216

abbrev pub second_byte : ℕ → ℕ
second_byte w = w / 65536 % 256

abbrev pub third_byte : ℕ → ℕ
third_byte w = w / 256 % 256

abbrev pub fourth_byte : ℕ → ℕ
fourth_byte w = w % 256

-- its first two bytes
abbrev pub first_half : ℕ → ℕ
first_half w = w / 65536
