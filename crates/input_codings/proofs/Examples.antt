-- The definitions at worked values.
use Rattle.std.proofs.Common.{◌≡◌, List, [], ◌∷◌, Ok, Err, Some, None, refl}
use Rattle.jis_codes.specs.declared.Char.{Char}
use Rattle.jis_codes.specs.declared.Char.TheVariants.{One, Ja}
use Rattle.input_codings.specs.declared.coding.Coding.TheVariants.{Jis, Euc, Sjis}
use Rattle.input_codings.specs.declared.fault.LineFault.TheVariants as faults
use Rattle.input_codings.specs.Decoding.{decoded}
use Rattle.input_codings.specs.Lines.{line}

-- あい, with the end of the line
hiragana : List Char
hiragana = Ja (record { row = 4; cell = 2 }) ∷ Ja (record { row = 4; cell = 4 }) ∷ One 13 ∷ []

in_euc : line Euc 1 (0xA4 ∷ 0xA2 ∷ 0xA4 ∷ 0xA4 ∷ 10 ∷ []) ≡ Ok (Some hiragana)
unfolding hiragana
in_euc = refl

in_jis : line Jis 1 (0x1B ∷ 0x24 ∷ 0x42 ∷ 0x24 ∷ 0x22 ∷ 0x24 ∷ 0x24 ∷ 0x1B ∷ 0x28 ∷ 0x42 ∷ 10 ∷ []) ≡ Ok (Some hiragana)
unfolding hiragana
in_jis = refl

in_shift_jis : line Sjis 1 (0x82 ∷ 0xA0 ∷ 0x82 ∷ 0xA2 ∷ 10 ∷ []) ≡ Ok (Some hiragana)
unfolding hiragana
in_shift_jis = refl

-- the bad lines
euc_alone : decoded Euc (0xA4 ∷ []) ≡ Err 0
euc_alone = refl

euc_then_space : decoded Euc (0x61 ∷ 0xA4 ∷ 0x20 ∷ []) ≡ Err 1
euc_then_space = refl

jis_high : decoded Jis (0x80 ∷ []) ≡ Err 0
jis_high = refl

jis_escape : decoded Jis (0x1B ∷ 0x28 ∷ 0x49 ∷ []) ≡ Err 0
jis_escape = refl

jis_alone : decoded Jis (0x1B ∷ 0x24 ∷ 0x42 ∷ 0x24 ∷ []) ≡ Err 3
jis_alone = refl

jis_space : decoded Jis (0x1B ∷ 0x24 ∷ 0x42 ∷ 0x20 ∷ 0x21 ∷ []) ≡ Err 3
jis_space = refl

sjis_trail : decoded Sjis (0x82 ∷ 0x7F ∷ []) ≡ Err 0
sjis_trail = refl

sjis_lead : decoded Sjis (0xF0 ∷ 0x40 ∷ []) ≡ Err 0
sjis_lead = refl

-- a place is counted from the line's begin, and each line begins in one-byte state
second_line : line Jis 2 (0x1B ∷ 0x24 ∷ 0x42 ∷ 0x24 ∷ 0x22 ∷ 10 ∷ 0x61 ∷ 0x80 ∷ 10 ∷ []) ≡ Err (faults.BadByte 1)
second_line = refl

-- a byte 13 is dropped directly before byte 10 alone, and only one
two_returns : line Euc 1 (0x61 ∷ 13 ∷ 13 ∷ 10 ∷ []) ≡ Ok (Some (One 0x61 ∷ One 13 ∷ One 13 ∷ []))
two_returns = refl

return_at_end : line Euc 1 (0x61 ∷ 13 ∷ []) ≡ Ok (Some (One 0x61 ∷ One 13 ∷ One 13 ∷ []))
return_at_end = refl

-- characters 32 at the end go, also before an escape, and tabs stay
spaces_before_escape : line Jis 1 (0x20 ∷ 0x61 ∷ 9 ∷ 0x20 ∷ 0x1B ∷ 0x28 ∷ 0x42 ∷ 10 ∷ []) ≡ Ok (Some (One 0x20 ∷ One 0x61 ∷ One 9 ∷ One 13 ∷ []))
spaces_before_escape = refl

-- a rest that is empty is no line
no_rest : line Euc 2 (0x61 ∷ 10 ∷ []) ≡ Ok None
no_rest = refl

empty_line : line Euc 2 (0x61 ∷ 10 ∷ 10 ∷ []) ≡ Ok (Some (One 13 ∷ []))
empty_line = refl
