-- The definition at worked lines, with the codes that hold at the start.
use Rattle.std.proofs.Common.{◌≡◌, ℕ, zero, suc, true, false, List, [], ◌∷◌, Result, Ok, Err, refl}
use Rattle.ts_base.specs.Agreement.{◌>>=◌}
use Rattle.input_codings.specs.declared.coding.Coding.TheVariants.{Euc}
use Rattle.tok_lists.specs.declared.spelling.Spelling.{Spelling}
use Rattle.tok_lists.specs.declared.token.Token.TheVariants as tokens
use Rattle.kcat_eyes.specs.declared.fault.EyeFault.TheVariants as faults
use Rattle.kcat_eyes.specs.declared.seen.Seen.{Seen}
use Rattle.kcat_eyes.specs.declared.seen.Seen.TheVariants as seen
use Rattle.kcat_eyes.specs.declared.state.State.TheVariants.{NewLine}
use Rattle.tok_lists.specs.Codes.{Codes}
use Rattle.kcat_eyes.specs.Eyes.{Sight, FaultAt, next, at_line}
use Rattle.kcat_eyes.specs.StartCodes.{start_cat, start_kcat}

start : Codes
start = record { cat = start_cat; kcat = start_kcat }

-- the eyes on a file of these bytes
whole : List ℕ → Sight
whole bytes = record { state = NewLine; rest = []; lines = record { coding = Euc; line_no = 0; bytes = bytes }; ends = false }

-- so many looks, one after another
looks : ℕ → List Spelling → Sight → Result (List Seen) FaultAt
looks zero names sight = Ok []
looks (suc n) names sight = next start names sight >>= λ look. looks n look.names look.sight >>= λ more. Ok (look.seen ∷ more)

name : ℕ → Seen
name n = seen.Token (tokens.Name (record { 0 = n }))

one : ℕ → ℕ → Seen
one code cat = seen.Token (tokens.Char code cat)

ja : ℕ → ℕ → Seen
ja row cell = seen.Token (tokens.Ja (record { row = row; cell = cell }))

-- `\漢a あ`
word_of_kanji : looks 3 [] (whole (92 ∷ 0xB4 ∷ 0xC1 ∷ 97 ∷ 32 ∷ 0xA4 ∷ 0xA2 ∷ [])) ≡ Ok (name 0 ∷ ja 4 2 ∷ seen.End ∷ [])
unfolding next start whole looks name ja
word_of_kanji = refl

-- `あ b`
blank_after_kana : looks 5 [] (whole (0xA4 ∷ 0xA2 ∷ 32 ∷ 98 ∷ [])) ≡ Ok (ja 4 2 ∷ one 32 10 ∷ one 98 11 ∷ one 32 10 ∷ seen.End ∷ [])
unfolding next start whole looks one ja
blank_after_kana = refl

-- `あ{}い`
braces_after_kana : looks 5 [] (whole (0xA4 ∷ 0xA2 ∷ 123 ∷ 125 ∷ 0xA4 ∷ 0xA4 ∷ [])) ≡ Ok (ja 4 2 ∷ one 123 1 ∷ one 125 2 ∷ ja 4 4 ∷ seen.End ∷ [])
unfolding next start whole looks one ja
braces_after_kana = refl

-- byte 127
invalid : looks 1 [] (whole (127 ∷ [])) ≡ Err (at_line 1 faults.BadChar)
unfolding next start whole looks
invalid = refl

-- `a`, a comment with a line after it, and an empty line: the letter, and the name of a paragraph
comment_and_empty_line : looks 3 [] (whole (97 ∷ 37 ∷ 98 ∷ 10 ∷ 32 ∷ 10 ∷ [])) ≡ Ok (one 97 11 ∷ name 0 ∷ seen.End ∷ [])
unfolding next start whole looks one name
comment_and_empty_line = refl

-- `~\~` and `\ ` with a blank after it: an active character and a control symbol are two names
active_and_symbol : looks 4 [] (whole (126 ∷ 92 ∷ 126 ∷ 92 ∷ 32 ∷ 32 ∷ 98 ∷ [])) ≡ Ok (name 0 ∷ name 1 ∷ name 2 ∷ one 98 11 ∷ [])
unfolding next start whole looks one name
active_and_symbol = refl

-- `b`, a line that isn't read after it, where the file ends after its first line
ends_after_the_first_line : looks 3 [] (record { state = NewLine; rest = []; lines = record { coding = Euc; line_no = 0; bytes = 98 ∷ 10 ∷ 98 ∷ [] }; ends = true })
    ≡ Ok (one 98 11 ∷ one 32 10 ∷ seen.End ∷ [])
unfolding next start whole looks one
ends_after_the_first_line = refl

-- a comment, and an invalid character in the line after it
fault_in_the_second_line : looks 1 [] (whole (37 ∷ 10 ∷ 127 ∷ [])) ≡ Err (at_line 2 faults.BadChar)
unfolding next start whole looks
fault_in_the_second_line = refl
