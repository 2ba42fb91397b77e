-- What a table's reader has left to do gives what its start gave.
use Rattle.std.proofs.Common.{◌≡◌, ℕ, ◌+◌, ◌*◌, ◌-◌, ◌<◌, List, [], ◌∷◌, ◌++◌, map, Some, None, Result, Err, refl, append_assoc, ◌∙◌}
use Rattle.ts_geometry.specs.declared.fault.BadKind.{BadKind}
use Rattle.ts_geometry.specs.declared.fault.MetricFault.{MetricFault}
use Rattle.ts_geometry.specs.declared.fault.MetricFault.TheVariants.{Bad}
use Rattle.metric_words.specs.Words.{word, words}
use Rattle.metric_words.specs.Checking.{checked}
use Rattle.metric_words.proofs.PartsLeft.{words-more}
use Rattle.jfm_load.specs.declared.tables.CharType.{CharType}
use Rattle.jfm_load.specs.CharTypes.{char_type_of, type_kind, later_type_kinds}

-- what is left of the character types after the code `before`, where these are read
abbrev pub types_left : List ℕ → ℕ → ℕ → ℕ → ℕ → List CharType → Result (List CharType) MetricFault
types_left file i end before ec types =
    checked i (later_type_kinds before ec (words file i (end - i))) (types ++ map char_type_of (words file i (end - i)))

-- a good word: its type is read, and the rest is left
pub types_left-more : (given : Result (List CharType) MetricFault) (file : List ℕ) (i end before ec w : ℕ) (types types' : List CharType) (t : CharType) → i < end
    → given ≡ types_left file i end before ec types → w ≡ word file i → type_kind before ec w ≡ None → t ≡ char_type_of w → types' ≡ types ++ t ∷ []
    → given ≡ types_left file (i + 1) end t.code ec types'
types_left-more given file i end before ec w types types' t h left is good made put =
    left ∙ (rw (words-more file i end h, ← is, good, ← made, put, append_assoc) refl)

-- a bad word
pub types_left-bad : (given : Result (List CharType) MetricFault) (file : List ℕ) (i end before ec w : ℕ) (types : List CharType) (kind : BadKind) → i < end
    → given ≡ types_left file i end before ec types → w ≡ word file i → type_kind before ec w ≡ Some kind → given ≡ Err (Bad kind (4 * i))
types_left-bad given file i end before ec w types kind h left is wrong = left ∙ (rw (words-more file i end h, ← is, wrong) refl)
