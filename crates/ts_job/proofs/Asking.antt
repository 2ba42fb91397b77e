-- The words of a command line, by their number.
use mathlib.Core.Bool.{false≢true}
use Rattle.std.proofs.Common.{◌≡◌, ◌≢◌, ℕ, List, [], ◌∷◌, length, map, get_or, Bool, true, false, Some, None, refl, arith}
use Rattle.std.specs.Prelude.{codes, not, if◌then◌else◌}
use Rattle.std.specs.Str.{bytes_eq}
use Rattle.input_codings.specs.declared.coding.Coding.TheVariants.{Euc}
use Rattle.ts_job.specs.Words.{asked, asked_in, coding_of}

-- the texts of words
module _ {W : Type 0} (text : W → List ℕ) where
  pub asked_three : (words : List W) (verb name : W) → length words ≡ 3 → verb ≡ get_or words 1 verb → name ≡ get_or words 2 name → asked (map text words) ≡ asked_in (Some Euc) (text verb) (text name)
  asked_three [] verb name is v n = absurd (omega arith)
  asked_three (a ∷ []) verb name is v n = absurd (omega arith)
  asked_three (a ∷ b ∷ []) verb name is v n = absurd (omega arith)
  asked_three (a ∷ b ∷ c ∷ []) verb name is v n = rw (← v, ← n) refl
  asked_three (a ∷ b ∷ c ∷ d ∷ words) verb name is v n = absurd (omega arith)

  pub asked_five : (words : List W) (verb name option word : W) → length words ≡ 5 → verb ≡ get_or words 1 verb → name ≡ get_or words 2 name → option ≡ get_or words 3 option → word ≡ get_or words 4 word
      → asked (map text words) ≡ (if bytes_eq (text option) (codes "--kanji") then asked_in (coding_of (text word)) (text verb) (text name) else None)
  asked_five [] verb name option word is v n o w = absurd (omega arith)
  asked_five (a ∷ []) verb name option word is v n o w = absurd (omega arith)
  asked_five (a ∷ b ∷ []) verb name option word is v n o w = absurd (omega arith)
  asked_five (a ∷ b ∷ c ∷ []) verb name option word is v n o w = absurd (omega arith)
  asked_five (a ∷ b ∷ c ∷ d ∷ []) verb name option word is v n o w = absurd (omega arith)
  asked_five (a ∷ b ∷ c ∷ d ∷ e ∷ []) verb name option word is v n o w = rw (← v, ← n, ← o, ← w) refl
  asked_five (a ∷ b ∷ c ∷ d ∷ e ∷ f ∷ words) verb name option word is v n o w = absurd (omega arith)

  pub asked_other : (words : List W) → length words ≢ 3 → length words ≢ 5 → asked (map text words) ≡ None
  asked_other [] three five = refl
  asked_other (a ∷ []) three five = refl
  asked_other (a ∷ b ∷ []) three five = refl
  asked_other (a ∷ b ∷ c ∷ []) three five = absurd (three refl)
  asked_other (a ∷ b ∷ c ∷ d ∷ []) three five = refl
  asked_other (a ∷ b ∷ c ∷ d ∷ e ∷ []) three five = absurd (five refl)
  asked_other (a ∷ b ∷ c ∷ d ∷ e ∷ f ∷ words) three five = refl

pub is_held : {X : Type 0} (held : Bool) {given there : X} (other : X) → false ≡ not held → given ≡ (if held then there else other) → given ≡ there
is_held true other held is = is
is_held false other held is = absurd (false≢true held)
