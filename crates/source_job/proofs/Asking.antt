-- The words of a command line, by their number.
use Rattle.std.proofs.Common.{◌≡◌, ◌≢◌, ◌≤◌, ◌<◌, ◌∙◌, ℕ, List, [], ◌∷◌, length, map, drop, get_or, Bool, true, false, Result, Ok, Err, Option, Some, None, refl, sym, arith, nat_le, rules}
use Rattle.std.specs.Prelude.{◌&&◌, ◌^◌}
use Rattle.std.specs.List.{list_all}
use Rattle.std.specs.Str.Parse.{digits_value, ParsesUnsigned}
use Rattle.std.proofs.lemmas.Bool.{leb-true}
use Rattle.std.proofs.lemmas.Str.Parse.{IsNumeralModel, numerals_by_value, parse_gives, digits_value_short}
use Rattle.input_codings.specs.declared.coding.Coding.TheVariants.{Euc}
use Rattle.source_job.specs.Words.{is_digit, is_short_number, usual_budget, options, one_option, two_options, options_of, asked, asked_in}

-- ---- numbers

own : IsNumeralModel (λ ds. list_all is_digit ds ≡ true) (digits_value 10)
own = numerals_by_value _ (search rules)

and_first : (a b : Bool) → (a && b) ≡ true → a ≡ true
and_first true b is = refl
and_first false b is = let never : ⊥ = cc in absurd never

and_second : (a b : Bool) → (a && b) ≡ true → b ≡ true
and_second true b is = is
and_second false b is = let never : ⊥ = cc in absurd never

pub parsed : {E : Type 0} (word : List ℕ) (r : Result ℕ E) → is_short_number word ≡ true → ParsesUnsigned 32 10 word r → r ≡ Ok (digits_value 10 word)
parsed word r short parses =
    let sized = and_first (nat_le 1 (length word) && nat_le (length word) 8) (list_all is_digit word) short in
    let digits = and_second (nat_le 1 (length word) && nat_le (length word) 8) (list_all is_digit word) short in
    let some = and_first (nat_le 1 (length word)) (nat_le (length word) 8) sized in
    let few = and_second (nat_le 1 (length word)) (nat_le (length word) 8) sized in
    let small : digits_value 10 word < 10 ^ 8 = digits_value_short own word 8 digits (leb-true (length word) 8 few) in
    parse_gives own 32 word r parses digits (leb-true 1 (length word) some) (omega (arith, small))

-- ---- the texts of words
module _ {W : Type 0} (text : W → List ℕ) where
  pub asked_some : (words : List W) (verb name : W) → 3 ≤ length words → verb ≡ get_or words 1 verb → name ≡ get_or words 2 name → asked (map text words) ≡ asked_in (text verb) (text name) (options_of (drop 3 (map text words)))
  asked_some [] verb name many v n = absurd (omega arith)
  asked_some (a ∷ []) verb name many v n = absurd (omega arith)
  asked_some (a ∷ b ∷ []) verb name many v n = absurd (omega arith)
  asked_some (a ∷ b ∷ c ∷ words) verb name many v n = rw (← v, ← n) refl

  pub asked_few : (words : List W) → length words < 3 → asked (map text words) ≡ None
  asked_few [] few = refl
  asked_few (a ∷ []) few = refl
  asked_few (a ∷ b ∷ []) few = refl
  asked_few (a ∷ b ∷ c ∷ words) few = absurd (omega arith)

  pub options_three : (words : List W) → length words ≡ 3 → options_of (drop 3 (map text words)) ≡ options (Some Euc) (Some usual_budget)
  options_three [] is = absurd (omega arith)
  options_three (a ∷ []) is = absurd (omega arith)
  options_three (a ∷ b ∷ []) is = absurd (omega arith)
  options_three (a ∷ b ∷ c ∷ []) is = refl
  options_three (a ∷ b ∷ c ∷ d ∷ words) is = absurd (omega arith)

  pub options_five : (words : List W) (option value : W) → length words ≡ 5 → option ≡ get_or words 3 option → value ≡ get_or words 4 value → options_of (drop 3 (map text words)) ≡ one_option (text option) (text value)
  options_five [] option value is o v = absurd (omega arith)
  options_five (a ∷ []) option value is o v = absurd (omega arith)
  options_five (a ∷ b ∷ []) option value is o v = absurd (omega arith)
  options_five (a ∷ b ∷ c ∷ []) option value is o v = absurd (omega arith)
  options_five (a ∷ b ∷ c ∷ d ∷ []) option value is o v = absurd (omega arith)
  options_five (a ∷ b ∷ c ∷ d ∷ e ∷ []) option value is o v = rw (← o, ← v) refl
  options_five (a ∷ b ∷ c ∷ d ∷ e ∷ f ∷ words) option value is o v = absurd (omega arith)

  pub options_seven : (words : List W) (first coding second budget : W) → length words ≡ 7 → first ≡ get_or words 3 first → coding ≡ get_or words 4 coding → second ≡ get_or words 5 second → budget ≡ get_or words 6 budget
      → options_of (drop 3 (map text words)) ≡ two_options (text first) (text coding) (text second) (text budget)
  options_seven [] first coding second budget is f c s b = absurd (omega arith)
  options_seven (w1 ∷ []) first coding second budget is f c s b = absurd (omega arith)
  options_seven (w1 ∷ w2 ∷ []) first coding second budget is f c s b = absurd (omega arith)
  options_seven (w1 ∷ w2 ∷ w3 ∷ []) first coding second budget is f c s b = absurd (omega arith)
  options_seven (w1 ∷ w2 ∷ w3 ∷ w4 ∷ []) first coding second budget is f c s b = absurd (omega arith)
  options_seven (w1 ∷ w2 ∷ w3 ∷ w4 ∷ w5 ∷ []) first coding second budget is f c s b = absurd (omega arith)
  options_seven (w1 ∷ w2 ∷ w3 ∷ w4 ∷ w5 ∷ w6 ∷ []) first coding second budget is f c s b = absurd (omega arith)
  options_seven (w1 ∷ w2 ∷ w3 ∷ w4 ∷ w5 ∷ w6 ∷ w7 ∷ []) first coding second budget is f c s b = rw (← f, ← c, ← s, ← b) refl
  options_seven (w1 ∷ w2 ∷ w3 ∷ w4 ∷ w5 ∷ w6 ∷ w7 ∷ w8 ∷ words) first coding second budget is f c s b = absurd (omega arith)

  pub options_other : (words : List W) → 3 ≤ length words → length words ≢ 3 → length words ≢ 5 → length words ≢ 7 → options_of (drop 3 (map text words)) ≡ None
  options_other [] many three five seven = absurd (omega arith)
  options_other (a ∷ []) many three five seven = absurd (omega arith)
  options_other (a ∷ b ∷ []) many three five seven = absurd (omega arith)
  options_other (a ∷ b ∷ c ∷ []) many three five seven = absurd (three refl)
  options_other (a ∷ b ∷ c ∷ d ∷ []) many three five seven = refl
  options_other (a ∷ b ∷ c ∷ d ∷ e ∷ []) many three five seven = absurd (five refl)
  options_other (a ∷ b ∷ c ∷ d ∷ e ∷ f ∷ []) many three five seven = refl
  options_other (a ∷ b ∷ c ∷ d ∷ e ∷ f ∷ g ∷ []) many three five seven = absurd (seven refl)
  options_other (a ∷ b ∷ c ∷ d ∷ e ∷ f ∷ g ∷ h ∷ words) many three five seven = refl
