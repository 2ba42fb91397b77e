-- What a search finds among codes that rise, and what passes a test of each entry.
use Rattle.std.proofs.Common.{◌≡◌, ◌≢◌, ℕ, zero, suc, ◌<◌, ◌≤◌, true, List, [], ◌∷◌, length, get_or, Ok, Err, refl, sym, ap, arith}
use Rattle.std.specs.List.{list_all}
use Rattle.std.specs.List.Sorted.{IsBinarySearchResult, IsNonDecreasingBy}
use Rattle.std.specs.Ordering.{nat_cmp, ordering_index}
use Rattle.std.proofs.lemmas.Cmp.{ranked}
use Rattle.std.proofs.lemmas.List.Sorted.{IsNonDecreasingBy-from_default}
use Rattle.std.proofs.lemmas.Bool.Decides.{nat_tests}
use Rattle.jfm_load.specs.declared.tables.CharType.{CharType}
use Rattle.jfm_load.specs.CharTypes.{class_in}
use Rattle.jfm_load.specs.Sound.{rise, rise_from, has_class}

abbrev pub no_type : CharType
no_type = record { code = 0; class = 0 }

abbrev pub code_at : List CharType → ℕ → ℕ
code_at l i = let t = get_or l i no_type in t.code

abbrev pub class_at : List CharType → ℕ → ℕ
class_at l i = let t = get_or l i no_type in t.class

-- the codes that rise from one are above it
pub above : (before : ℕ) (l : List CharType) (i : ℕ) → rise_from before l ≡ true → i < length l → before < code_at l i
above before [] i h lt = absurd (omega arith)
above before (t ∷ ts) zero h lt = grind (arith, nat_tests)
above before (t ∷ ts) (suc i) h lt =
    let first : before < t.code = grind (arith, nat_tests) in
    let later = above t.code ts i (grind (arith, nat_tests)) (omega arith) in
    omega arith

pub rise-tail : (before : ℕ) (l : List CharType) → rise_from before l ≡ true → rise l ≡ true
rise-tail before [] h = refl
rise-tail before (t ∷ ts) h = grind (arith, nat_tests)

pub code_at-rises : (l : List CharType) → rise l ≡ true → (i j : ℕ) → i < j → j < length l → code_at l i < code_at l j
code_at-rises [] h i j lt within = absurd (omega arith)
code_at-rises (t ∷ ts) h i zero lt within = absurd (omega arith)
code_at-rises (t ∷ ts) h zero (suc j) lt within = above t.code ts j h (omega arith)
code_at-rises (t ∷ ts) h (suc i) (suc j) lt within = code_at-rises ts (rise-tail t.code ts h) i j (omega arith) (omega arith)

-- a code that no entry has is of class 0
pub class_in-absent : (l : List CharType) (code : ℕ) → ((j : ℕ) → j < length l → code_at l j ≢ code) → class_in l code ≡ 0
class_in-absent [] code none = refl
class_in-absent (t ∷ ts) code none = grind (arith, nat_tests, none 0 (omega arith), class_in-absent ts code (λ j lt. none (suc j) (omega arith)))

-- the first entry that has the code gives its class
pub class_in-present : (l : List CharType) (code i : ℕ) → i < length l → code_at l i ≡ code → ((j : ℕ) → j < i → code_at l j ≢ code) → class_in l code ≡ class_at l i
class_in-present [] code i lt is none = absurd (omega arith)
class_in-present (t ∷ ts) code zero lt is none = grind (arith, nat_tests)
class_in-present (t ∷ ts) code (suc i) lt is none = grind (arith, nat_tests, none 0 (omega arith), class_in-present ts code i (omega arith) is (λ j h. none (suc j) (omega arith)))

-- the class of a code is one of the font
pub class_in-below : (n : ℕ) (l : List CharType) (code : ℕ) → 1 ≤ n → list_all (has_class n) l ≡ true → class_in l code < n
class_in-below n [] code some h = omega arith
class_in-below n (t ∷ ts) code some h =
    let more = class_in-below n ts code some (grind (arith, nat_tests)) in
    let first : t.class < n = grind (arith, nat_tests) in
    grind (arith, nat_tests)

module _ (l : List CharType) (rising : rise l ≡ true) (code : ℕ) where
  -- the comparisons with a code rise along the list, as a binary search asks
  comparisons_rise : IsNonDecreasingBy (λ t. ordering_index (nat_cmp t.code code)) l
  comparisons_rise = IsNonDecreasingBy-from_default (λ t. ordering_index (nat_cmp t.code code)) l no_type (λ i j le within.
      let codes_rise : code_at l i ≤ code_at l j = grind (arith, code_at-rises l rising i j, λ (same : i ≡ j). ap (code_at l) same) in
      grind (arith, nat_tests))

  pub class_in-found : (i : ℕ) → i < length l → IsBinarySearchResult (λ t. nat_cmp t.code code) l (Ok i) → class_in l code ≡ class_at l i
  class_in-found i within equal =
      let is : code_at l i ≡ code = ranked _ code _ (sym (equal no_type)) in
      class_in-present l code i within is (λ j lt same. omega (arith, code_at-rises l rising j i lt within, is))

  pub class_in-not_found : (i : ℕ) → i ≤ length l → IsBinarySearchResult (λ t. nat_cmp t.code code) l (Err i) → class_in l code ≡ 0
  class_in-not_found i within parted =
      let smaller : (j : ℕ) → j < i → code_at l j < code = λ j lt. ranked _ code _ (sym ((parted comparisons_rise).0 j no_type (omega arith) lt)) in
      let greater : (j : ℕ) → i ≤ j → j < length l → code < code_at l j = λ j le lt. ranked _ code _ (sym ((parted comparisons_rise).1 j no_type le lt)) in
      class_in-absent l code (λ j lt same. grind (arith, smaller j, greater j))
