-- A metric is in the words that its file counts: what follows them is ignored.
use Rattle.std.proofs.Common.{◌≡◌, ℕ, ◌+◌, ◌-◌, ◌*◌, ◌≤◌, inl, inr, Bool, true, false, ◌&&◌, List, [], ◌∷◌, length, take, arith, refl, ap, take_all, length-take-le}
use Rattle.std.proofs.lemmas.Bool.{cases_lt}
use Rattle.std.proofs.lemmas.Bool.Decides.{nat_tests}
use Rattle.metric_words.specs.declared.lengths.Lengths.{Lengths}
use Rattle.metric_words.specs.Words.{halfword}
use Rattle.metric_words.specs.Lengths.{lengths_at, contradict, file_end, header_start, char_info_start, program_start, kern_start, param_start}
use Rattle.metric_words.specs.Programs.{command_of, command_kinds}
use Rattle.metric_words.proofs.Same.{SameBytes, same_taken, same_halfword, same_word, same_words, same_lengths_at, same_within, same_characters, same_steps, not_short, inside}
use Rattle.tfm_load.proofs.Chain.{lengths_are}
use Rattle.tfm_load.specs.Programs.{program_kind, program_words, is_in_font, is_in_range}
use Rattle.tfm_load.specs.Metrics.{metric_of, lengths_of, lengths_in, kinds_of, spelt}

-- two tests that are the same where another one passes
same_if : (given a b : Bool) → (given ≡ true → a ≡ b) → (given && a) ≡ (given && b)
same_if true a b same = same refl
same_if false a b same = refl

-- the codes that lengths without a fault give
in_range : (l : Lengths) → contradict l ≡ false → l.bc ≤ l.ec + 1
unfolding contradict
in_range l h = grind (arith, nat_tests)

same_lengths : (n : ℕ) (a b : List ℕ) → SameBytes n a b → 28 ≤ n → lengths_of a ≡ lengths_of b
unfolding lengths_of
same_lengths n a b same h = same_lengths_at n a b same 6 0 0 (omega arith)

-- where neither file is too short for its words
same_lengths_in : (n : ℕ) (a b : List ℕ) → SameBytes n a b → 28 ≤ n → 4 * (lengths_of b).lf ≤ n → n ≤ length a → n ≤ length b → lengths_in a ≡ lengths_in b
unfolding lengths_in
same_lengths_in n a b same h counted is_a is_b =
    rw (
      same_lengths n a b same h,
      not_short n 24 a is_a (omega arith),
      not_short n 24 b is_b (omega arith),
      same_within n a b (lengths_of b) false counted is_a is_b,
    ) refl

-- the characters of the font, by the words of the files
same_font : (n : ℕ) (a b : List ℕ) → SameBytes n a b → (l : Lengths) → l.bc ≤ l.ec + 1 → 4 * file_end l ≤ n → (code : ℕ) → is_in_font a l code ≡ is_in_font b l code
unfolding is_in_font
same_font n a b same l range ends code = same_if (is_in_range l code) _ _ (λ given.
    let within : code ≤ l.ec = grind (arith, nat_tests) in
    let least : l.bc ≤ code = grind (arith, nat_tests) in
    let at = same_word n a b same (char_info_start l + (code - l.bc)) (omega arith) in
    rw at refl)

same_kinds : (n : ℕ) (a b : List ℕ) → SameBytes n a b → (l : Lengths) → l.bc ≤ l.ec + 1 → 4 * file_end l ≤ n → (place : ℕ) (ws : List ℕ)
    → command_kinds (program_kind a l) place ws ≡ command_kinds (program_kind b l) place ws
unfolding program_kind
same_kinds n a b same l range ends place [] = refl
same_kinds n a b same l range ends place (w ∷ ws) =
    rw (same_font n a b same l range ends (command_of w).remainder, same_kinds n a b same l range ends (place + 1) ws) refl

same_spelt : (n : ℕ) (a b : List ℕ) → SameBytes n a b → (l : Lengths) → 2 ≤ l.lh → l.bc ≤ l.ec + 1 → 4 * file_end l ≤ n
    → (kinds_of a l ≡ kinds_of b l) × (spelt a l ≡ spelt b l)
unfolding kinds_of spelt
same_spelt n a b same l front range ends =
    let table = same_words n a b same in
    let sum = same_word n a b same (header_start l) (omega arith) in
    let design = same_word n a b same (header_start l + 1) (omega arith) in
    let characters = same_characters n a b same l (omega arith) in
    let commands = table (program_start l) l.nl (omega arith) in
    let kinds = same_kinds n a b same l range ends 0 (program_words b l) in
    let kerns = table (kern_start l) l.nk (omega arith) in
    let params = table (param_start l) l.np (omega arith) in (
      rw (design, characters.1, commands, kinds, kerns, params) refl,
      rw (sum, design, characters.0, commands, kerns, params) refl,
    )

same_metric : (n : ℕ) (a b : List ℕ) → SameBytes n a b → 28 ≤ n → 4 * (lengths_of b).lf ≤ n → n ≤ length a → n ≤ length b → metric_of a ≡ metric_of b
unfolding metric_of
same_metric n a b same h counted is_a is_b = rw (same_lengths_in n a b same h counted is_a is_b) (same_steps (lengths_in b) _ _ (λ l given.
    let is = lengths_are b l given in
    let ends = inside l is.0 in
    let range = in_range l is.0 in
    let short : 4 * l.lf ≤ n = rw is.1 counted in
    let both = same_spelt n a b same l ends.0 range (omega (arith, ends.1)) in
    rw (both.0, both.1) refl))

count_is : (file : List ℕ) → (lengths_of file).lf ≡ halfword file 0
unfolding lengths_of lengths_at
count_is file = refl

pub metric_of_prefix : (file : List ℕ) (most : ℕ) → 28 ≤ most → 4 * halfword file 0 ≤ most → metric_of (take most file) ≡ metric_of file
metric_of_prefix file most h counted = elim (cases_lt most (length file)) [
  | inr all ↦ ap metric_of (take_all most file all)
  | inl more ↦
      let cut : length (take most file) ≡ most = length-take-le most file (omega arith) in
      same_metric most (take most file) file (same_taken most file) h (rw count_is counted) (omega arith) (omega arith)
]

pub halfword_of_prefix : (file : List ℕ) (most i : ℕ) → 2 * i + 2 ≤ most → halfword (take most file) i ≡ halfword file i
halfword_of_prefix file most i h = same_halfword most (take most file) file (same_taken most file) i h
