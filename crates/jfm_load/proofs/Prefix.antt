-- A metric is in the words that its file counts: what follows them is ignored.
use Rattle.std.proofs.Common.{◌≡◌, ℕ, ◌+◌, ◌*◌, ◌≤◌, inl, inr, false, List, length, take, nat_lt, Ok, arith, refl, ap, take_all, length-take-le}
use Rattle.std.proofs.lemmas.Bool.{cases_lt}
use Rattle.metric_words.specs.declared.lengths.Lengths.{Lengths}
use Rattle.metric_words.specs.Words.{halfword}
use Rattle.metric_words.specs.Lengths.{lengths_at, contradict, file_end, header_start, char_type_start, program_start, kern_start, glue_start, param_start}
use Rattle.metric_words.proofs.Same.{SameBytes, same_taken, same_halfword, same_word, same_words, same_lengths_at, same_within, same_characters, same_steps, not_short, not_refused, within_is, inside}
use Rattle.jfm_load.specs.Metrics.{metric_of, lengths_of, lengths_in, is_odd, kinds_of, spelt}

same_lengths : (n : ℕ) (a b : List ℕ) → SameBytes n a b → 28 ≤ n → lengths_of a ≡ lengths_of b
unfolding lengths_of
same_lengths n a b same h =
    rw (same_halfword n a b same 1 (omega arith), same_lengths_at n a b same 7 (halfword b 1) 2 (omega arith)) refl

-- where neither file is too short for its words
same_lengths_in : (n : ℕ) (a b : List ℕ) → SameBytes n a b → 28 ≤ n → 4 * (lengths_of b).lf ≤ n → n ≤ length a → n ≤ length b → lengths_in a ≡ lengths_in b
unfolding lengths_in
same_lengths_in n a b same h counted is_a is_b =
    rw (
      same_lengths n a b same h,
      not_short n 28 a is_a h,
      not_short n 28 b is_b h,
      same_within n a b (lengths_of b) (is_odd (lengths_of b)) counted is_a is_b,
    ) refl

-- the lengths that lengths_in gives
lengths_are : (file : List ℕ) (l : Lengths) → lengths_in file ≡ Ok l → (contradict l ≡ false) × (l ≡ lengths_of file)
unfolding lengths_in
lengths_are file l h =
    let all = not_refused (nat_lt (length file) 28) _ _ l h in
    let given = within_is file (lengths_of file) l (is_odd (lengths_of file)) all.1 in
    (rw given.2 given.0, given.2)

same_spelt : (n : ℕ) (a b : List ℕ) → SameBytes n a b → (l : Lengths) → 28 ≤ n → 2 ≤ l.lh → 4 * file_end l ≤ n
    → (kinds_of a l ≡ kinds_of b l) × (spelt a l ≡ spelt b l)
unfolding kinds_of spelt
same_spelt n a b same l front h ends =
    let table = same_words n a b same in
    let id = same_halfword n a b same 0 (omega arith) in
    let sum = same_word n a b same (header_start l) (omega arith) in
    let design = same_word n a b same (header_start l + 1) (omega arith) in
    let types = table (char_type_start l) l.nt (omega arith) in
    let characters = same_characters n a b same l (omega arith) in
    let commands = table (program_start l) l.nl (omega arith) in
    let kerns = table (kern_start l) l.nk (omega arith) in
    let glues = table (glue_start l) l.ng (omega arith) in
    let params = table (param_start l) l.np (omega arith) in (
      rw (design, types, characters.1, commands, kerns, glues, params) refl,
      rw (id, sum, design, types, characters.0, commands, kerns, glues, params) refl,
    )

same_metric : (n : ℕ) (a b : List ℕ) → SameBytes n a b → 28 ≤ n → 4 * (lengths_of b).lf ≤ n → n ≤ length a → n ≤ length b → metric_of a ≡ metric_of b
unfolding metric_of
same_metric n a b same h counted is_a is_b = rw (same_lengths_in n a b same h counted is_a is_b) (same_steps (lengths_in b) _ _ (λ l given.
    let is = lengths_are b l given in
    let ends = inside l is.0 in
    let short : 4 * l.lf ≤ n = rw is.1 counted in
    let both = same_spelt n a b same l h ends.0 (omega (arith, ends.1)) in
    rw (both.0, both.1) refl))

count_is : (file : List ℕ) → (lengths_of file).lf ≡ halfword file 2
unfolding lengths_of lengths_at
count_is file = refl

pub metric_of_prefix : (file : List ℕ) (most : ℕ) → 28 ≤ most → 4 * halfword file 2 ≤ most → metric_of (take most file) ≡ metric_of file
metric_of_prefix file most h counted = elim (cases_lt most (length file)) [
  | inr all ↦ ap metric_of (take_all most file all)
  | inl more ↦
      let cut : length (take most file) ≡ most = length-take-le most file (omega arith) in
      same_metric most (take most file) file (same_taken most file) h (rw count_is counted) (omega arith) (omega arith)
]

pub halfword_of_prefix : (file : List ℕ) (most i : ℕ) → 2 * i + 2 ≤ most → halfword (take most file) i ≡ halfword file i
halfword_of_prefix file most i h = same_halfword most (take most file) file (same_taken most file) i h
