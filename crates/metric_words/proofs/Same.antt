-- Two files whose first bytes are the same spell the same in those bytes.
use Rattle.std.proofs.Common.{◌≡◌, ℕ, zero, suc, ◌+◌, ◌*◌, ◌≤◌, ◌<◌, Bool, true, false, List, length, get_or, take, drop, nat_lt, ◌||◌, if◌then◌else◌, Result, Ok, Err, arith, refl, sym, ◌∙◌, get_or-drop, get_or-take}
use Rattle.std.proofs.lemmas.Bool.Decides.{nat_tests}
use Rattle.ts_base.specs.Agreement.{◌>>=◌}
use Rattle.metric_words.specs.declared.lengths.Lengths.{Lengths}
use Rattle.metric_words.specs.Words.{halfword, word, words}
use Rattle.metric_words.specs.Lengths.{lengths_at, contradict, lengths_within, char_count, char_info_start, width_start, height_start, depth_start, italic_start, program_start, file_end}
use Rattle.metric_words.specs.Characters.{characters_of, character_kinds}

-- the first n bytes of two files are the same
pub record SameBytes (n : ℕ) (a b : List ℕ) : Type 0 where
  pub at : (k : ℕ) → k < n → get_or a k 0 ≡ get_or b k 0

pub same_taken : (n : ℕ) (file : List ℕ) → SameBytes n (take n file) file
same_taken n file = record { at = λ k below. get_or-take n file k 0 below }

same_byte : (n : ℕ) (a b : List ℕ) → SameBytes n a b → (p k : ℕ) → p + k < n → get_or (drop p a) k 0 ≡ get_or (drop p b) k 0
same_byte n a b same p k h = get_or-drop p a k 0 ∙ (same.at (p + k) h ∙ sym (get_or-drop p b k 0))

pub same_halfword : (n : ℕ) (a b : List ℕ) → SameBytes n a b → (i : ℕ) → 2 * i + 2 ≤ n → halfword a i ≡ halfword b i
unfolding halfword
same_halfword n a b same i h =
    rw (same_byte n a b same (2 * i) 0 (omega arith), same_byte n a b same (2 * i) 1 (omega arith)) refl

pub same_word : (n : ℕ) (a b : List ℕ) → SameBytes n a b → (i : ℕ) → 4 * i + 4 ≤ n → word a i ≡ word b i
unfolding word
same_word n a b same i h =
    let at = same_byte n a b same (4 * i) in
    rw (at 0 (omega arith), at 1 (omega arith), at 2 (omega arith), at 3 (omega arith)) refl

pub same_words : (n : ℕ) (a b : List ℕ) → SameBytes n a b → (from count : ℕ) → 4 * (from + count) ≤ n → words a from count ≡ words b from count
same_words n a b same from zero h = refl
same_words n a b same from (suc count) h =
    rw (same_word n a b same from (omega arith), same_words n a b same (from + 1) count (omega arith)) refl

pub same_lengths_at : (n : ℕ) (a b : List ℕ) → SameBytes n a b → (front nt first : ℕ) → 2 * (first + 12) ≤ n
    → lengths_at a front nt first ≡ lengths_at b front nt first
unfolding lengths_at
same_lengths_at n a b same front nt first h =
    let at = same_halfword n a b same in
    rw (
      at first (omega arith),
      at (first + 1) (omega arith),
      at (first + 2) (omega arith),
      at (first + 3) (omega arith),
      at (first + 4) (omega arith),
      at (first + 5) (omega arith),
      at (first + 6) (omega arith),
      at (first + 7) (omega arith),
      at (first + 8) (omega arith),
      at (first + 9) (omega arith),
      at (first + 10) (omega arith),
      at (first + 11) (omega arith),
    ) refl

-- a file isn't too short
pub not_short : (n m : ℕ) (a : List ℕ) → n ≤ length a → m ≤ n → nat_lt (length a) m ≡ false
not_short n m a is below = grind (arith, nat_tests)

pub same_within : (n : ℕ) (a b : List ℕ) (l : Lengths) (wrong : Bool) → 4 * l.lf ≤ n → n ≤ length a → n ≤ length b → lengths_within a l wrong ≡ lengths_within b l wrong
same_within n a b l wrong h is_a is_b = rw (not_short n (4 * l.lf) a is_a h, not_short n (4 * l.lf) b is_b h) refl

pub same_characters : (n : ℕ) (a b : List ℕ) → SameBytes n a b → (l : Lengths) → 4 * program_start l ≤ n
    → (characters_of a l ≡ characters_of b l) × (character_kinds a l ≡ character_kinds b l)
unfolding characters_of character_kinds
same_characters n a b same l h =
    let table = same_words n a b same in
    let infos = table (char_info_start l) (char_count l) (omega arith) in
    let widths = table (width_start l) l.nw (omega arith) in
    let heights = table (height_start l) l.nh (omega arith) in
    let depths = table (depth_start l) l.nd (omega arith) in
    let italics = table (italic_start l) l.ni (omega arith) in
    (rw (infos, widths, heights, depths) refl, rw (infos, widths, heights, depths, italics) refl)

pub same_steps : {X Y E : Type 0} (r : Result X E) (f g : X → Result Y E) → ((x : X) → r ≡ Ok x → f x ≡ g x) → (r >>= f) ≡ (r >>= g)
same_steps (Ok x) f g same = same x refl
same_steps (Err e) f g same = refl

-- what is given is no refusal of this test
pub not_refused : {X E : Type 0} (b : Bool) (e : E) (r : Result X E) (x : X) → (if b then Err e else r) ≡ Ok x → (b ≡ false) × (r ≡ Ok x)
not_refused true e r x h = absurd cc
not_refused false e r x h = (refl, h)

pub neither : (a b : Bool) → (a || b) ≡ false → (a ≡ false) × (b ≡ false)
neither true b h = absurd cc
neither false b h = (refl, h)

-- the lengths that are given are those that were tested
pub within_is : (file : List ℕ) (l x : Lengths) (wrong : Bool) → lengths_within file l wrong ≡ Ok x
    → (contradict l ≡ false) × (wrong ≡ false) × (x ≡ l)
within_is file l x wrong h =
    let agree = not_refused (contradict l || wrong) _ _ x h in
    let whole = not_refused (nat_lt (length file) (4 * l.lf)) _ _ x agree.1 in
    let both = neither (contradict l) wrong agree.0 in
    (both.0, both.1, cc)

pub inside : (l : Lengths) → contradict l ≡ false → (2 ≤ l.lh) × (file_end l ≡ l.lf)
unfolding contradict
inside l h = (grind (arith, nat_tests), grind (arith, nat_tests))
