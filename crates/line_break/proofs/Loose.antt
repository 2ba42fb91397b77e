-- A line whose ratio of shortfall to stretch is past the limit of a threshold is worse than that.
use Rattle.std.proofs.Common.{◌≡◌, ℕ, zero, suc, ◌+◌, ◌*◌, ◌/◌, ◌^◌, ◌<◌, ◌≤◌, Bool, true, false, not, ◌&&◌, cond, refl, sym, subst, ◌∙◌, ap, arith, ℤ, pos, negsuc, ◌*ℤ◌, ◌-ℤ◌, int_lt, int_le, unsigned_abs, nat_le, ◌==◌, inl, inr, ◌||◌, neg_ℤ, get_or}
use Rattle.std.proofs.Math.Nat.{mul-le-mul, mul-le-mul_left, le_of_mul-le-mul_right, div-mul-le_self, mul-div_cancel_left}
use Rattle.std.proofs.Math.Pow.{shr_mono}
use Rattle.std.proofs.lemmas.Bool.{le-leb, lt-leb, leb-true, ne_eqb, cases_lt}
use Rattle.std.proofs.lemmas.Int.{ints}
use Rattle.std.proofs.lemmas.Nat.{le-div}
use Rattle.ts_geometry.specs.Numbers.{badness, badness_of_ratio, stretch_ratio}
use Rattle.line_break.specs.declared.search.End.{End}
use Rattle.line_break.specs.declared.search.Lines.{Lines as PassLines}
use Rattle.line_break.specs.declared.totals.Totals.{Totals}
use Rattle.line_break.specs.Lines.{weight, closes, is_forced, line, totals, with_extra, stretches_without_end, stretched, weight_at, weight_short, weight_long}
use Rattle.line_break.specs.Loose.{IsLimit, IsTooLoose, is_past}
use Rattle.line_break.specs.Ready.{pass_of, IsPrepared, IsEnd}
use Rattle.line_break.specs.Running.{plus}
use Rattle.line_break.specs.declared.legal.Break.{Break}
use Rattle.line_break.proofs.Prepared.{line_is}

-- ---- a greater ratio is as bad or worse

abbrev by_cube : ℕ → ℕ
by_cube n = (n * n * n + 2 ^ 17) / 2 ^ 18

cubes_grow : (m n : ℕ) → m ≤ n → by_cube m ≤ by_cube n
cubes_grow m n h = let cubes : m * m * m ≤ n * n * n = mul-le-mul (mul-le-mul h h) h in shr_mono 18 (omega (arith, cubes))

at_most : (n : ℕ) → badness_of_ratio n ≤ 10000
at_most n =
    elim (nat_le n 1290) as (λ t. nat_le n 1290 ≡ t → cond t (by_cube n) 10000 ≤ 10000) [
      | true ↦ λ e. let top : by_cube 1290 ≡ 8189 = refl in let h = cubes_grow n 1290 (leb-true n 1290 e) in omega (arith, h, top)
      | false ↦ λ e. omega arith
    ] refl

pub ratios_grow : (m n : ℕ) → m ≤ n → badness_of_ratio m ≤ badness_of_ratio n
ratios_grow m n h =
    elim (nat_le n 1290) as (λ t. nat_le n 1290 ≡ t → badness_of_ratio m ≤ cond t (by_cube n) 10000) [
      | true ↦ λ e.
          let top = leb-true n 1290 e in
          let low : nat_le m 1290 ≡ true = le-leb m 1290 (omega (arith, h, top)) in
          rw low (cubes_grow m n h)
      | false ↦ λ e. at_most m
    ] refl

-- ---- the ratio of a line

-- what TeX divides where the stretch is great
coarse : (limit n m : ℕ) → 1663497 ≤ m → limit * m ≤ 297 * n → limit ≤ n / (m / 297)
coarse limit n m big h =
    let q = m / 297 in
    let some : 1 ≤ q = le-div 1 m 297 (omega arith) (omega (arith, big)) in
    let back : q * 297 ≤ m = div-mul-le_self m 297 in
    let wide : limit * (q * 297) ≤ limit * m = mul-le-mul_left limit back in
    let all : (limit * q) * 297 ≤ n * 297 = omega (arith, wide, h) in
    le-div limit n q (omega (arith, some)) (le_of_mul-le-mul_right all (omega arith))

ratio_past : (limit n m : ℕ) → limit ≤ 1291 → 0 < m → limit * m ≤ 297 * n → limit ≤ stretch_ratio n m
ratio_past limit n m small some h =
    elim (nat_le n 7230584) as (λ t. nat_le n 7230584 ≡ t → limit ≤ cond t ((297 * n) / m) (cond (nat_le 1663497 m) (n / (m / 297)) n)) [
      | true ↦ λ e. le-div limit (297 * n) m some h
      | false ↦ λ e. elim (nat_le 1663497 m) as (λ t. nat_le 1663497 m ≡ t → limit ≤ cond t (n / (m / 297)) n) [
        | true ↦ λ big. coarse limit n m (leb-true 1663497 m big) h
        | false ↦ λ _. elim (cases_lt 7230584 n) as (λ _. limit ≤ n) [
          | inl more ↦ omega (arith, small, more)
          | inr less ↦ let t : nat_le n 7230584 ≡ true = le-leb n 7230584 (omega (arith, less)) in absurd (cc)
        ]
      ] refl
    ] refl

farther : (z : ℤ) (a b : ℕ) → a ≤ b → int_lt z (pos a) ≡ true → int_lt z (pos b) ≡ true
farther z a b h e = grind (arith, ints)

-- the badness of some shortfall at some stretch
badness_is : (n m : ℕ) → 0 < n → badness n (pos (suc m)) ≡ badness_of_ratio (stretch_ratio n (suc m))
badness_is n m some =
    let short : (n == 0) ≡ false = ne_eqb n 0 (λ f. omega (arith, some, f)) in
    let stretches : nat_le (suc m) 0 ≡ false = lt-leb (suc m) 0 (omega arith) in
    ap (λ t. cond t 0 (cond (nat_le (suc m) 0) 10000 (badness_of_ratio (stretch_ratio n (suc m))))) short
    ∙ ap (λ t. cond t 10000 (badness_of_ratio (stretch_ratio n (suc m)))) stretches

worse : (limit n : ℕ) (z threshold : ℤ) → IsLimit threshold limit → int_lt threshold (pos 10000) ≡ true → 0 < n → int_le (pos limit *ℤ z) (pos 297 *ℤ pos n) ≡ true → int_lt threshold (pos (badness n z)) ≡ true
worse limit n (pos zero) threshold l t some h = let e : (n == 0) ≡ false = ne_eqb n 0 (λ f. omega (arith, some, f)) in rw e t
worse limit n (negsuc m) threshold l t some h = let e : (n == 0) ≡ false = ne_eqb n 0 (λ f. omega (arith, some, f)) in rw e t
worse limit n (pos (suc m)) threshold l t some h =
    let le : limit * suc m ≤ 297 * n = leb-true (limit * suc m) (297 * n) h in
    let past = ratio_past limit n (suc m) l.high (omega arith) le in
    let P : ℕ → Type 0 = λ k. int_lt threshold (pos k) ≡ true in
    subst P (sym (badness_is n m some)) (farther threshold (badness_of_ratio limit) (badness_of_ratio (stretch_ratio n (suc m))) (ratios_grow limit (stretch_ratio n (suc m)) past) (l.above t))

-- the badness at a stretch of 297
pub by_297 : (n : ℕ) → n < 2 ^ 16 → badness n (pos 297) ≡ badness_of_ratio n
by_297 zero h = refl
by_297 (suc n) h =
    let some : 0 < suc n = omega arith in
    let e : nat_le (suc n) 7230584 ≡ true = le-leb (suc n) 7230584 (omega (arith, h)) in
    badness_is (suc n) 296 some
    ∙ ap (λ t. badness_of_ratio (cond t ((297 * suc n) / 297) (cond (nat_le 1663497 297) (suc n / (297 / 297)) (suc n)))) e
    ∙ ap badness_of_ratio (mul-div_cancel_left (suc n) (omega arith))

-- the ratios below one that isn't too bad aren't either
pub still_below : (threshold : ℤ) (n middle : ℕ) → n ≤ middle → int_lt threshold (pos (badness_of_ratio middle)) ≡ false → int_lt threshold (pos (badness_of_ratio n)) ≡ false
still_below threshold n middle h e =
    let grown = ratios_grow n middle h in
    grind (arith, ints, grown, e)

-- ---- the line to a break

short_by : (width hsize : ℤ) → int_lt width hsize ≡ true → int_lt (pos 0) (hsize -ℤ width) ≡ true
short_by width hsize e = grind (arith, ints)

past_at : (hsize threshold : ℤ) (t : Totals) (limit : ℕ) → IsLimit threshold limit → int_lt threshold (pos 10000) ≡ true → is_past hsize t limit ≡ true → ((weight_at hsize t).overfull ≡ false) × (int_lt threshold (pos (weight_at hsize t).badness) ≡ true)
past_at hsize threshold t limit l low h =
    elim (int_lt t.width.0 hsize) as (λ u. int_lt t.width.0 hsize ≡ u → (u && (not (stretches_without_end t) && int_le (pos limit *ℤ t.stretch.0) (pos 297 *ℤ (hsize -ℤ t.width.0)))) ≡ true → ((cond u (weight_short (hsize -ℤ t.width.0) t) (weight_long (t.width.0 -ℤ hsize) t.shrink.0)).overfull ≡ false) × (int_lt threshold (pos (cond u (weight_short (hsize -ℤ t.width.0) t) (weight_long (t.width.0 -ℤ hsize) t.shrink.0)).badness) ≡ true)) [
      | true ↦ λ e k. elim (stretches_without_end t) as (λ v. (not v && int_le (pos limit *ℤ t.stretch.0) (pos 297 *ℤ (hsize -ℤ t.width.0))) ≡ true → ((cond v (stretched 0) (stretched (badness (unsigned_abs (hsize -ℤ t.width.0)) t.stretch.0))).overfull ≡ false) × (int_lt threshold (pos (cond v (stretched 0) (stretched (badness (unsigned_abs (hsize -ℤ t.width.0)) t.stretch.0))).badness) ≡ true)) [
        | true ↦ λ m. absurd (cc)
        | false ↦ λ m. (refl, worse_by (hsize -ℤ t.width.0) limit t.stretch.0 threshold l low (short_by t.width.0 hsize e) m)
      ] k
      | false ↦ λ e k. absurd (cc)
    ] refl h
  where
    worse_by : (short : ℤ) (limit : ℕ) (z threshold : ℤ) → IsLimit threshold limit → int_lt threshold (pos 10000) ≡ true → int_lt (pos 0) short ≡ true → int_le (pos limit *ℤ z) (pos 297 *ℤ short) ≡ true → int_lt threshold (pos (badness (unsigned_abs short) z)) ≡ true
    worse_by (pos n) limit z threshold l t some h = worse limit n z threshold l t (grind (arith, ints)) h
    worse_by (negsuc n) limit z threshold l t some h = absurd (grind (arith, ints))

pub until_line : (l : PassLines) (e : End) (s : ℕ) (d : Break) → IsPrepared l → IsEnd l e → s < e.at → (get_or l.breaks.now s d).kept < e.until → plus e.before (get_or l.breaks.now s d).after ≡ with_extra l.extra.0 (totals (line (pass_of l) s e.at))
until_line l e s d q k lt h = let u = k.until d in line_is l s e.at d e.before q lt k.inside k.before (omega (arith, h, u))

pub not_forced : (penalty : ℤ) → int_lt (neg_ℤ (pos 10000)) penalty ≡ true → int_le penalty (neg_ℤ (pos 10000)) ≡ false
not_forced penalty e = grind (arith, ints)

pub past_is_loose : (l : PassLines) (e : End) (s n : ℕ) (t : Totals) (r : Bool) → IsPrepared l → IsEnd l e → n < e.until → t ≡ with_extra l.extra.0 (totals (line (pass_of l) s e.at)) → r ≡ is_past l.shape.hsize.0 t l.limit → r ≡ true → IsTooLoose (pass_of l) s e.at
unfolding weight closes
past_is_loose l e s n t r q k some is past so =
    let p = pass_of l in
    let passes = k.passes (omega (arith, some)) in
    let P : Totals → Type 0 = λ u. ((weight_at l.shape.hsize.0 u).overfull ≡ false) × (int_lt l.threshold (pos (weight_at l.shape.hsize.0 u).badness) ≡ true) in
    let at : P (with_extra l.extra.0 (totals (line p s e.at))) = subst P is (past_at l.shape.hsize.0 l.threshold t l.limit q.limit passes.0 (sym past ∙ so)) in
    let open_ : is_forced p e.at ≡ false = ap (λ z. int_le z (neg_ℤ (pos 10000))) (sym k.penalty) ∙ passes.1 in
    let bad : int_le (pos (weight p s e.at).badness) l.threshold ≡ false = over l.threshold (weight p s e.at).badness at.1 in
    record {
      unfit = ap (λ b. not b && int_le (pos (weight p s e.at).badness) l.threshold) at.0 ∙ bad;
      stays = ap (λ b. b || is_forced p e.at) at.0 ∙ open_;
    }
  where
    over : (z : ℤ) (n : ℕ) → int_lt z (pos n) ≡ true → int_le (pos n) z ≡ false
    over z n h = grind (arith, ints)
