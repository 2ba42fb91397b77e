-- A metric is in its first 28 bytes, or in the words that these count where they are more.
use Rattle.std.proofs.Common.{◌≡◌, ℕ, ◌+◌, ◌*◌, ◌≤◌, max, Bool, true, false, cond, List, length, take, nat_le, Result, Ok, refl, ap, sym, ◌∙◌, arith, length-take}
use Rattle.std.specs.Prelude.{◌==◌, ◌&&◌, ◌||◌}
use Rattle.std.proofs.lemmas.Bool.Decides.{nat_tests}
use Rattle.ts_base.specs.Agreement.{◌>>=◌}
use Rattle.ts_geometry.specs.declared.fault.MetricFault.{MetricFault}
use Rattle.metric_words.specs.Words.{halfword}
use Rattle.metric_words.specs.Lengths.{begins_as_jfm}
use Rattle.tfm_load.specs.Metrics as tfm
use Rattle.tfm_load.proofs.Prefix as tfm_prefix
use Rattle.jfm_load.specs.Metrics as jfm
use Rattle.jfm_load.proofs.Prefix as jfm_prefix
use Rattle.font_store.specs.declared.metric.Metric.{Metric}
use Rattle.font_store.specs.declared.metric.Metric.TheVariants.{Roman, Japanese}
use Rattle.font_store.specs.Metrics.{metric_of}
use Rattle.font_store.specs.Pieces.{size_of, first_bytes}

-- the same words, where the test for a JFM is made already
abbrev begun : Bool → ℕ → Bool
begun enough first = enough && (first == 11 || first == 9)

abbrev metric_as : Bool → List ℕ → Result Metric MetricFault
metric_as is_jfm bytes = cond is_jfm (jfm.metric_of bytes >>= λ m. Ok (Japanese m)) (tfm.metric_of bytes >>= λ m. Ok (Roman m))

abbrev count_at : Bool → ℕ
count_at is_jfm = cond is_jfm 2 0

abbrev size_as : Bool → List ℕ → ℕ
size_as is_jfm bytes = max 28 (4 * halfword bytes (count_at is_jfm))

enough : (most : ℕ) (file : List ℕ) → 2 ≤ most → nat_le 2 (length (take most file)) ≡ nat_le 2 (length file)
enough most file h = grind (arith, nat_tests, length-take most file)

begins_in_front : (most : ℕ) (file : List ℕ) → 2 ≤ most → begins_as_jfm (take most file) ≡ begins_as_jfm file
begins_in_front most file h =
    let first : halfword (take most file) 0 ≡ halfword file 0 = jfm_prefix.halfword_of_prefix file most 0 (omega arith) in
    ap (λ (e : Bool). begun e (halfword (take most file) 0)) (enough most file h) ∙ ap (λ (n : ℕ). begun (nat_le 2 (length file)) n) first

place_small : (is_jfm : Bool) → 2 * count_at is_jfm + 2 ≤ 28
place_small true = omega arith
place_small false = omega arith

size_in_front : (file : List ℕ) → size_of (take 28 file) ≡ size_as (begins_as_jfm file) file
size_in_front file =
    let is_jfm : Bool = begins_as_jfm file in
    let count : halfword (take 28 file) (count_at is_jfm) ≡ halfword file (count_at is_jfm) = jfm_prefix.halfword_of_prefix file 28 (count_at is_jfm) (place_small is_jfm) in
    ap (λ (b : Bool). size_as b (take 28 file)) (begins_in_front 28 file (omega arith)) ∙ ap (λ (n : ℕ). max 28 (4 * n)) count

in_front : (is_jfm : Bool) (file : List ℕ) → metric_as is_jfm (take (size_as is_jfm file) file) ≡ metric_as is_jfm file
in_front true file = ap (λ (r : Result jfm.Metric MetricFault). r >>= λ m. Ok (Japanese m)) (jfm_prefix.metric_of_prefix file (size_as true file) (omega arith) (omega arith))
in_front false file = ap (λ (r : Result tfm.Metric MetricFault). r >>= λ m. Ok (Roman m)) (tfm_prefix.metric_of_prefix file (size_as false file) (omega arith) (omega arith))

pub metric_in_front : (file : List ℕ) → metric_of (first_bytes file) ≡ metric_of file
metric_in_front file =
    let is_jfm : Bool = begins_as_jfm file in
    let most : ℕ = size_as is_jfm file in
    let size : first_bytes file ≡ take most file = ap (λ (n : ℕ). take n file) (size_in_front file) in
    ap metric_of size ∙ ap (λ (b : Bool). metric_as b (take most file)) (begins_in_front most file (omega arith)) ∙ in_front is_jfm file
