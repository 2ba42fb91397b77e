-- The first fault is the first bad word.
use Rattle.std.proofs.Common.{◌≡◌, ℕ, zero, suc, ◌+◌, ◌*◌, ◌<◌, List, [], ◌∷◌, Option, Some, None, get_or, Ok, Err, arith, refl, ap, ◌∙◌}
use Rattle.ts_geometry.specs.declared.fault.BadKind.{BadKind}
use Rattle.ts_geometry.specs.declared.fault.MetricFault.TheVariants.{Bad}
use Rattle.metric_words.specs.Checking.{checked, IsFirstBad}

later : (ks : List (Option BadKind)) (i : ℕ) (kind : BadKind) → IsFirstBad ks i kind → (j : ℕ) → j < suc i → get_or (None ∷ ks) j None ≡ None
later ks i kind first zero lt = refl
later ks i kind first (suc j) lt = first.good j (omega arith)

from_place : {A : Type 0} (from : ℕ) (ks : List (Option BadKind)) (v : A) (kind : BadKind) (at : ℕ) → checked from ks v ≡ Err (Bad kind at)
    → (i : ℕ) × ((at ≡ 4 * (from + i)) × IsFirstBad ks i kind)
from_place from [] v kind at h = absurd cc
from_place from (None ∷ ks) v kind at h =
    let found = from_place (from + 1) ks v kind at h in
    (suc found.0, (omega (arith, found.1.0), record { bad = found.1.1.bad; good = later ks found.0 kind found.1.1 }))
from_place from (Some k ∷ ks) v kind at h =
    let place : 4 * from ≡ at = cc in
    let same : k ≡ kind = cc in
    (0, (omega arith, record { bad = ap Some same; good = λ j lt. absurd (omega arith) }))

to_place : {A : Type 0} (from : ℕ) (ks : List (Option BadKind)) (v : A) (kind : BadKind) (i : ℕ) → IsFirstBad ks i kind
    → checked from ks v ≡ Err (Bad kind (4 * (from + i)))
to_place from [] v kind i first = absurd cc
to_place from (None ∷ ks) v kind zero first = absurd cc
to_place from (None ∷ ks) v kind (suc i) first =
    let same : from + 1 + i ≡ from + suc i = omega arith in
    to_place (from + 1) ks v kind i (record { bad = first.bad; good = λ j lt. first.good (suc j) (omega arith) })
    ∙ ap (λ n. Err (Bad kind (4 * n))) same
to_place from (Some k ∷ ks) v kind zero first =
    let is : Some k ≡ Some kind = first.bad in
    let same : k ≡ kind = cc in
    let place : from ≡ from + 0 = omega arith in
    ap (λ w. Err (Bad w (4 * from))) same ∙ ap (λ n. Err (Bad kind (4 * n))) place
to_place from (Some k ∷ ks) v kind (suc i) first = let is : Some k ≡ None = first.good 0 (omega arith) in absurd cc

pub fault_to_word : {A : Type 0} (ks : List (Option BadKind)) (v : A) (kind : BadKind) (at : ℕ) → checked 0 ks v ≡ Err (Bad kind at)
    → (i : ℕ) × ((at ≡ 4 * i) × IsFirstBad ks i kind)
fault_to_word ks v kind at h = let found = from_place 0 ks v kind at h in (found.0, (omega (arith, found.1.0), found.1.1))

pub word_to_fault : {A : Type 0} (ks : List (Option BadKind)) (v : A) (kind : BadKind) (i : ℕ) → IsFirstBad ks i kind → checked 0 ks v ≡ Err (Bad kind (4 * i))
word_to_fault ks v kind i first = let same : 0 + i ≡ i = omega arith in to_place 0 ks v kind i first ∙ ap (λ n. Err (Bad kind (4 * n))) same

passes : {A : Type 0} (from : ℕ) (ks : List (Option BadKind)) (v : A) → ((j : ℕ) → get_or ks j None ≡ None) → checked from ks v ≡ Ok v
passes from [] v none = refl
passes from (None ∷ ks) v none = passes (from + 1) ks v (λ j. none (suc j))
passes from (Some k ∷ ks) v none = let is : Some k ≡ None = none 0 in absurd cc

pub no_fault : {A : Type 0} (ks : List (Option BadKind)) (v : A) → ((j : ℕ) → get_or ks j None ≡ None) → checked 0 ks v ≡ Ok v
no_fault ks v none = passes 0 ks v none
