-- The name of a form's metric is the name of a file.
use Rattle.std.proofs.Common.{◌≡◌, ℕ, ◌+◌, ◌≤◌, List, [], ◌∷◌, ◌++◌, length, refl, ◌∙◌, arith, Bool, true, false, length-append}
use Rattle.std.specs.Prelude.{nat_le, ◌&&◌, if◌then◌else◌}
use Rattle.std.specs.List.{list_all, list_any}
use Rattle.std.proofs.lemmas.List.Folds.{list_all-append}
use Rattle.std.proofs.lemmas.Bool.Decides.{nat_tests}
use Rattle.ts_outside.specs.Names.{is_visible, is_file_name}
use Rattle.ts_outside.specs.Endings.{is_dot, last_part, with_ending, metric_ending}
use Rattle.ts_job.specs.Form.{Form, is_name_byte}
use Rattle.ts_job.specs.Setting.{IsSound}

both_true : (a b : Bool) → (a && b) ≡ true → (a ≡ true) × (b ≡ true)
both_true true true e = (refl, refl)
both_true true false e = absurd cc
both_true false b e = absurd cc

visible : (b : ℕ) → is_name_byte b ≡ true → is_visible b ≡ true
visible b e = grind (arith, nat_tests)

all_visible : (name : List ℕ) → list_all is_name_byte name ≡ true → list_all is_visible name ≡ true
all_visible [] e = refl
all_visible (b ∷ name) e = let both = both_true (is_name_byte b) (list_all is_name_byte name) e in rw (visible b both.0, all_visible name both.1) refl

is_name : (name : List ℕ) → list_all is_visible name ≡ true → 1 ≤ length name → length name ≤ 255 → is_file_name name ≡ true
is_name name e low high =
    let a : nat_le 1 (length name) ≡ true = grind (arith, nat_tests) in
    let b : nat_le (length name) 255 ≡ true = grind (arith, nat_tests) in
    rw (a, b, e) refl

with_or_without : (b : Bool) (name : List ℕ) → list_all is_visible name ≡ true → 1 ≤ length name → length name ≤ 251 → is_file_name (if b then name else name ++ metric_ending) ≡ true
with_or_without true name e low high = is_name name e low (omega arith)
with_or_without false name e low high =
    let n : length (name ++ metric_ending) ≡ length name + 4 = length-append name metric_ending in
    is_name (name ++ metric_ending) (list_all-append is_visible name metric_ending ∙ rw e refl) (omega arith) (omega arith)

pub name-sound : (form : Form) → IsSound form → is_file_name form.name ≡ true
name-sound form sound = is_name form.name (all_visible form.name sound.name_bytes) sound.name_least (omega (arith, sound.name_most))

pub metric_name-sound : (form : Form) → IsSound form → is_file_name (with_ending metric_ending form.name) ≡ true
metric_name-sound form sound = with_or_without (list_any is_dot (last_part form.name)) form.name (all_visible form.name sound.name_bytes) sound.name_least (omega (arith, sound.name_most))
