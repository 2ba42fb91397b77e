-- When the definition of a font is sound.
use Rattle.std.proofs.Common.{◌≡◌, ℕ, ◌+◌, ◌≤◌, ◌<◌, List, ◌++◌, length, refl, ◌∙◌, arith, Bool, true, false, length-append}
use Rattle.std.specs.Prelude.{nat_le, nat_lt, ◌&&◌, if◌then◌else◌}
use Rattle.std.specs.List.{list_all, list_any}
use Rattle.std.proofs.lemmas.List.Folds.{list_all-append}
use Rattle.ts_outside.specs.Names.{is_visible, is_file_name}
use Rattle.dvi_commands.specs.declared.font.FontDef.{FontDef}
use Rattle.ts_outside.specs.Endings.{is_dot, last_part, metric_ending}
use Rattle.dvi_structure.specs.Structure.{is_sound_font}

both_true : (a b : Bool) → (a && b) ≡ true → (a ≡ true) × (b ≡ true)
both_true true true e = (refl, refl)
both_true true false e = absurd cc
both_true false b e = absurd cc

within : (low n : ℕ) → low ≤ n → nat_le low n ≡ true
within low n le = grind arith

below : (n high : ℕ) → n < high → nat_lt n high ≡ true
below n high lt = grind arith

with_ending_sound : (b : Bool) (name : List ℕ) → is_file_name name ≡ true → length name ≤ 251 → is_file_name (if b then name else name ++ metric_ending) ≡ true
with_ending_sound true name e le = e
with_ending_sound false name e le =
    let n : length (name ++ metric_ending) ≡ length name + 4 = length-append name metric_ending in
    let visible : list_all is_visible (name ++ metric_ending) ≡ true = list_all-append is_visible name metric_ending ∙ rw (both_true (nat_le 1 (length name) && nat_le (length name) 255) (list_all is_visible name) e).1 refl in
    let low = within 1 (length (name ++ metric_ending)) (omega arith) in
    let high = within (length (name ++ metric_ending)) 255 (omega arith) in
    rw (low, high, visible) refl

-- a name of at most 251 bytes leaves room for the ending
pub sound-short : (f : FontDef) → is_file_name f.name ≡ true → length f.name ≤ 251 → 1 ≤ f.size → f.size < 8388608 → is_sound_font f ≡ true
unfolding is_sound_font
sound-short f name short low high =
    let ended = with_ending_sound (list_any is_dot (last_part f.name)) f.name name short in
    let a = within 1 f.size low in
    let b = below f.size 8388608 high in
    rw (name, ended, a, b) refl
