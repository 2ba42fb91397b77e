-- What the definitions say of character types and lengths without a fault.
use Rattle.std.proofs.Common.{◌≡◌, ℕ, ◌+◌, ℤ, true, false, List, [], ◌∷◌, length, map, ◌&&◌, nat_lt, nat_le, ◌==◌, None, Result, Ok, Err, IfOk, arith, refl}
use Rattle.std.proofs.lemmas.Bool.Decides.{nat_tests}
use Rattle.std.specs.List.{list_all}
use Rattle.metric_words.specs.declared.lengths.Lengths.{Lengths}
use Rattle.metric_words.specs.Words.{first_half, third_byte, fourth_byte}
use Rattle.ts_geometry.specs.declared.fault.MetricFault.{MetricFault}
use Rattle.ts_base.specs.Agreement.{Agrees}
use Rattle.metric_words.specs.Checking.{checked, cause}
use Rattle.metric_words.specs.Characters.{Character}
use Rattle.metric_words.specs.Lengths.{char_count, char_type_start, lengths_within}
use Rattle.metric_words.specs.Sound.{AreSound, IsDesign, is_fix, has_fix_measures}
use Rattle.metric_words.proofs.Same.{within_is}
use Rattle.metric_words.proofs.SoundParts.{checked-head, checked-value, if-none}
use Rattle.jfm_load.specs.declared.tables.CharType.{CharType}
use Rattle.jfm_load.specs.CharTypes.{char_type_of, first_type_kind, type_kind, later_type_kinds, type_kinds, char_types_in, type_words, is_jis}
use Rattle.jfm_load.specs.Metrics.{is_odd}
use Rattle.jfm_load.specs.Sound.{AreClasses, HasClasses, rise, rise_from, has_class}

pub has_classes : (l : Lengths) → is_odd l ≡ false → HasClasses l
unfolding is_odd
has_classes l h = record { first_class = grind (arith, nat_tests); types = grind (arith, nat_tests) }

-- a good character type: its code is above the one before, and its class is one of the font
pub good_type : (before ec w : ℕ) → type_kind before ec w ≡ None
    → (nat_lt before (char_type_of w).code ≡ true) × (has_class (ec + 1) (char_type_of w) ≡ true)
unfolding type_kind char_type_of
good_type before ec w h =
    let b = if-none (third_byte w == 0 && nat_le (fourth_byte w) ec && nat_lt before (first_half w) && is_jis (first_half w)) _ h in
    (grind (arith, nat_tests), grind (arith, nat_tests))

pub later_types : (ec : ℕ) (at before : ℕ) (ws : List ℕ) (v x : List CharType) → checked at (later_type_kinds before ec ws) v ≡ Ok x
    → (rise_from before (map char_type_of ws) ≡ true) × (list_all (has_class (ec + 1)) (map char_type_of ws) ≡ true)
later_types ec at before [] v x h = (refl, refl)
later_types ec at before (w ∷ ws) v x h =
    let s = checked-head at (type_kind before ec w) (later_type_kinds (char_type_of w).code ec ws) v x h in
    let t = good_type before ec w s.0 in
    let more = later_types ec (at + 1) (char_type_of w).code ws v x s.1 in
    (rw (t.0, more.0) refl, rw (t.1, more.1) refl)

pub all_types : (ec : ℕ) (at : ℕ) (ws : List ℕ) (v x : List CharType) → checked at (type_kinds ec ws) v ≡ Ok x
    → (rise (map char_type_of ws) ≡ true) × (list_all (has_class (ec + 1)) (map char_type_of ws) ≡ true)
unfolding first_type_kind char_type_of
all_types ec at [] v x h = (refl, refl)
all_types ec at (w ∷ ws) v x h =
    let s = checked-head at (first_type_kind w) (later_type_kinds 0 ec ws) v x h in
    let zeroth = if-none (w == 0) _ s.0 in
    let is_zero : w ≡ 0 = grind (arith, nat_tests) in
    let more = later_types ec (at + 1) 0 ws v x s.1 in
    (rw (is_zero, more.0) refl, rw (is_zero, more.1) (grind (arith, nat_tests)))

pub sound_types : (file : List ℕ) (l : Lengths) (types : List CharType) → char_types_in file l ≡ Ok types
    → (rise types ≡ true) × (list_all (has_class (l.ec + 1)) types ≡ true)
sound_types file l types h =
    let ws = type_words file l in
    let e = checked-value (char_type_start l) (type_kinds l.ec ws) (map char_type_of ws) types h in
    rw (← e) (all_types l.ec (char_type_start l) ws (map char_type_of ws) types h)

-- the classes of a file without a fault
pub sound_classes : (file : List ℕ) (l : Lengths) (size d : ℕ) (types : List CharType) (classes : List Character) (kerns glues : List ℤ)
    → AreSound l size → HasClasses l → IsDesign d → char_types_in file l ≡ Ok types → length classes ≡ char_count l
    → list_all has_fix_measures classes ≡ true → list_all is_fix kerns ≡ true → list_all is_fix glues ≡ true
    → AreClasses d types classes kerns glues
sound_classes file l size d types classes kerns glues s japanese design types_are count fix_classes fix_kerns fix_glues =
    let ts = sound_types file l types types_are in
    let bc : l.bc ≡ 0 = japanese.first_class in
    let all : length classes ≡ l.ec + 1 = omega (arith, count) in
    record {
      is_design = design;
      rising = ts.0;
      with_class = rw all ts.1;
      some_class = omega arith;
      few_classes = omega (arith, s.last_char);
      fix_classes = fix_classes;
      fix_kerns = fix_kerns;
      fix_glues = fix_glues;
    }

-- what was tested of the lengths of a JFM
pub if_japanese : (file : List ℕ) (l : Lengths) (r : Result Lengths MetricFault) → Agrees (λ x. x) cause r (lengths_within file l (is_odd l))
    → IfOk r (λ x. HasClasses x)
if_japanese file l (Ok x) h = let given = within_is file l x (is_odd l) h in rw given.2 (has_classes l given.1)
if_japanese file l (Err e) h = tt
