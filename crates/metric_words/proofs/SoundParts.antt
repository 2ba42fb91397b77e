-- What the definitions say of lengths and tables without a fault.
use Rattle.std.proofs.Common.{◌≡◌, ℕ, zero, suc, ◌+◌, ◌*◌, ◌/◌, ◌%◌, ◌≤◌, ◌<◌, Bool, true, false, List, [], ◌∷◌, length, get_or, map, ◌||◌, ◌&&◌, not, nat_lt, nat_le, ◌==◌, if◌then◌else◌, Option, Some, None, Ok, arith, refl, ap, sym, ◌∙◌, ℤ, pos}
use Rattle.std.proofs.lemmas.Bool.Decides.{nat_tests}
use Rattle.std.proofs.lemmas.List.{length-map}
use Rattle.std.specs.List.{list_all}
use Rattle.ts_geometry.specs.declared.fault.BadKind.{BadKind}
use Rattle.metric_words.specs.declared.lengths.Lengths.{Lengths}
use Rattle.metric_words.specs.declared.characters.CharInfo.{CharInfo}
use Rattle.metric_words.specs.Words.{words, first_byte, second_byte, third_byte, fourth_byte}
use Rattle.metric_words.specs.Checking.{checked}
use Rattle.metric_words.specs.Lengths.{contradict, char_count, char_info_start}
use Rattle.metric_words.specs.FixWords.{design_kind, fix_of, fix_kind, zero_kind, table_kinds, table_in, fix_words_in}
use Rattle.metric_words.specs.Characters.{char_info_of, info_kind, info_words, character_in}
use Rattle.metric_words.specs.Parted.{infos_in}
use Rattle.metric_words.specs.Sound.{AreSound, AreCharacters, IsDesign, has_places, has_fix_measures, is_fix}
use Rattle.metric_words.proofs.Chain.{length-words}

pub sound_lengths : (l : Lengths) (size : ℕ) → contradict l ≡ false → 4 * l.lf ≤ size → l.lf ≤ 65535 → AreSound l size
unfolding contradict
sound_lengths l size agree h fits = record {
  inside = grind (arith, nat_tests);
  whole = grind (arith, nat_tests);
  header = grind (arith, nat_tests);
  first_char = grind (arith, nat_tests);
  last_char = grind (arith, nat_tests);
  widths = grind (arith, nat_tests);
  heights = grind (arith, nat_tests);
  depths = grind (arith, nat_tests);
  italics = grind (arith, nat_tests);
}

-- ---- no word is bad where a value is given

pub checked-head : {A : Type 0} (at : ℕ) (kind : Option BadKind) (kinds : List (Option BadKind)) (v x : A) → checked at (kind ∷ kinds) v ≡ Ok x
    → (kind ≡ None) × (checked (at + 1) kinds v ≡ Ok x)
checked-head at None kinds v x h = (refl, h)
checked-head at (Some kind) kinds v x h = absurd cc

pub checked-value : {A : Type 0} (at : ℕ) (kinds : List (Option BadKind)) (v x : A) → checked at kinds v ≡ Ok x → v ≡ x
checked-value at [] v x h = cc
checked-value at (None ∷ kinds) v x h = checked-value (at + 1) kinds v x h
checked-value at (Some kind ∷ kinds) v x h = absurd cc

-- the test whose failure is a fault
pub if-none : (b : Bool) (kind : BadKind) → (if b then None else Some kind) ≡ None → b ≡ true
if-none true kind h = refl
if-none false kind h = absurd cc

pub if-some : (b : Bool) (kind : BadKind) → (if b then Some kind else None) ≡ None → b ≡ false
if-some false kind h = refl
if-some true kind h = absurd cc

-- each value passes a test, where a good word's value does
pub good_values : {A : Type 0} (kind : ℕ → Option BadKind) (value : ℕ → A) (p : A → Bool) → ((w : ℕ) → kind w ≡ None → p (value w) ≡ true)
    → {X : Type 0} (at : ℕ) (ws : List ℕ) (v x : X) → checked at (map kind ws) v ≡ Ok x → list_all p (map value ws) ≡ true
good_values kind value p good at [] v x h = refl
good_values kind value p good at (w ∷ ws) v x h =
    let s = checked-head at (kind w) (map kind ws) v x h in
    rw (good w s.0, good_values kind value p good (at + 1) ws v x s.1) refl

-- ---- the parts

pub good_design : (w : ℕ) → design_kind w ≡ None → IsDesign (w / 16)
unfolding design_kind
good_design w h =
    let in_range = if-some (nat_lt w 1048576 || nat_le 2147483648 w) _ h in
    record { least = grind (arith, nat_tests); most = grind (arith, nat_tests) }

pub good_info : (l : Lengths) (w : ℕ) → info_kind l w ≡ None → has_places l.nw l.nh l.nd (char_info_of w) ≡ true
unfolding info_kind char_info_of
good_info l w h =
    let b = if-none (nat_lt (first_byte w) l.nw && nat_lt (second_byte w / 16) l.nh && nat_lt (second_byte w % 16) l.nd
    && nat_lt (third_byte w / 4) l.ni && (not (third_byte w % 4 == 1) || nat_lt (fourth_byte w) l.nl)) _ h in
    grind (arith, nat_tests)

pub good_fix : (w : ℕ) → fix_kind w ≡ None → is_fix (fix_of w) ≡ true
unfolding fix_kind
good_fix w h =
    let b = if-none (first_byte w == 0 || first_byte w == 255) _ h in
    grind (arith, nat_tests)

pub all_fix : {X : Type 0} (at : ℕ) (ws : List ℕ) (v x : X) → checked at (table_kinds ws) v ≡ Ok x → list_all is_fix (map fix_of ws) ≡ true
unfolding zero_kind
all_fix at [] v x h = refl
all_fix at (w ∷ ws) v x h =
    let s = checked-head at (zero_kind w) (map fix_kind ws) v x h in
    let b = if-none (w == 0) _ s.0 in
    let is_zero : w ≡ 0 = grind (arith, nat_tests) in
    let more = good_values fix_kind fix_of is_fix good_fix (at + 1) ws v x s.1 in
    rw (is_zero, more) refl

-- what is read of a table
pub sound_table : (file : List ℕ) (from n : ℕ) (table : List ℤ) → table_in file from n ≡ Ok table → (length table ≡ n) × (list_all is_fix table ≡ true)
sound_table file from n table h =
    let ws = words file from n in
    let e = checked-value from (table_kinds ws) (map fix_of ws) table h in
    (ap length (sym e) ∙ (rw (length-map, length-words) refl), rw (← e) (all_fix from ws (map fix_of ws) table h))

pub sound_infos : (file : List ℕ) (l : Lengths) (infos : List CharInfo) → infos_in file l ≡ Ok infos
    → (length infos ≡ char_count l) × (list_all (has_places l.nw l.nh l.nd) infos ≡ true)
sound_infos file l infos h =
    let ws = info_words file l in
    let e = checked-value (char_info_start l) (map (info_kind l) ws) (map char_info_of ws) infos h in (
      ap length (sym e) ∙ (rw (length-map, length-words) refl),
      rw (← e) (good_values (info_kind l) char_info_of (has_places l.nw l.nh l.nd) (good_info l) (char_info_start l) ws (map char_info_of ws) infos h),
    )

-- the tables of a file without a fault fit each other
pub sound_characters : (file : List ℕ) (l : Lengths) (infos : List CharInfo) (widths heights depths : List ℤ) (w h p nw nh nd : ℕ)
    → infos_in file l ≡ Ok infos
    → nw ≡ l.nw → table_in file w nw ≡ Ok widths → nh ≡ l.nh → table_in file h nh ≡ Ok heights → nd ≡ l.nd → table_in file p nd ≡ Ok depths
    → AreCharacters infos widths heights depths
sound_characters file l infos widths heights depths w h p nw nh nd infos_are nw_is widths_are nh_is heights_are nd_is depths_are =
    let is = sound_infos file l infos infos_are in
    let ws = sound_table file w nw widths widths_are in
    let hs = sound_table file h nh heights heights_are in
    let ps = sound_table file p nd depths depths_are in
    record {
      places = rw (ws.0, hs.0, ps.0, nw_is, nh_is, nd_is) is.1;
      fix_widths = ws.1;
      fix_heights = hs.1;
      fix_depths = ps.1;
    }

-- each entry passes the test
pub all_at : {X : Type 0} (p : X → Bool) (xs : List X) (i : ℕ) (d : X) → list_all p xs ≡ true → i < length xs → p (get_or xs i d) ≡ true
all_at p [] i d h lt = absurd (omega arith)
all_at p (x ∷ xs) zero d h lt = grind (arith, nat_tests)
all_at p (x ∷ xs) (suc i) d h lt = all_at p xs i d (grind (arith, nat_tests)) (omega arith)

-- what is read of kerns and glue
pub sound_words : (file : List ℕ) (from n : ℕ) (table : List ℤ) → fix_words_in file from n ≡ Ok table → list_all is_fix table ≡ true
sound_words file from n table h =
    let ws = words file from n in
    let e = checked-value from (map fix_kind ws) (map fix_of ws) table h in
    rw (← e) (good_values fix_kind fix_of is_fix good_fix from ws (map fix_of ws) table h)

-- each entry passes the test, and so does what stands for one that isn't there
pub passes_at : {X : Type 0} (p : X → Bool) (xs : List X) (i : ℕ) (d : X) → p d ≡ true → list_all p xs ≡ true → p (get_or xs i d) ≡ true
passes_at p [] i d none h = none
passes_at p (x ∷ xs) zero d none h = grind (arith, nat_tests)
passes_at p (x ∷ xs) (suc i) d none h = passes_at p xs i d none (grind (arith, nat_tests))

-- the word at each place, and 0 where there is none
pub fix_at : (table : List ℤ) (i : ℕ) → list_all is_fix table ≡ true → is_fix (get_or table i (pos 0)) ≡ true
fix_at table i h = passes_at is_fix table i (pos 0) refl h

-- characters by sound tables
pub fix_characters : (infos : List CharInfo) (widths heights depths : List ℤ)
    → list_all is_fix widths ≡ true → list_all is_fix heights ≡ true → list_all is_fix depths ≡ true
    → list_all has_fix_measures (map (character_in widths heights depths) infos) ≡ true
fix_characters [] widths heights depths w h d = refl
fix_characters (info ∷ infos) widths heights depths w h d =
    rw (fix_at widths info.width w, fix_at heights info.height h, fix_at depths info.depth d, fix_characters infos widths heights depths w h d) refl
