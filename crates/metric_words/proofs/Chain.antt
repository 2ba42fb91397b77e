-- Parts that are read one after the other are read as the words of all of them, in order.
use Rattle.std.proofs.Common.{◌≡◌, ℕ, zero, suc, ◌+◌, List, [], ◌∷◌, ◌++◌, length, map, Option, Some, None, Result, arith, refl, ap, ◌∙◌}
use Rattle.std.proofs.lemmas.List.{length-map}
use Rattle.ts_geometry.specs.declared.fault.BadKind.{BadKind}
use Rattle.ts_geometry.specs.declared.fault.MetricFault.{MetricFault}
use Rattle.ts_base.specs.Agreement.{◌>>=◌}
use Rattle.metric_words.specs.declared.lengths.Lengths.{Lengths}
use Rattle.metric_words.specs.Words.{words}
use Rattle.metric_words.specs.Checking.{checked, good}
use Rattle.metric_words.specs.Lengths.{char_info_start, width_start, height_start, depth_start, italic_start, program_start}
use Rattle.metric_words.specs.FixWords.{table_kinds, param_kinds}
use Rattle.metric_words.specs.Characters.{characters_in, characters_of, character_kinds, info_kind, info_words, width_words, height_words, depth_words, italic_words}
use Rattle.metric_words.specs.Programs.{command_kinds}
use Rattle.metric_words.specs.Parted.{characters_in_parts}

-- a part, and then what is left where it has no fault
pub chained : {X A : Type 0} (at next : ℕ) (ks ls : List (Option BadKind)) (x : X) (v : A) (f : X → Result A MetricFault)
    → at + length ks ≡ next → f x ≡ checked next ls v → (checked at ks x >>= f) ≡ checked at (ks ++ ls) v
chained at next [] ls x v f e h = let same : next ≡ at = omega arith in h ∙ ap (λ n. checked n ls v) same
chained at next (None ∷ ks) ls x v f e h = chained (at + 1) next ks ls x v f (omega arith) h
chained at next (Some k ∷ ks) ls x v f e h = refl

-- words that can't be bad are passed over
pub passed : {A : Type 0} (at n next : ℕ) (ls : List (Option BadKind)) (v : A) (given : Result A MetricFault)
    → at + n ≡ next → given ≡ checked next ls v → given ≡ checked at (good n ++ ls) v
passed at zero next ls v given e h = let same : next ≡ at = omega arith in h ∙ ap (λ m. checked m ls v) same
passed at (suc n) next ls v given e h = passed (at + 1) n next ls v given (omega arith) h

pub length-words : (file : List ℕ) (from n : ℕ) → length (words file from n) ≡ n
length-words file from zero = refl
length-words file from (suc n) = ap suc (length-words file (from + 1) n)

pub length-mapped : {A : Type 0} (f : ℕ → A) (file : List ℕ) (from n : ℕ) → length (map f (words file from n)) ≡ n
length-mapped f file from n = rw (length-map, length-words) refl

pub length-table : (ws : List ℕ) → length (table_kinds ws) ≡ length ws
length-table [] = refl
length-table (w ∷ ws) = rw length-map refl

pub length-params : (ws : List ℕ) → length (param_kinds ws) ≡ length ws
length-params [] = refl
length-params (w ∷ ws) = rw length-map refl

pub length-commands : (kind : ℕ → ℕ → Option BadKind) (place : ℕ) (ws : List ℕ) → length (command_kinds kind place ws) ≡ length ws
length-commands kind place [] = refl
length-commands kind place (w ∷ ws) = ap suc (length-commands kind (place + 1) ws)

pub length-append : (a b : List (Option BadKind)) → length (a ++ b) ≡ length a + length b
length-append [] b = omega arith
length-append (k ∷ a) b = omega (arith, length-append a b)

-- where a table's part ends
after_table : (file : List ℕ) (from n next : ℕ) → from + n ≡ next → from + length (table_kinds (words file from n)) ≡ next
after_table file from n next e = omega (arith, length-table (words file from n), length-words file from n)

after_mapped : (kind : ℕ → Option BadKind) (file : List ℕ) (from n next : ℕ) → from + n ≡ next → from + length (map kind (words file from n)) ≡ next
after_mapped kind file from n next e = omega (arith, length-mapped kind file from n)

pub characters_chained : (file : List ℕ) (l : Lengths) → characters_in_parts file l ≡ characters_in file l
unfolding character_kinds characters_of
characters_chained file l =
    chained (char_info_start l) (width_start l) _ _ _ _ _ (after_mapped (info_kind l) file (char_info_start l) _ _ refl)
    (chained (width_start l) (height_start l) _ _ _ _ _ (after_table file (width_start l) _ _ refl)
    (chained (height_start l) (depth_start l) _ _ _ _ _ (after_table file (height_start l) _ _ refl)
    (chained (depth_start l) (italic_start l) _ _ _ _ _ (after_table file (depth_start l) _ _ refl)
    (chained (italic_start l) (program_start l) _ _ _ _ _ (after_table file (italic_start l) _ _ refl) refl))))

-- how many words say something of characters
pub length-characters : (file : List ℕ) (l : Lengths) → char_info_start l + length (character_kinds file l) ≡ program_start l
unfolding character_kinds
length-characters file l =
    let a = map (info_kind l) (info_words file l) in
    let b = table_kinds (width_words file l) in
    let c = table_kinds (height_words file l) in
    let d = table_kinds (depth_words file l) in
    let e = table_kinds (italic_words file l) in
    omega (
      arith,
      length-append a (b ++ (c ++ (d ++ (e ++ [])))),
      length-append b (c ++ (d ++ (e ++ []))),
      length-append c (d ++ (e ++ [])),
      length-append d (e ++ []),
      length-append e [],
      after_mapped (info_kind l) file (char_info_start l) _ (width_start l) refl,
      after_table file (width_start l) _ (height_start l) refl,
      after_table file (height_start l) _ (depth_start l) refl,
      after_table file (depth_start l) _ (italic_start l) refl,
      after_table file (italic_start l) _ (program_start l) refl,
    )
