-- The parts that are read one after the other give what all words of the file give.
use Rattle.std.proofs.Common.{◌≡◌, ℕ, false, nat_lt, ◌+◌, ◌-◌, ◌/◌, ◌≤◌, List, [], ◌∷◌, length, map, Ok, arith, refl, sym}
use Rattle.metric_words.specs.declared.lengths.Lengths.{Lengths}
use Rattle.metric_words.specs.Checking.{checked}
use Rattle.metric_words.specs.Lengths.{lengths_at, contradict, header_start, char_info_start, program_start, kern_start, glue_start, param_start, file_end}
use Rattle.metric_words.specs.FixWords.{fix_kind, param_kinds, design_kind, design_word}
use Rattle.metric_words.specs.Programs.{command_kinds}
use Rattle.metric_words.proofs.Chain.{chained, passed, length-words, length-mapped, length-params, length-commands, length-characters}
use Rattle.metric_words.proofs.Same.{not_refused, within_is}
use Rattle.tfm_load.specs.Programs.{program_kind, program_words}
use Rattle.tfm_load.specs.Metrics.{metric_of, lengths_of, lengths_in, kinds_of, spelt, kern_words, param_words}
use Rattle.tfm_load.specs.Parted.{parts_in, tables_in}

-- the lengths that lengths_in gives
pub lengths_are : (file : List ℕ) (l : Lengths) → lengths_in file ≡ Ok l → (contradict l ≡ false) × (l ≡ lengths_of file)
unfolding lengths_in
lengths_are file l h =
    let all = not_refused (nat_lt (length file) 24) _ _ l h in
    let given = within_is file (lengths_of file) l false all.1 in
    (rw given.2 given.0, given.2)

no_types : (file : List ℕ) → (lengths_of file).nt ≡ 0
unfolding lengths_of lengths_at
no_types file = refl

pub parts_chained : (file : List ℕ) (l : Lengths) → 2 ≤ l.lh → l.nt ≡ 0 → parts_in file l ≡ checked 0 (kinds_of file l) (spelt file l)
unfolding parts_in kinds_of spelt
parts_chained file l h none =
    let design : header_start l + 1 + length (design_kind (design_word file l) ∷ []) ≡ header_start l + 2 = omega arith in
    let commands : program_start l + length (command_kinds (program_kind file l) 0 (program_words file l)) ≡ kern_start l =
    omega (arith, length-commands (program_kind file l) 0 (program_words file l), length-words file (program_start l) l.nl) in
    let kerns : kern_start l + length (map fix_kind (kern_words file l)) ≡ glue_start l = omega (arith, length-mapped fix_kind file (kern_start l) l.nk) in
    let params : param_start l + length (param_kinds (param_words file l)) ≡ file_end l =
    omega (arith, length-params (param_words file l), length-words file (param_start l) l.np) in
    passed 0 (header_start l + 1) (header_start l + 1) _ _ _ (omega arith)
    (chained (header_start l + 1) (header_start l + 2) (design_kind (design_word file l) ∷ []) _ (design_word file l / 16) _ (tables_in file l) design
    (passed (header_start l + 2) (l.lh - 2) (char_info_start l) _ _ _ (omega arith)
    (chained (char_info_start l) (program_start l) _ _ _ _ _ (length-characters file l)
    (chained (program_start l) (kern_start l) _ _ _ _ _ commands
    (chained (kern_start l) (glue_start l) _ _ _ _ _ kerns
    (passed (glue_start l) l.ng (param_start l) _ _ _ refl
    (chained (param_start l) (file_end l) _ _ _ _ _ params refl)))))))

-- where the lengths are those of the file
pub metric-parts : (file : List ℕ) (l : Lengths) → lengths_in file ≡ Ok l → 2 ≤ l.lh → metric_of file ≡ parts_in file l
unfolding metric_of
metric-parts file l given h =
    let none : l.nt ≡ 0 = rw (lengths_are file l given).1 (no_types file) in
    rw given (sym (parts_chained file l h none))
