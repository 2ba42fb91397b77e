-- The parts that are read one after the other give what all words of the file give.
use Rattle.std.proofs.Common.{◌≡◌, ℕ, suc, ◌+◌, ◌-◌, ◌/◌, ◌≤◌, List, [], ◌∷◌, length, map, Ok, arith, refl, ap, sym}
use Rattle.metric_words.specs.declared.lengths.Lengths.{Lengths}
use Rattle.metric_words.specs.Checking.{checked}
use Rattle.metric_words.specs.Lengths.{header_start, char_type_start, char_info_start, program_start, kern_start, glue_start, param_start, file_end}
use Rattle.metric_words.specs.FixWords.{fix_kind, param_kinds, design_kind, design_word}
use Rattle.metric_words.specs.Programs.{command_kinds}
use Rattle.metric_words.proofs.Chain.{chained, passed, length-words, length-mapped, length-params, length-commands, length-characters}
use Rattle.jfm_load.specs.CharTypes.{type_kinds, later_type_kinds, type_words}
use Rattle.jfm_load.specs.Programs.{program_kind, program_words}
use Rattle.jfm_load.specs.Metrics.{metric_of, lengths_in, kinds_of, spelt, kern_words, glue_words, param_words}
use Rattle.jfm_load.specs.Parted.{parts_in, tables_in}

length-later : (ec : ℕ) (ws : List ℕ) (before : ℕ) → length (later_type_kinds before ec ws) ≡ length ws
length-later ec [] before = refl
length-later ec (w ∷ ws) before = ap suc (length-later ec ws _)

pub length-types : (ec : ℕ) (ws : List ℕ) → length (type_kinds ec ws) ≡ length ws
length-types ec [] = refl
length-types ec (w ∷ ws) = ap suc (length-later ec ws 0)

pub parts_chained : (file : List ℕ) (l : Lengths) → 2 ≤ l.lh → parts_in file l ≡ checked 0 (kinds_of file l) (spelt file l)
unfolding parts_in kinds_of spelt
parts_chained file l h =
    let design : header_start l + 1 + length (design_kind (design_word file l) ∷ []) ≡ header_start l + 2 = omega arith in
    let types : char_type_start l + length (type_kinds l.ec (type_words file l)) ≡ char_info_start l =
    omega (arith, length-types l.ec (type_words file l), length-words file (char_type_start l) l.nt) in
    let commands : program_start l + length (command_kinds (program_kind l) 0 (program_words file l)) ≡ kern_start l =
    omega (arith, length-commands (program_kind l) 0 (program_words file l), length-words file (program_start l) l.nl) in
    let kerns : kern_start l + length (map fix_kind (kern_words file l)) ≡ glue_start l = omega (arith, length-mapped fix_kind file (kern_start l) l.nk) in
    let glues : glue_start l + length (map fix_kind (glue_words file l)) ≡ param_start l = omega (arith, length-mapped fix_kind file (glue_start l) l.ng) in
    let params : param_start l + length (param_kinds (param_words file l)) ≡ file_end l =
    omega (arith, length-params (param_words file l), length-words file (param_start l) l.np) in
    passed 0 (header_start l + 1) (header_start l + 1) _ _ _ (omega arith)
    (chained (header_start l + 1) (header_start l + 2) (design_kind (design_word file l) ∷ []) _ (design_word file l / 16) _ (tables_in file l) design
    (passed (header_start l + 2) (l.lh - 2) (char_type_start l) _ _ _ (omega arith)
    (chained (char_type_start l) (char_info_start l) _ _ _ _ _ types
    (chained (char_info_start l) (program_start l) _ _ _ _ _ (length-characters file l)
    (chained (program_start l) (kern_start l) _ _ _ _ _ commands
    (chained (kern_start l) (glue_start l) _ _ _ _ _ kerns
    (chained (glue_start l) (param_start l) _ _ _ _ _ glues
    (chained (param_start l) (file_end l) _ _ _ _ _ params refl))))))))

-- where the lengths are those of the file
pub metric-parts : (file : List ℕ) (l : Lengths) → lengths_in file ≡ Ok l → 2 ≤ l.lh → metric_of file ≡ parts_in file l
unfolding metric_of
metric-parts file l given h = rw given (sym (parts_chained file l h))
