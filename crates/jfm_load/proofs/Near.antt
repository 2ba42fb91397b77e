-- What a metric says is near where its words are.
use Rattle.std.proofs.Common.{◌≡◌, ℕ, ◌+◌, ◌*◌, ℤ, pos, Bool, true, false, List, get_or, Option, Some, None, refl, ◌==◌, ◌&&◌, if◌then◌else◌}
use Rattle.std.specs.List.{list_all}
use Rattle.metric_words.specs.declared.program.Command.{Command}
use Rattle.metric_words.specs.Characters.{character_at, no_character}
use Rattle.metric_words.specs.Programs.{first_for, visited}
use Rattle.metric_words.specs.Sound.{is_fix, has_fix_measures, AreWithin}
use Rattle.metric_words.proofs.Scaling.{measures_within}
use Rattle.metric_words.proofs.SoundParts.{fix_at, passes_at}
use Rattle.jfm_load.specs.declared.programs.Space.{Space}
use Rattle.jfm_load.specs.declared.programs.Space.TheVariants.{Glue, Kern}
use Rattle.jfm_load.specs.Programs.{space_meant, space_after}
use Rattle.jfm_load.specs.Metrics.{Metric, measures_of, between_of}
use Rattle.jfm_load.specs.Sound.{HasFixWords, is_fix_space}

chosen : (b : Bool) (width stretch shrink kern : ℤ) → is_fix width ≡ true → is_fix stretch ≡ true → is_fix shrink ≡ true → is_fix kern ≡ true
    → is_fix_space (if b then Glue width stretch shrink else Kern kern) ≡ true
chosen true width stretch shrink kern w t s k = rw (w, t, s) refl
chosen false width stretch shrink kern w t s k = k

meant : (kerns glues : List ℤ) → list_all is_fix kerns ≡ true → list_all is_fix glues ≡ true → (c : Option Command)
    → is_fix_space (space_meant kerns glues c) ≡ true
meant kerns glues k g (Some c) =
    let n = 3 * c.remainder in
    chosen (c.op == 0) (get_or glues n (pos 0)) (get_or glues (n + 1) (pos 0)) (get_or glues (n + 2) (pos 0)) (get_or kerns c.remainder (pos 0))
    (fix_at glues n g) (fix_at glues (n + 1) g) (fix_at glues (n + 2) g) (fix_at kerns c.remainder k)
meant kerns glues k g None = refl

after : (commands : List Command) (kerns glues : List ℤ) → list_all is_fix kerns ≡ true → list_all is_fix glues ≡ true
    → (start : Option ℕ) (right : ℕ) → is_fix_space (space_after commands kerns glues start right) ≡ true
after commands kerns glues k g (Some start) right = meant kerns glues k g (first_for right (visited start commands))
after commands kerns glues k g None right = refl

pub between_near : (m : Metric) (left right : ℕ) → HasFixWords m → is_fix_space (between_of m left right) ≡ true
between_near m left right h = after m.commands m.kerns m.glues h.kerns h.glues (character_at m.classes left).program right

pub measures_near : (m : Metric) (class z : ℕ) → HasFixWords m → AreWithin (16 * z) (measures_of m class z)
measures_near m class z h =
    measures_within (character_at m.classes class) z (passes_at has_fix_measures m.classes class no_character refl h.classes)
