-- What a metric says is near where its words are.
use Rattle.std.proofs.Common.{◌≡◌, ℕ, ◌*◌, ℤ, pos, Bool, true, false, List, length, get_or, Option, Some, None, refl, if◌then◌else◌}
use Rattle.std.specs.Prelude.{IfSome, nat_le}
use Rattle.std.specs.List.{list_all}
use Rattle.ts_geometry.specs.declared.measure.Measures.{Measures}
use Rattle.metric_words.specs.declared.program.Command.{Command}
use Rattle.metric_words.specs.Characters.{Character, character_at, measures_at, no_character}
use Rattle.metric_words.specs.Programs.{first_for, visited}
use Rattle.metric_words.specs.Sound.{is_fix, has_fix_measures, AreWithin}
use Rattle.metric_words.proofs.Scaling.{measures_within}
use Rattle.metric_words.proofs.SoundParts.{fix_at, passes_at}
use Rattle.tfm_load.specs.declared.programs.Step.{Step}
use Rattle.tfm_load.specs.declared.programs.Step.TheVariants.{Kern, Ligature}
use Rattle.tfm_load.specs.Programs.{kern_number, start_of, step_meant, step_after}
use Rattle.tfm_load.specs.Metrics.{Metric, has_character, character_of, measures_of, pair_of, program_of}
use Rattle.tfm_load.specs.Sound.{HasFixWords, is_fix_step}

chosen : (b : Bool) (w : ℤ) (code : ℕ) → is_fix w ≡ true → is_fix_step (if b then Kern w else Ligature code) ≡ true
chosen true w code h = h
chosen false w code h = refl

meant : (kerns : List ℤ) → list_all is_fix kerns ≡ true → (c : Option Command) → is_fix_step (step_meant kerns c) ≡ true
meant kerns k (Some c) = chosen (nat_le 128 c.op) (get_or kerns (kern_number c) (pos 0)) c.remainder (fix_at kerns (kern_number c) k)
meant kerns k None = refl

after : (commands : List Command) (kerns : List ℤ) → list_all is_fix kerns ≡ true → (first : Option ℕ) (right : ℕ)
    → is_fix_step (step_after commands kerns first right) ≡ true
after commands kerns k (Some first) right = meant kerns k (first_for right (visited (start_of commands first) commands))
after commands kerns k None right = refl

pub pair_near : (m : Metric) (left right : ℕ) → HasFixWords m → is_fix_step (pair_of m left right) ≡ true
pair_near m left right h = after m.commands m.kerns h.kerns (program_of m left) right

there : (b : Bool) (most : ℕ) (s : Measures) → AreWithin most s → IfSome (if b then Some s else None) (AreWithin most)
there true most s h = h
there false most s h = tt

pub measures_near : (m : Metric) (code z : ℕ) → HasFixWords m → IfSome (measures_of m code z) (AreWithin (16 * z))
measures_near m code z h =
    there (has_character m code) (16 * z) (measures_at (character_of m code) z)
    (measures_within (character_of m code) z (passes_at has_fix_measures m.characters _ no_character refl h.characters))
