-- Skipped text (The TeXbook, chapter 20; TeX: The Program, sections 494, 500, 509 and 510): it ends at the level at which
-- it began.
use Rattle.std.specs.Prelude.{ℕ, ◌+◌, ◌-◌, ◌==◌, if◌then◌else◌, Result, Ok, Err}
use Rattle.ts_base.specs.Agreement.{◌>>=◌}
use Rattle.tok_lists.specs.declared.token.Token.{Token}
use Rattle.env_groups.specs.Environments.{Nest}
use Rattle.mouth.specs.Reading.{Reading, Stop}
use Rattle.raw_texts.specs.declared.fault.MacroFault.{MacroFault}
use Rattle.raw_texts.specs.declared.fault.MacroFault.TheVariants.{ExtraCond}
use Rattle.raw_texts.specs.declared.machine.Progress.{Progress}
use Rattle.raw_texts.specs.declared.machine.Progress.TheVariants.{On, Done}
use Rattle.raw_texts.specs.declared.limb.Limb.{Limb}
use Rattle.raw_texts.specs.declared.limb.Limb.TheVariants as limbs
use Rattle.raw_texts.specs.declared.skipping.Until.{Until}
use Rattle.raw_texts.specs.declared.skipping.Until.TheVariants as until
use Rattle.raw_texts.specs.declared.skipping.Ended.{Ended}
use Rattle.raw_texts.specs.declared.skipping.Ended.TheVariants as ended
use Rattle.raw_texts.specs.declared.skipping.Skipping.{Skipping}
use Rattle.raw_texts.specs.Limbs.{limb_of}
use Rattle.raw_texts.specs.Runs.{run_inside}

abbrev Answer : Type 0
Answer = Result (Progress × Skipping) MacroFault

-- with so many conditionals open in the text
abbrev pub with_level : Skipping → ℕ → Skipping
with_level s level = record { until = s.until; level = level; ended = s.ended }

abbrev pub further : Skipping → ℕ → Answer
further s level = Ok (On, with_level s level)

abbrev pub done : Skipping → Ended → Answer
done s end = Ok (Done, record { until = s.until; level = s.level; ended = end })

-- an \else at the level of the text
abbrev pub at_else : Skipping → Until → Answer
at_else s until.Fi = Ok (On, s)
at_else s until.Else = done s ended.Else
at_else s until.Or = done s ended.Else

-- an \or there
abbrev pub at_or : Skipping → Until → Answer
at_or s until.Fi = Ok (On, s)
at_or s until.Else = Err ExtraCond
at_or s until.Or = done s ended.Or

-- what a token does at the level of the text
abbrev pub at_level : Skipping → Limb → Answer
at_level s limbs.If = further s (s.level + 1)
at_level s limbs.Or = at_or s s.until
at_level s limbs.Else = at_else s s.until
at_level s limbs.Fi = done s ended.Fi
at_level s limbs.Other = Ok (On, s)

-- what it does in a conditional in the text
abbrev pub inside : Skipping → Limb → Answer
inside s limbs.If = further s (s.level + 1)
inside s limbs.Or = Ok (On, s)
inside s limbs.Else = Ok (On, s)
inside s limbs.Fi = further s (s.level - 1)
inside s limbs.Other = Ok (On, s)

abbrev pub skip_limb : Skipping → Limb → Answer
skip_limb s limb = if s.level == 0 then at_level s limb else inside s limb

abbrev pub step : Nest → Skipping → Token → Answer
step nest s token = skip_limb s (limb_of nest token)

-- with what skipped text ends, and what is read after it
unfoldable pub skipped : Nest → Until → Reading → Result (Ended × Reading) (Stop MacroFault)
skipped nest until r =
    run_inside nest step (record { until = until; level = 0; ended = ended.Fi }) r >>= λ p. Ok (p.0.ended, p.1)
