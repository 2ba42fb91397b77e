-- What an ending gives: the text that is told, and the file that is put.
use Rattle.std.proofs.Common.{◌≡◌, ℕ, List, length, Option, refl, arith}
use Rattle.std.specs.declared.vec.Vec.{Vec}
use Rattle.std.specs.declared.alloc.Global.{Global}
use Rattle.std.proofs.Math.Seq.{take-length}
use Rattle.dvi_code.specs.declared.page.DviPage.{DviPage}
use Rattle.dvi_code.specs.Pages.{Widths}
use Rattle.ts_outside.specs.Gaining.{Gained, GainedPrefix}
use Rattle.ts_job.specs.declared.fault.Fault.{Fault}
use Rattle.ts_job.specs.declared.outcome.Outcome.{Outcome}
use Rattle.ts_job.specs.declared.outcome.Outcome.TheVariants as outcomes
use Rattle.ts_job.specs.declared.ending.Ending.TheVariants as endings
use mathlib.Core.Logic.{inl, inr}
use Rattle.ts_base.specs.Agreement.{Rose}
use Rattle.ts_job.specs.Promise.{IsEnding, EndsAs, CountsFiles, CountsSinks, IsComplete}
use Rattle.ts_job.specs.Texts.{report_of}

pub text_page : (widths : Widths) (pages : List DviPage) {meant : Outcome} (dvi : Vec ℕ Global) → IsEnding widths pages meant (endings.Page dvi) → report_of 1 outcomes.Done ≡ report_of (length pages) meant
text_page widths pages dvi is = rw (is.0, is.1) refl

pub text_fault : (widths : Widths) (pages : List DviPage) {meant : Outcome} {fault : Fault} → IsEnding widths pages meant (endings.Fault fault) → report_of 1 (outcomes.SourceFault fault) ≡ report_of (length pages) meant
unfolding report_of
text_fault widths pages is = rw is.0 refl

pub text_usage : (widths : Widths) (pages : List DviPage) {meant : Outcome} → IsEnding widths pages meant endings.Usage → report_of 1 outcomes.Usage ≡ report_of (length pages) meant
unfolding report_of
text_usage widths pages is = rw is refl

pub whole_prefix : (old : Option (List ℕ)) {new : Option (List ℕ)} (bytes : List ℕ) → Gained old new bytes → GainedPrefix old new bytes
whole_prefix old bytes gained = (length bytes, (omega arith), rw (take-length bytes) gained)

-- a source that ends well is set, where no count rises
pub complete : (o meant : Outcome) (files files' out out' report report' : ℕ) → meant ≡ outcomes.Done → EndsAs o meant → CountsFiles o files files' → CountsSinks o out out' report report'
    → (Rose files files' → ⊥) → (Rose out out' → ⊥) → (Rose report report' → ⊥) → IsComplete o
complete outcomes.Done meant a a' b b' d d' done ends counts sinks f o r = tt
complete (outcomes.SourceFault fault) meant a a' b b' d d' done ends counts sinks f o r = absurd cc
complete outcomes.Usage meant a a' b b' d d' done ends counts sinks f o r = absurd cc
complete outcomes.ReadFault meant a a' b b' d d' done ends counts sinks f o r = absurd (f counts)
complete outcomes.SinkFault meant a a' b b' d d' done ends counts sinks f o r = elim sinks [ inl s ↦ absurd (o s.0) | inr s ↦ absurd (r s.1) ]
complete outcomes.NoMemory meant a a' b b' d d' done ends counts sinks f o r = tt
