-- What is put and reported after a source is set.
use Rattle.std.proofs.Common.{◌≡◌, ℕ, List, [], ◌∷◌, ◌++◌, length, map, Bool, true, false, Option, Some, None, Ok, refl, sym, ap, subst, ◌∙◌, append-nil, arith}
use mathlib.Core.Logic.{inl, inr}
use Rattle.ts_base.specs.Agreement.{Rose}
use Rattle.ts_outside.specs.Gaining.{Gained, GainedPrefix}
use Rattle.dvi_structure.specs.Places.{placed}
use Rattle.dvi_structure.specs.Structure.{walk}
use Rattle.dvi_code.specs.Laws.{WholePagesAreFirst}
use Rattle.dvi_code.specs.Pages.{Widths, pages_of, file_pages, whole_pages}
use Rattle.dvi_writer.specs.Reading.{Asked, page_asked}
use Rattle.shipping.specs.Standing.{BeginPages, IsFile, PutsFile, PutsPartly}
use Rattle.source_job.specs.declared.outcome.Outcome.{Outcome}
use Rattle.source_job.specs.declared.outcome.Outcome.TheVariants as outcomes
use Rattle.ts_outside.specs.States.{Held}
use Rattle.source_job.specs.Words.{Request, asked}
use Rattle.source_job.specs.Texts.{report_of}
use Rattle.source_job.specs.Promise.{boxes_asked, boxes_meant, is_told, EndsAs, RefusesWords, Writes, GainsSome, Appends, Reports, ReportsItself, ReportsLast, TellsPages, CountsFiles, CountsOut, CountsSinks, IsComplete}

-- ---- no bytes

gains_nothing : (held : Option (List ℕ)) → Gained held held []
gains_nothing None = refl
gains_nothing (Some held) = ap Some (sym (append-nil held))

pub gains_none : (held : Option (List ℕ)) → GainsSome held held
gains_none held = ([], gains_nothing held)

prefix_none : (held : Option (List ℕ)) (text : List ℕ) → GainedPrefix held held text
prefix_none held text = (0, (omega arith), gains_nothing held)

none_read : (widths : Widths) → whole_pages widths [] ≡ Ok []
unfolding walk placed pages_of
none_read widths = refl

begin_none : (boxes : List Asked) → BeginPages boxes []
begin_none boxes = λ widths given. ([], none_read widths, (map page_asked boxes, refl))

none_after : (before after : Option (List ℕ)) (held : List ℕ) → after ≡ before → before ≡ Some held → after ≡ Some (held ++ [])
none_after before after held same told = same ∙ told ∙ ap Some (sym (append-nil held))

pub puts_none : (before after : Option (List ℕ)) (boxes : List Asked) → after ≡ before → PutsPartly before after boxes
puts_none before after boxes same = λ held told. ([], none_after before after held same told, begin_none boxes)

-- ---- a file begins with its pages

file_begins : (law : WholePagesAreFirst) (boxes : List Asked) (bytes : List ℕ) → IsFile boxes bytes → BeginPages boxes bytes
file_begins law [] bytes is = subst (λ (l : List ℕ). BeginPages [] l) (sym is) (begin_none [])
file_begins law (a ∷ boxes) bytes is = λ widths given.
    let read = law widths bytes [] (map page_asked (a ∷ boxes)) (ap (λ (l : List ℕ). file_pages widths l) (append-nil bytes) ∙ is widths given) in
    (read.0, read.2, (read.1, read.3))

puts_partly : (law : WholePagesAreFirst) (before after : Option (List ℕ)) (boxes : List Asked) → PutsFile before after boxes → PutsPartly before after boxes
puts_partly law before after boxes puts = λ held told.
    let file = puts held told in
    (file.0, file.1, file_begins law boxes file.0 file.2)

-- Where the report fails, what is put stands.
pub writes_part : (law : WholePagesAreFirst) (o : Outcome) (boxes : List Asked) (before after : Option (List ℕ)) → is_told o ≡ true → Writes o boxes before after → PutsPartly before after boxes
writes_part law outcomes.Done boxes before after told writes = puts_partly law before after boxes writes
writes_part law (outcomes.SourceFault f) boxes before after told writes = puts_partly law before after boxes writes
writes_part law (outcomes.Budget p) boxes before after told writes = puts_partly law before after boxes writes
writes_part law outcomes.Usage boxes before after told writes = puts_none before after boxes writes
writes_part law outcomes.ReadFault boxes before after told writes = let never : ⊥ = cc in absurd never
writes_part law outcomes.SinkFault boxes before after told writes = let never : ⊥ = cc in absurd never
writes_part law outcomes.NoMemory boxes before after told writes = let never : ⊥ = cc in absurd never

-- ---- what is put is finished before it is reported

-- Where the words are refused, no box is meant and nothing is put.
pub usage_none : (o : Outcome) (files : List Held) (words : List (List ℕ)) → RefusesWords o (asked words) → o ≡ outcomes.Usage → boxes_meant files words ≡ []
unfolding boxes_meant
usage_none o files words refuses is =
    let none : asked words ≡ None = subst (λ (x : Outcome). RefusesWords x (asked words)) is refuses in
    ap (λ (r : Option Request). boxes_asked files r) none

none_put : (boxes : List Asked) (before after : Option (List ℕ)) → boxes ≡ [] → after ≡ before → PutsFile before after boxes
none_put boxes before after none same = rw none (λ held told. ([], none_after before after held same told, refl))

pub is_finished : (o : Outcome) (boxes : List Asked) (before after : Option (List ℕ)) → is_told o ≡ true → (o ≡ outcomes.Usage → boxes ≡ []) → Writes o boxes before after → PutsFile before after boxes
is_finished outcomes.Done boxes before after told none writes = writes
is_finished (outcomes.SourceFault f) boxes before after told none writes = writes
is_finished (outcomes.Budget p) boxes before after told none writes = writes
is_finished outcomes.Usage boxes before after told none writes = none_put boxes before after (none refl) writes
is_finished outcomes.ReadFault boxes before after told none writes = let never : ⊥ = cc in absurd never
is_finished outcomes.SinkFault boxes before after told none writes = let never : ⊥ = cc in absurd never
is_finished outcomes.NoMemory boxes before after told none writes = let never : ⊥ = cc in absurd never

pub appends_same : (o : Outcome) (before after : Option (List ℕ)) → Appends o before after → GainsSome before after
appends_same outcomes.Done before after gains = gains
appends_same (outcomes.SourceFault f) before after gains = gains
appends_same (outcomes.Budget p) before after gains = gains
appends_same outcomes.Usage before after same = ([], same ∙ gains_nothing before)
appends_same outcomes.ReadFault before after gains = gains
appends_same outcomes.SinkFault before after gains = gains
appends_same outcomes.NoMemory before after gains = gains

-- ---- the text

-- The text that is put is the one that is meant.
pub text_same : (o meant : Outcome) (n : ℕ) (boxes : List Asked) → is_told o ≡ true → EndsAs o meant → TellsPages o n boxes → report_of n o ≡ report_of (length boxes) meant
unfolding report_of
text_same outcomes.Done meant n boxes told ends has = rw (ends, has) refl
text_same (outcomes.SourceFault f) meant n boxes told ends has = rw ends refl
text_same (outcomes.Budget p) meant n boxes told ends has = rw ends refl
text_same outcomes.Usage meant n boxes told ends has = rw ends refl
text_same outcomes.ReadFault meant n boxes told ends has = let never : ⊥ = cc in absurd never
text_same outcomes.SinkFault meant n boxes told ends has = let never : ⊥ = cc in absurd never
text_same outcomes.NoMemory meant n boxes told ends has = let never : ⊥ = cc in absurd never

pub reports_itself : (o : Outcome) (n : ℕ) (before after : Option (List ℕ)) → is_told o ≡ true → Gained before after (report_of n o) → ReportsItself o before after
unfolding report_of
reports_itself outcomes.Done n before after told gained = (n, gained)
reports_itself (outcomes.SourceFault f) n before after told gained = gained
reports_itself (outcomes.Budget p) n before after told gained = gained
reports_itself outcomes.Usage n before after told gained = gained
reports_itself outcomes.ReadFault n before after told gained = let never : ⊥ = cc in absurd never
reports_itself outcomes.SinkFault n before after told gained = let never : ⊥ = cc in absurd never
reports_itself outcomes.NoMemory n before after told gained = let never : ⊥ = cc in absurd never

-- ---- an outcome that isn't reported leaves the report as it was

pub quiet_reports : (o : Outcome) (text : List ℕ) (held : Option (List ℕ)) → is_told o ≡ false → Reports o text held held
quiet_reports outcomes.Done text held quiet = let never : ⊥ = cc in absurd never
quiet_reports (outcomes.SourceFault f) text held quiet = let never : ⊥ = cc in absurd never
quiet_reports (outcomes.Budget p) text held quiet = let never : ⊥ = cc in absurd never
quiet_reports outcomes.Usage text held quiet = let never : ⊥ = cc in absurd never
quiet_reports outcomes.ReadFault text held quiet = refl
quiet_reports outcomes.SinkFault text held quiet = prefix_none held text
quiet_reports outcomes.NoMemory text held quiet = prefix_none held text

pub quiet_itself : (o : Outcome) (held : Option (List ℕ)) → is_told o ≡ false → ReportsItself o held held
quiet_itself outcomes.Done held quiet = let never : ⊥ = cc in absurd never
quiet_itself (outcomes.SourceFault f) held quiet = let never : ⊥ = cc in absurd never
quiet_itself (outcomes.Budget p) held quiet = let never : ⊥ = cc in absurd never
quiet_itself outcomes.Usage held quiet = let never : ⊥ = cc in absurd never
quiet_itself outcomes.ReadFault held quiet = refl
quiet_itself outcomes.SinkFault held quiet = (0, outcomes.NoMemory, prefix_none held (report_of 0 outcomes.NoMemory))
quiet_itself outcomes.NoMemory held quiet = (0, outcomes.NoMemory, prefix_none held (report_of 0 outcomes.NoMemory))

pub quiet_last : (o : Outcome) (same finished : Type 0) → is_told o ≡ false → same → ReportsLast o same finished
quiet_last outcomes.Done same finished quiet is = let never : ⊥ = cc in absurd never
quiet_last (outcomes.SourceFault f) same finished quiet is = let never : ⊥ = cc in absurd never
quiet_last (outcomes.Budget p) same finished quiet is = let never : ⊥ = cc in absurd never
quiet_last outcomes.Usage same finished quiet is = let never : ⊥ = cc in absurd never
quiet_last outcomes.ReadFault same finished quiet is = is
quiet_last outcomes.SinkFault same finished quiet is = inl is
quiet_last outcomes.NoMemory same finished quiet is = inl is

pub quiet_sinks : (o : Outcome) (same : Type 0) (old new report : ℕ) → is_told o ≡ false → same → CountsOut o old new → CountsSinks o same old new report report
quiet_sinks outcomes.Done same old new report quiet is counts = let never : ⊥ = cc in absurd never
quiet_sinks (outcomes.SourceFault f) same old new report quiet is counts = let never : ⊥ = cc in absurd never
quiet_sinks (outcomes.Budget p) same old new report quiet is counts = let never : ⊥ = cc in absurd never
quiet_sinks outcomes.Usage same old new report quiet is counts = let never : ⊥ = cc in absurd never
quiet_sinks outcomes.ReadFault same old new report quiet is counts = (counts, refl)
quiet_sinks outcomes.SinkFault same old new report quiet is counts = inl (counts, is)
quiet_sinks outcomes.NoMemory same old new report quiet is counts = (counts, refl)

-- ---- and one that is reported

pub told_reports : (o : Outcome) (text : List ℕ) (before after : Option (List ℕ)) → is_told o ≡ true → Gained before after text → Reports o text before after
told_reports outcomes.Done text before after told gained = gained
told_reports (outcomes.SourceFault f) text before after told gained = gained
told_reports (outcomes.Budget p) text before after told gained = gained
told_reports outcomes.Usage text before after told gained = gained
told_reports outcomes.ReadFault text before after told gained = let never : ⊥ = cc in absurd never
told_reports outcomes.SinkFault text before after told gained = let never : ⊥ = cc in absurd never
told_reports outcomes.NoMemory text before after told gained = let never : ⊥ = cc in absurd never

pub told_last : (o : Outcome) (same finished : Type 0) → is_told o ≡ true → finished → ReportsLast o same finished
told_last outcomes.Done same finished told is = is
told_last (outcomes.SourceFault f) same finished told is = is
told_last (outcomes.Budget p) same finished told is = is
told_last outcomes.Usage same finished told is = is
told_last outcomes.ReadFault same finished told is = let never : ⊥ = cc in absurd never
told_last outcomes.SinkFault same finished told is = let never : ⊥ = cc in absurd never
told_last outcomes.NoMemory same finished told is = let never : ⊥ = cc in absurd never

pub told_sinks : (o : Outcome) (same : Type 0) (old new report after : ℕ) → is_told o ≡ true → CountsOut o old new → after ≡ report → CountsSinks o same old new report after
told_sinks outcomes.Done same old new report after told counts is = (counts, is)
told_sinks (outcomes.SourceFault f) same old new report after told counts is = (counts, is)
told_sinks (outcomes.Budget p) same old new report after told counts is = (counts, is)
told_sinks outcomes.Usage same old new report after told counts is = (counts, is)
told_sinks outcomes.ReadFault same old new report after told counts is = let never : ⊥ = cc in absurd never
told_sinks outcomes.SinkFault same old new report after told counts is = let never : ⊥ = cc in absurd never
told_sinks outcomes.NoMemory same old new report after told counts is = let never : ⊥ = cc in absurd never

pub told_counts : (o : Outcome) (old new : ℕ) → is_told o ≡ true → CountsOut o old new → new ≡ old
told_counts outcomes.Done old new told counts = counts
told_counts (outcomes.SourceFault f) old new told counts = counts
told_counts (outcomes.Budget p) old new told counts = counts
told_counts outcomes.Usage old new told counts = counts
told_counts outcomes.ReadFault old new told counts = let never : ⊥ = cc in absurd never
told_counts outcomes.SinkFault old new told counts = let never : ⊥ = cc in absurd never
told_counts outcomes.NoMemory old new told counts = let never : ⊥ = cc in absurd never

pub told_files : (o : Outcome) (old new : ℕ) → is_told o ≡ true → CountsFiles o old new → new ≡ old
told_files outcomes.Done old new told counts = counts
told_files (outcomes.SourceFault f) old new told counts = counts
told_files (outcomes.Budget p) old new told counts = counts
told_files outcomes.Usage old new told counts = counts
told_files outcomes.ReadFault old new told counts = let never : ⊥ = cc in absurd never
told_files outcomes.SinkFault old new told counts = let never : ⊥ = cc in absurd never
told_files outcomes.NoMemory old new told counts = let never : ⊥ = cc in absurd never

-- ---- completeness

-- Without a counted fault a job ends as it is meant to, or runs out of memory.
pub complete : (o meant : Outcome) (same : Type 0) (files_old files_new out_old out_new report_old report_new : ℕ) → EndsAs o meant → CountsFiles o files_old files_new → CountsSinks o same out_old out_new report_old report_new
    → (Rose files_old files_new → ⊥) → (Rose out_old out_new → ⊥) → (Rose report_old report_new → ⊥) → IsComplete o meant
complete outcomes.Done meant same fo fn oo on ro rn ends files sinks no_file no_out no_report = inl (sym ends)
complete (outcomes.SourceFault f) meant same fo fn oo on ro rn ends files sinks no_file no_out no_report = inl (sym ends)
complete (outcomes.Budget p) meant same fo fn oo on ro rn ends files sinks no_file no_out no_report = inl (sym ends)
complete outcomes.Usage meant same fo fn oo on ro rn ends files sinks no_file no_out no_report = inl (sym ends)
complete outcomes.ReadFault meant same fo fn oo on ro rn ends files sinks no_file no_out no_report = absurd (no_file files)
complete outcomes.SinkFault meant same fo fn oo on ro rn ends files (inl sink) no_file no_out no_report = absurd (no_out sink.0)
complete outcomes.SinkFault meant same fo fn oo on ro rn ends files (inr sink) no_file no_out no_report = absurd (no_report sink.1)
complete outcomes.NoMemory meant same fo fn oo on ro rn ends files sinks no_file no_out no_report = inr refl
