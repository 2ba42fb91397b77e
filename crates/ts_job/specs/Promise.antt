-- What a job promises: its outcome, the pages that it writes, its report, and what stands after it.
use Rattle.std.specs.Prelude.{◌≡◌, ℕ, List, [], ◌∷◌, length, Option, Some, None, Result, Ok, Err, ◌⊎◌, if◌then◌else◌}
use Rattle.std.specs.declared.vec.Vec.{Vec}
use Rattle.std.specs.declared.alloc.Global.{Global}
use Rattle.ts_geometry.specs.declared.measure.Sp.{Sp}
use Rattle.ts_geometry.specs.declared.fault.MetricFault.{MetricFault}
use Rattle.ts_base.specs.Agreement.{Rose, AgreesFault}
use Rattle.ts_outside.specs.States.{Held}
use Rattle.ts_outside.specs.Reading.{bytes_of}
use Rattle.ts_outside.specs.Gaining.{Gained, GainedPrefix}
use Rattle.ts_outside.specs.Endings.{with_ending, metric_ending}
use Rattle.jfm_load.specs.Metrics.{Metric, metric_of, measures_of}
use Rattle.jfm_load.specs.CharTypes.{class_in, is_jis}
use Rattle.dvi_code.specs.declared.page.DviPage.{DviPage}
use Rattle.dvi_code.specs.Pages.{Widths, file_pages}
use Rattle.ts_job.specs.declared.stop.Stop.{Stop}
use Rattle.ts_job.specs.declared.stop.Stop.TheVariants as stops
use Rattle.ts_job.specs.declared.ending.Ending.{Ending}
use Rattle.ts_job.specs.declared.ending.Ending.TheVariants as endings
use Rattle.ts_job.specs.declared.outcome.Outcome.{Outcome}
use Rattle.ts_job.specs.declared.outcome.Outcome.TheVariants as outcomes
use Rattle.ts_job.specs.Words.{Request, asked}
use Rattle.ts_job.specs.Meaning.{typeset, stop_cause, may_be_jfm}
use Rattle.ts_job.specs.Texts.{report_of}

-- ---- the widths that DVI is read with

abbrev pub width_in : ℕ → ℕ → Result Metric MetricFault → Option Sp
width_in size code (Err fault) = None
width_in size code (Ok metric) = if is_jis code then Some (measures_of metric (class_in metric.char_types code) size).wd else None

abbrev pub width_by : ℕ → ℕ → Option (List ℕ) → Option Sp
width_by size code None = None
width_by size code (Some bytes) = if may_be_jfm bytes then width_in size code (metric_of bytes) else None

-- the width of a character of a font, by the metric of its name among the files that are held
abbrev pub held_widths : List Held → Widths
held_widths files font code = width_by font.size code (bytes_of files (with_ending metric_ending font.name))

-- ---- a source that is set

-- The bytes are read as the page that the source means; or it stops as it is meant to, but for counted faults and want of memory.
abbrev pub Sets : List Held → Result (Vec ℕ Global) Stop → Result DviPage Stop → Type 0
Sets files (Ok dvi) given = (page : DviPage) × (given ≡ Ok page) × (file_pages (held_widths files) dvi.items ≡ Ok (page ∷ []))
Sets files (Err stop) given = AgreesFault (stop_cause stop) stop given

-- ---- what the words and the files determine

abbrev pub outcome_of : List ℕ → Result DviPage Stop → Outcome
outcome_of main (Ok page) = outcomes.Done
outcome_of main (Err (stops.Fault kind line)) = outcomes.SourceFault (record { kind = kind; place = record { file = main; line = line } })
outcome_of main (Err stops.ReadFault) = outcomes.ReadFault
outcome_of main (Err stops.NoMemory) = outcomes.NoMemory

abbrev pub outcome_asked : List Held → Option Request → Outcome
outcome_asked files None = outcomes.Usage
outcome_asked files (Some request) = outcome_of request.main (typeset files request)

-- the outcome that the source and the words mean
unfoldable pub outcome_meant : List Held → List (List ℕ) → Outcome
outcome_meant files words = outcome_asked files (asked words)

abbrev pub pages_of : Result DviPage Stop → List DviPage
pages_of (Ok page) = page ∷ []
pages_of (Err stop) = []

abbrev pub pages_asked : List Held → Option Request → List DviPage
pages_asked files None = []
pages_asked files (Some request) = pages_of (typeset files request)

-- the pages that the source means
unfoldable pub pages_meant : List Held → List (List ℕ) → List DviPage
pages_meant files words = pages_asked files (asked words)

-- the text that a job means to report
abbrev pub report_meant : List Held → List (List ℕ) → List ℕ
report_meant files words = report_of (length (pages_meant files words)) (outcome_meant files words)

-- ---- the endings of a source, before anything is put

abbrev pub outcome_ended : Ending → Outcome
outcome_ended (endings.Page dvi) = outcomes.Done
outcome_ended (endings.Fault fault) = outcomes.SourceFault fault
outcome_ended endings.Usage = outcomes.Usage
outcome_ended endings.ReadFault = outcomes.ReadFault
outcome_ended endings.NoMemory = outcomes.NoMemory

-- These bytes are the DVI file of these pages, or none where there is no page.
abbrev pub IsDvi : Widths → List DviPage → List ℕ → Type 0
IsDvi widths [] bytes = bytes ≡ []
IsDvi widths (page ∷ pages) bytes = file_pages widths bytes ≡ Ok (page ∷ pages)

-- An ending is the outcome that is meant, with the file of the pages that are meant.
abbrev pub IsEnding : Widths → List DviPage → Outcome → Ending → Type 0
IsEnding widths pages meant (endings.Page dvi) = (meant ≡ outcomes.Done) × (length pages ≡ 1) × IsDvi widths pages dvi.items
IsEnding widths pages meant (endings.Fault fault) = (meant ≡ outcomes.SourceFault fault) × IsDvi widths pages []
IsEnding widths pages meant endings.Usage = meant ≡ outcomes.Usage
IsEnding widths pages meant endings.ReadFault = Unit {0}
IsEnding widths pages meant endings.NoMemory = Unit {0}

-- ---- the promises

-- A job ends as it is meant to, but for counted faults and want of memory.
abbrev pub EndsAs : Outcome → Outcome → Type 0
EndsAs outcomes.Done meant = meant ≡ outcomes.Done
EndsAs (outcomes.SourceFault fault) meant = meant ≡ outcomes.SourceFault fault
EndsAs outcomes.Usage meant = meant ≡ outcomes.Usage
EndsAs outcomes.ReadFault meant = Unit {0}
EndsAs outcomes.SinkFault meant = Unit {0}
EndsAs outcomes.NoMemory meant = Unit {0}

-- Usage comes exactly where the words are refused.
abbrev pub RefusesWords : Outcome → Option Request → Type 0
RefusesWords outcomes.Usage request = request ≡ None
RefusesWords outcomes.SinkFault request = Unit {0}
RefusesWords outcomes.NoMemory request = Unit {0}
RefusesWords outcomes.Done None = ⊥
RefusesWords (outcomes.SourceFault fault) None = ⊥
RefusesWords outcomes.ReadFault None = ⊥
RefusesWords outcomes.Done (Some request) = Unit {0}
RefusesWords (outcomes.SourceFault fault) (Some request) = Unit {0}
RefusesWords outcomes.ReadFault (Some request) = Unit {0}

-- The sink gains the DVI file of the pages; where a put fails or memory runs out, a prefix of it, or nothing.
abbrev pub Writes : Outcome → Widths → List DviPage → Option (List ℕ) → Option (List ℕ) → Type 0
Writes outcomes.Done widths pages old new = (dvi : List ℕ) × IsDvi widths pages dvi × Gained old new dvi
Writes (outcomes.SourceFault fault) widths pages old new = (dvi : List ℕ) × IsDvi widths pages dvi × Gained old new dvi
Writes outcomes.Usage widths pages old new = new ≡ old
Writes outcomes.ReadFault widths pages old new = new ≡ old
Writes outcomes.SinkFault widths pages old new = (new ≡ old) ⊎ ((dvi : List ℕ) × IsDvi widths pages dvi × GainedPrefix old new dvi)
Writes outcomes.NoMemory widths pages old new = (new ≡ old) ⊎ ((dvi : List ℕ) × IsDvi widths pages dvi × GainedPrefix old new dvi)

-- Nothing is put after a refusal of the words, a fault of the source or a failed read.
abbrev pub PutsNothing : Outcome → Option (List ℕ) → Option (List ℕ) → Type 0
PutsNothing outcomes.Done old new = Unit {0}
PutsNothing (outcomes.SourceFault fault) old new = new ≡ old
PutsNothing outcomes.Usage old new = new ≡ old
PutsNothing outcomes.ReadFault old new = new ≡ old
PutsNothing outcomes.SinkFault old new = Unit {0}
PutsNothing outcomes.NoMemory old new = Unit {0}

-- The report gains the text; where a put fails or memory runs out, a prefix of it; and nothing after a failed read.
abbrev pub Reports : Outcome → List ℕ → Option (List ℕ) → Option (List ℕ) → Type 0
Reports outcomes.Done text old new = Gained old new text
Reports (outcomes.SourceFault fault) text old new = Gained old new text
Reports outcomes.Usage text old new = Gained old new text
Reports outcomes.ReadFault text old new = new ≡ old
Reports outcomes.SinkFault text old new = GainedPrefix old new text
Reports outcomes.NoMemory text old new = GainedPrefix old new text

-- The count of the files rises where a read failed, and at no other answer.
abbrev pub CountsFiles : Outcome → ℕ → ℕ → Type 0
CountsFiles outcomes.ReadFault old new = Rose old new
CountsFiles outcomes.NoMemory old new = new ≡ old
CountsFiles outcomes.Done old new = new ≡ old
CountsFiles (outcomes.SourceFault fault) old new = new ≡ old
CountsFiles outcomes.Usage old new = new ≡ old
CountsFiles outcomes.SinkFault old new = new ≡ old

-- The count of one of the two sinks rises where a put failed, and no count else.
abbrev pub CountsSinks : Outcome → ℕ → ℕ → ℕ → ℕ → Type 0
CountsSinks outcomes.SinkFault out_old out_new report_old report_new = (Rose out_old out_new × (report_new ≡ report_old)) ⊎ ((out_new ≡ out_old) × Rose report_old report_new)
CountsSinks outcomes.NoMemory out_old out_new report_old report_new = (out_new ≡ out_old) × (report_new ≡ report_old)
CountsSinks outcomes.Done out_old out_new report_old report_new = (out_new ≡ out_old) × (report_new ≡ report_old)
CountsSinks (outcomes.SourceFault fault) out_old out_new report_old report_new = (out_new ≡ out_old) × (report_new ≡ report_old)
CountsSinks outcomes.Usage out_old out_new report_old report_new = (out_new ≡ out_old) × (report_new ≡ report_old)
CountsSinks outcomes.ReadFault out_old out_new report_old report_new = (out_new ≡ out_old) × (report_new ≡ report_old)

-- Done, or want of memory.
abbrev pub IsComplete : Outcome → Type 0
IsComplete outcomes.Done = Unit {0}
IsComplete outcomes.NoMemory = Unit {0}
IsComplete _ = ⊥
