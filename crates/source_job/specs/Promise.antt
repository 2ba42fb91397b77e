-- What a job promises: its outcome, the pages that it puts, its report, and what stands after it.
use Rattle.std.specs.Prelude.{◌≡◌, ℕ, List, [], length, Bool, true, false, Option, Some, None, IsSome, ◌⊎◌}
use Rattle.ts_base.specs.Agreement.{Rose}
use Rattle.ts_outside.specs.States.{Held}
use Rattle.ts_outside.specs.Gaining.{Gained, GainedPrefix}
use Rattle.dvi_writer.specs.Reading.{Asked}
use Rattle.shipping.specs.Standing.{PutsFile, PutsPartly}
use Rattle.main_control.specs.declared.ending.Ending.{Ending}
use Rattle.main_control.specs.declared.ending.Ending.TheVariants as endings
use Rattle.main_control.specs.Worlds.{Stopped, stopped}
use Rattle.main_control.specs.Run.{meaning}
use Rattle.source_job.specs.declared.outcome.Outcome.{Outcome}
use Rattle.source_job.specs.declared.outcome.Outcome.TheVariants as outcomes
use Rattle.source_job.specs.Words.{Request, asked}
use Rattle.source_job.specs.Texts.{report_of}
use Rattle.source_job.specs.Pages.{PutsPages}

-- ---- what the words and the files determine

-- the outcome of a run that ends so
abbrev pub outcome_of : Ending → Outcome
outcome_of endings.Ended = outcomes.Done
outcome_of (endings.Fault fault) = outcomes.SourceFault fault
outcome_of (endings.Budget place) = outcomes.Budget place
outcome_of endings.ReadFault = outcomes.ReadFault
outcome_of endings.SinkFault = outcomes.SinkFault
outcome_of endings.NoMemory = outcomes.NoMemory

-- what the source means that is asked for
abbrev pub request_meaning : List Held → Request → Stopped
request_meaning files request = meaning files request.coding request.budget request.main

abbrev pub outcome_asked : List Held → Option Request → Outcome
outcome_asked files None = outcomes.Usage
outcome_asked files (Some request) = outcome_of (request_meaning files request).ending

-- the outcome that the source and the words mean
unfoldable pub outcome_meant : List Held → List (List ℕ) → Outcome
outcome_meant files words = outcome_asked files (asked words)

abbrev pub boxes_asked : List Held → Option Request → List Asked
boxes_asked files None = []
boxes_asked files (Some request) = (request_meaning files request).boxes

-- the boxes that the source ships
unfoldable pub boxes_meant : List Held → List (List ℕ) → List Asked
boxes_meant files words = boxes_asked files (asked words)

-- the text that a job means to report
abbrev pub report_meant : List Held → List (List ℕ) → List ℕ
report_meant files words = report_of (length (boxes_meant files words)) (outcome_meant files words)

-- ---- the promises

-- an outcome that is reported
abbrev pub is_told : Outcome → Bool
is_told outcomes.Done = true
is_told (outcomes.SourceFault fault) = true
is_told (outcomes.Budget place) = true
is_told outcomes.Usage = true
is_told outcomes.ReadFault = false
is_told outcomes.SinkFault = false
is_told outcomes.NoMemory = false

-- A job ends as it is meant to, but for counted faults and want of memory.
abbrev pub EndsAs : Outcome → Outcome → Type 0
EndsAs outcomes.Done meant = meant ≡ outcomes.Done
EndsAs (outcomes.SourceFault fault) meant = meant ≡ outcomes.SourceFault fault
EndsAs (outcomes.Budget place) meant = meant ≡ outcomes.Budget place
EndsAs outcomes.Usage meant = meant ≡ outcomes.Usage
EndsAs outcomes.ReadFault meant = Unit {0}
EndsAs outcomes.SinkFault meant = Unit {0}
EndsAs outcomes.NoMemory meant = Unit {0}

-- Usage comes exactly where the words are refused.
abbrev pub RefusesWords : Outcome → Option Request → Type 0
RefusesWords outcomes.Usage request = request ≡ None
RefusesWords outcomes.SinkFault request = Unit {0}
RefusesWords outcomes.NoMemory request = Unit {0}
RefusesWords outcomes.Done request = IsSome request
RefusesWords (outcomes.SourceFault fault) request = IsSome request
RefusesWords (outcomes.Budget place) request = IsSome request
RefusesWords outcomes.ReadFault request = IsSome request

-- The sink gains the DVI file of the boxes; after a failed read pages alone, of the first of them; and where a put fails or
-- memory runs out, bytes whose whole pages are the first of theirs.
abbrev pub Writes : Outcome → List Asked → Option (List ℕ) → Option (List ℕ) → Type 0
Writes outcomes.Done boxes old new = PutsFile old new boxes
Writes (outcomes.SourceFault fault) boxes old new = PutsFile old new boxes
Writes (outcomes.Budget place) boxes old new = PutsFile old new boxes
Writes outcomes.Usage boxes old new = new ≡ old
Writes outcomes.ReadFault boxes old new = PutsPages old new boxes × PutsPartly old new boxes
Writes outcomes.SinkFault boxes old new = PutsPartly old new boxes
Writes outcomes.NoMemory boxes old new = PutsPartly old new boxes

-- A sink gains bytes, and none where the words are refused.
abbrev pub GainsSome : Option (List ℕ) → Option (List ℕ) → Type 0
GainsSome old new = (bytes : List ℕ) × Gained old new bytes

abbrev pub Appends : Outcome → Option (List ℕ) → Option (List ℕ) → Type 0
Appends outcomes.Usage old new = new ≡ old
Appends outcomes.Done old new = GainsSome old new
Appends (outcomes.SourceFault fault) old new = GainsSome old new
Appends (outcomes.Budget place) old new = GainsSome old new
Appends outcomes.ReadFault old new = GainsSome old new
Appends outcomes.SinkFault old new = GainsSome old new
Appends outcomes.NoMemory old new = GainsSome old new

-- The report gains the text; where a put fails or memory runs out, a prefix of it; and nothing after a failed read.
abbrev pub Reports : Outcome → List ℕ → Option (List ℕ) → Option (List ℕ) → Type 0
Reports outcomes.Done text old new = Gained old new text
Reports (outcomes.SourceFault fault) text old new = Gained old new text
Reports (outcomes.Budget place) text old new = Gained old new text
Reports outcomes.Usage text old new = Gained old new text
Reports outcomes.ReadFault text old new = new ≡ old
Reports outcomes.SinkFault text old new = GainedPrefix old new text
Reports outcomes.NoMemory text old new = GainedPrefix old new text

-- The text is that of the outcome, whether or not the files tell which pages there are; where a put fails or memory runs out,
-- a prefix of some outcome's.
abbrev pub ReportsItself : Outcome → Option (List ℕ) → Option (List ℕ) → Type 0
ReportsItself outcomes.Done old new = (pages : ℕ) × Gained old new (report_of pages outcomes.Done)
ReportsItself (outcomes.SourceFault fault) old new = Gained old new (report_of 0 (outcomes.SourceFault fault))
ReportsItself (outcomes.Budget place) old new = Gained old new (report_of 0 (outcomes.Budget place))
ReportsItself outcomes.Usage old new = Gained old new (report_of 0 outcomes.Usage)
ReportsItself outcomes.ReadFault old new = new ≡ old
ReportsItself outcomes.SinkFault old new = (pages : ℕ) × (other : Outcome) × GainedPrefix old new (report_of pages other)
ReportsItself outcomes.NoMemory old new = (pages : ℕ) × (other : Outcome) × GainedPrefix old new (report_of pages other)

-- so many pages are reported
abbrev pub TellsPages : Outcome → ℕ → List Asked → Type 0
TellsPages outcomes.Done n boxes = n ≡ length boxes
TellsPages (outcomes.SourceFault fault) n boxes = Unit {0}
TellsPages (outcomes.Budget place) n boxes = Unit {0}
TellsPages outcomes.Usage n boxes = Unit {0}
TellsPages outcomes.ReadFault n boxes = Unit {0}
TellsPages outcomes.SinkFault n boxes = Unit {0}
TellsPages outcomes.NoMemory n boxes = Unit {0}

-- Where a put fails or memory runs out, the report is as it was, or the file is finished.
abbrev pub ReportsLast : Outcome → Type 0 → Type 0 → Type 0
ReportsLast outcomes.SinkFault as_it_was finished = as_it_was ⊎ finished
ReportsLast outcomes.NoMemory as_it_was finished = as_it_was ⊎ finished
ReportsLast outcomes.Done as_it_was finished = finished
ReportsLast (outcomes.SourceFault fault) as_it_was finished = finished
ReportsLast (outcomes.Budget place) as_it_was finished = finished
ReportsLast outcomes.Usage as_it_was finished = finished
ReportsLast outcomes.ReadFault as_it_was finished = as_it_was

-- The count of the files rises where a read failed, and at no other answer.
abbrev pub CountsFiles : Outcome → ℕ → ℕ → Type 0
CountsFiles outcomes.ReadFault old new = Rose old new
CountsFiles outcomes.NoMemory old new = new ≡ old
CountsFiles outcomes.Done old new = new ≡ old
CountsFiles (outcomes.SourceFault fault) old new = new ≡ old
CountsFiles (outcomes.Budget place) old new = new ≡ old
CountsFiles outcomes.Usage old new = new ≡ old
CountsFiles outcomes.SinkFault old new = new ≡ old

-- The count of the pages' sink rises where a put of theirs failed, and at no other answer.
abbrev pub CountsOut : Outcome → ℕ → ℕ → Type 0
CountsOut outcomes.SinkFault old new = Rose old new
CountsOut outcomes.NoMemory old new = new ≡ old
CountsOut outcomes.Done old new = new ≡ old
CountsOut (outcomes.SourceFault fault) old new = new ≡ old
CountsOut (outcomes.Budget place) old new = new ≡ old
CountsOut outcomes.Usage old new = new ≡ old
CountsOut outcomes.ReadFault old new = new ≡ old

-- The count of one of the two sinks rises where a put failed, and no count else. Where it is that of the pages' sink, the
-- report is as it was.
abbrev pub CountsSinks : Outcome → Type 0 → ℕ → ℕ → ℕ → ℕ → Type 0
CountsSinks outcomes.SinkFault as_it_was out_old out_new report_old report_new = (Rose out_old out_new × as_it_was) ⊎ ((out_new ≡ out_old) × Rose report_old report_new)
CountsSinks outcomes.NoMemory as_it_was out_old out_new report_old report_new = (out_new ≡ out_old) × (report_new ≡ report_old)
CountsSinks outcomes.Done as_it_was out_old out_new report_old report_new = (out_new ≡ out_old) × (report_new ≡ report_old)
CountsSinks (outcomes.SourceFault fault) as_it_was out_old out_new report_old report_new = (out_new ≡ out_old) × (report_new ≡ report_old)
CountsSinks (outcomes.Budget place) as_it_was out_old out_new report_old report_new = (out_new ≡ out_old) × (report_new ≡ report_old)
CountsSinks outcomes.Usage as_it_was out_old out_new report_old report_new = (out_new ≡ out_old) × (report_new ≡ report_old)
CountsSinks outcomes.ReadFault as_it_was out_old out_new report_old report_new = (out_new ≡ out_old) × (report_new ≡ report_old)

-- It ends as it is meant to, or memory ran out.
abbrev pub IsComplete : Outcome → Outcome → Type 0
IsComplete outcome meant = (outcome ≡ meant) ⊎ (outcome ≡ outcomes.NoMemory)
