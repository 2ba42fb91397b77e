-- The exit status of each outcome.
use Rattle.std.specs.Prelude.{ℕ}
use Rattle.source_job.specs.declared.outcome.Outcome.{Outcome}
use Rattle.source_job.specs.declared.outcome.Outcome.TheVariants as outcomes

abbrev pub status_of : Outcome → ℕ
status_of outcomes.Done = 0
status_of (outcomes.SourceFault fault) = 1
status_of outcomes.Usage = 2
status_of outcomes.ReadFault = 3
status_of outcomes.SinkFault = 4
status_of outcomes.NoMemory = 5
status_of (outcomes.Budget place) = 6
