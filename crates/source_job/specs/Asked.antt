-- What the code keeps of the words.
use Rattle.std.specs.Prelude.{Option}
use Rattle.source_job.specs.declared.words.Options.{Options as KeptOptions}
use Rattle.source_job.specs.declared.words.Request.{Request as Kept}
use Rattle.source_job.specs.Words.{Options, Request}

abbrev pub options_seen : KeptOptions → Options
options_seen kept = record { coding = kept.coding; budget = kept.budget }

abbrev pub request_seen : Kept → Request
request_seen kept = record { main = kept.main; coding = kept.options.coding; budget = kept.options.budget }
