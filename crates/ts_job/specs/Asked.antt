-- What the code keeps of the words.
use Rattle.ts_job.specs.declared.words.Request.{Request as Kept}
use Rattle.ts_job.specs.Words.{Request}

abbrev pub request : Kept → Request
request asked = record { main = asked.main; coding = asked.coding }
