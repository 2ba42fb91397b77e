-- How a source that is set ends, and what is put then.
use Rattle.std.specs.Prelude.{◌≡◌, ℕ, Bool, true, false, List, length, Option}
use Rattle.shipping.specs.declared.fault.ShipFault.{ShipFault}
use Rattle.shipping.specs.declared.fault.ShipFault.TheVariants as faults
use Rattle.shipping.specs.Standing.{PutsFile, PutsPartly}
use Rattle.main_control.specs.declared.ending.Ending.{Ending}
use Rattle.main_control.specs.declared.ending.Ending.TheVariants as endings
use Rattle.main_control.specs.Worlds.{Stopped}
use Rattle.source_job.specs.Pages.{PutsPages}

-- an ending that the source means
abbrev pub is_meant : Ending → Bool
is_meant endings.Ended = true
is_meant (endings.Fault f) = true
is_meant (endings.Budget p) = true
is_meant endings.ReadFault = false
is_meant endings.SinkFault = false
is_meant endings.NoMemory = false

-- how a run ends where the end of the file isn't put
abbrev pub unfinished_as : ShipFault → Ending
unfinished_as faults.PagesFull = endings.NoMemory
unfinished_as faults.JobTooLarge = endings.NoMemory
unfinished_as faults.PlaceRange = endings.NoMemory
unfinished_as faults.SinkFault = endings.SinkFault
unfinished_as faults.NoMemory = endings.NoMemory

-- The ending is the source's, and the file of all of its boxes is put; or the whole pages that are put are the first of
-- theirs, after a failed read without anything else.
abbrev pub Sets : Ending → Stopped → Option (List ℕ) → Option (List ℕ) → Type 0
Sets endings.Ended m before after = (m.ending ≡ endings.Ended) × PutsFile before after m.boxes
Sets (endings.Fault f) m before after = (m.ending ≡ endings.Fault f) × PutsFile before after m.boxes
Sets (endings.Budget p) m before after = (m.ending ≡ endings.Budget p) × PutsFile before after m.boxes
Sets endings.ReadFault m before after = PutsPages before after m.boxes × PutsPartly before after m.boxes
Sets endings.SinkFault m before after = PutsPartly before after m.boxes
Sets endings.NoMemory m before after = PutsPartly before after m.boxes

-- so many boxes are shipped
abbrev pub HasPages : Ending → ℕ → Stopped → Type 0
HasPages endings.Ended n m = n ≡ length m.boxes
HasPages (endings.Fault f) n m = Unit {0}
HasPages (endings.Budget p) n m = Unit {0}
HasPages endings.ReadFault n m = Unit {0}
HasPages endings.SinkFault n m = Unit {0}
HasPages endings.NoMemory n m = Unit {0}
