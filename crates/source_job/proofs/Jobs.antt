-- The pages of a whole run, and its outcome.
use Rattle.std.proofs.Common.{◌≡◌, ℕ, List, [], Bool, true, false, Option, Some, refl, ap}
use Rattle.ts_base.specs.Agreement.{CountsFault}
use Rattle.dvi_writer.specs.Reading.{Asked}
use Rattle.shipping.specs.declared.fault.ShipFault.{ShipFault}
use Rattle.shipping.specs.declared.fault.ShipFault.TheVariants as faults
use Rattle.shipping.specs.Boxes.{BeginsWith}
use Rattle.shipping.specs.Standing.{PutsFile, PutsPartly}
use Rattle.main_control.specs.declared.ending.Ending.{Ending}
use Rattle.main_control.specs.declared.ending.Ending.TheVariants as endings
use Rattle.main_control.specs.Endings.{ending_read, ending_shipped}
use Rattle.main_control.specs.Worlds.{Stopped}
use Rattle.main_control.specs.Standing.{BreaksAt, Runs}
use Rattle.source_job.specs.Words.{Request}
use Rattle.source_job.specs.Pages.{PutsPages}
use Rattle.source_job.specs.Sets.{is_meant, unfinished_as, Sets, HasPages}
use Rattle.source_job.specs.Promise.{outcome_of, EndsAs, RefusesWords, Writes, GainsSome, Appends, TellsPages, CountsFiles, CountsOut}

-- A run that isn't cut short leaves its shipper whole.
pub meant_whole : (e : Ending) (old new : Bool) → is_meant e ≡ true → BreaksAt e old new → old ≡ false → new ≡ false
meant_whole endings.Ended old new meant breaks whole = breaks whole
meant_whole (endings.Fault f) old new meant breaks whole = breaks whole
meant_whole (endings.Budget p) old new meant breaks whole = breaks whole
meant_whole endings.ReadFault old new meant breaks whole = let never : ⊥ = cc in absurd never
meant_whole endings.SinkFault old new meant breaks whole = let never : ⊥ = cc in absurd never
meant_whole endings.NoMemory old new meant breaks whole = let never : ⊥ = cc in absurd never

module _ (stands : List Asked → Type 0) (m : Stopped) (before after : Option (List ℕ)) where
  pub set_whole : (e : Ending) → is_meant e ≡ true → Runs stands [] e m → ((boxes : List Asked) → stands boxes → PutsFile before after boxes) → Sets e m before after
  set_whole endings.Ended meant runs puts = (runs.0, puts m.boxes runs.1)
  set_whole (endings.Fault f) meant runs puts = (runs.0, puts m.boxes runs.1)
  set_whole (endings.Budget p) meant runs puts = (runs.0, puts m.boxes runs.1)
  set_whole endings.ReadFault meant runs puts = let never : ⊥ = cc in absurd never
  set_whole endings.SinkFault meant runs puts = let never : ⊥ = cc in absurd never
  set_whole endings.NoMemory meant runs puts = let never : ⊥ = cc in absurd never

  -- where the run is cut short: by a failed read the shipper isn't broken
  pub set_part : (e : Ending) (old new : Bool) → is_meant e ≡ false → BreaksAt e old new → old ≡ false → Runs stands [] e m
      → ((boxes : List Asked) → stands boxes → BeginsWith m.boxes boxes → new ≡ false → PutsPages before after m.boxes)
      → ((boxes : List Asked) → stands boxes → BeginsWith m.boxes boxes → PutsPartly before after m.boxes) → Sets e m before after
  set_part endings.Ended old new meant breaks whole runs pages puts = let never : ⊥ = cc in absurd never
  set_part (endings.Fault f) old new meant breaks whole runs pages puts = let never : ⊥ = cc in absurd never
  set_part (endings.Budget p) old new meant breaks whole runs pages puts = let never : ⊥ = cc in absurd never
  set_part endings.ReadFault old new meant breaks whole runs pages puts = (pages runs.boxes runs.taken runs.meant (breaks whole), puts runs.boxes runs.taken runs.meant)
  set_part endings.SinkFault old new meant breaks whole runs pages puts = puts runs.boxes runs.taken runs.meant
  set_part endings.NoMemory old new meant breaks whole runs pages puts = puts runs.boxes runs.taken runs.meant

  unfinished_partly : (f : ShipFault) → PutsPartly before after m.boxes → Sets (unfinished_as f) m before after
  unfinished_partly faults.PagesFull partly = partly
  unfinished_partly faults.JobTooLarge partly = partly
  unfinished_partly faults.PlaceRange partly = partly
  unfinished_partly faults.SinkFault partly = partly
  unfinished_partly faults.NoMemory partly = partly

  pub set_unfinished : (e : Ending) (f : ShipFault) → is_meant e ≡ true → Runs stands [] e m → ((boxes : List Asked) → stands boxes → PutsPartly before after boxes) → Sets (unfinished_as f) m before after
  set_unfinished endings.Ended f meant runs puts = unfinished_partly f (puts m.boxes runs.1)
  set_unfinished (endings.Fault g) f meant runs puts = unfinished_partly f (puts m.boxes runs.1)
  set_unfinished (endings.Budget p) f meant runs puts = unfinished_partly f (puts m.boxes runs.1)
  set_unfinished endings.ReadFault f meant runs puts = let never : ⊥ = cc in absurd never
  set_unfinished endings.SinkFault f meant runs puts = let never : ⊥ = cc in absurd never
  set_unfinished endings.NoMemory f meant runs puts = let never : ⊥ = cc in absurd never

-- ---- outcomes

pub ends_as : (e : Ending) (m : Stopped) (before after : Option (List ℕ)) → Sets e m before after → EndsAs (outcome_of e) (outcome_of m.ending)
ends_as endings.Ended m before after sets = ap outcome_of sets.0
ends_as (endings.Fault f) m before after sets = ap outcome_of sets.0
ends_as (endings.Budget p) m before after sets = ap outcome_of sets.0
ends_as endings.ReadFault m before after sets = tt
ends_as endings.SinkFault m before after sets = tt
ends_as endings.NoMemory m before after sets = tt

pub writes_set : (e : Ending) (m : Stopped) (before after : Option (List ℕ)) → Sets e m before after → Writes (outcome_of e) m.boxes before after
writes_set endings.Ended m before after sets = sets.1
writes_set (endings.Fault f) m before after sets = sets.1
writes_set (endings.Budget p) m before after sets = sets.1
writes_set endings.ReadFault m before after sets = sets
writes_set endings.SinkFault m before after sets = sets
writes_set endings.NoMemory m before after sets = sets

pub tells_pages : (e : Ending) (n : ℕ) (m : Stopped) → HasPages e n m → TellsPages (outcome_of e) n m.boxes
tells_pages endings.Ended n m has = has
tells_pages (endings.Fault f) n m has = tt
tells_pages (endings.Budget p) n m has = tt
tells_pages endings.ReadFault n m has = tt
tells_pages endings.SinkFault n m has = tt
tells_pages endings.NoMemory n m has = tt

pub refuses_some : (e : Ending) (request : Request) → RefusesWords (outcome_of e) (Some request)
refuses_some endings.Ended request = refl
refuses_some (endings.Fault f) request = refl
refuses_some (endings.Budget p) request = refl
refuses_some endings.ReadFault request = refl
refuses_some endings.SinkFault request = tt
refuses_some endings.NoMemory request = tt

pub appends_some : (e : Ending) (before after : Option (List ℕ)) → GainsSome before after → Appends (outcome_of e) before after
appends_some endings.Ended before after gains = gains
appends_some (endings.Fault f) before after gains = gains
appends_some (endings.Budget p) before after gains = gains
appends_some endings.ReadFault before after gains = gains
appends_some endings.SinkFault before after gains = gains
appends_some endings.NoMemory before after gains = gains

pub counts_files : (e : Ending) (old new : ℕ) → CountsFault (ending_read e) old new → CountsFiles (outcome_of e) old new
counts_files endings.Ended old new counts = counts
counts_files (endings.Fault f) old new counts = counts
counts_files (endings.Budget p) old new counts = counts
counts_files endings.ReadFault old new counts = counts
counts_files endings.SinkFault old new counts = counts
counts_files endings.NoMemory old new counts = counts

pub counts_out : (e : Ending) (old new : ℕ) → CountsFault (ending_shipped e) old new → CountsOut (outcome_of e) old new
counts_out endings.Ended old new counts = counts
counts_out (endings.Fault f) old new counts = counts
counts_out (endings.Budget p) old new counts = counts
counts_out endings.ReadFault old new counts = counts
counts_out endings.SinkFault old new counts = counts
counts_out endings.NoMemory old new counts = counts
