-- What the answers of a shipper mean.
use Rattle.std.specs.Prelude.{◌≡◌, Bool, false, Result, Ok, Err}
use Rattle.ts_base.specs.Agreement.{Cause, Determined, Counted, Free}
use Rattle.ts_outside.specs.declared.sink.PutFault.{PutFault}
use Rattle.ts_outside.specs.declared.sink.PutFault.TheVariants as puts
use Rattle.dvi_writer.specs.declared.fault.WriteFault.{WriteFault}
use Rattle.dvi_writer.specs.declared.fault.WriteFault.TheVariants as writes
use Rattle.shipping.specs.declared.fault.ShipFault.{ShipFault}
use Rattle.shipping.specs.declared.fault.ShipFault.TheVariants as faults

abbrev pub ship_cause : ShipFault → Cause
ship_cause faults.PagesFull = Determined
ship_cause faults.JobTooLarge = Determined
ship_cause faults.PlaceRange = Determined
ship_cause faults.SinkFault = Counted
ship_cause faults.NoMemory = Free

abbrev pub of_writer : WriteFault → ShipFault
of_writer writes.PagesFull = faults.PagesFull
of_writer writes.JobTooLarge = faults.JobTooLarge
of_writer writes.PlaceRange = faults.PlaceRange
of_writer writes.NoMemory = faults.NoMemory

abbrev pub of_put : PutFault → ShipFault
of_put puts.Failed = faults.SinkFault
of_put puts.NoMemory = faults.NoMemory

-- a fault that a box has no part in
abbrev pub IsOutside : ShipFault → Type 0
IsOutside faults.PagesFull = ⊥
IsOutside faults.JobTooLarge = ⊥
IsOutside faults.PlaceRange = ⊥
IsOutside faults.SinkFault = Unit {0}
IsOutside faults.NoMemory = Unit {0}

abbrev pub StaysWhole : Bool → Bool → Type 0
StaysWhole old new = old ≡ false → new ≡ false

-- A shipper that isn't broken becomes so only where its sink failed or memory ran out.
abbrev pub BreaksBy : ShipFault → Bool → Bool → Type 0
BreaksBy faults.PagesFull old new = StaysWhole old new
BreaksBy faults.JobTooLarge old new = StaysWhole old new
BreaksBy faults.PlaceRange old new = StaysWhole old new
BreaksBy faults.SinkFault old new = Unit {0}
BreaksBy faults.NoMemory old new = Unit {0}

abbrev pub Breaks : {X : Type 0} → Result X ShipFault → Bool → Bool → Type 0
Breaks (Ok x) old new = StaysWhole old new
Breaks (Err fault) old new = BreaksBy fault old new
