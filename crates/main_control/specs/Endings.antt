-- How a run ends: by itself, or where a command is refused.
use Rattle.ts_base.specs.Agreement.{Cause, Determined, Counted, Free}
use Rattle.mouth.specs.declared.place.Place.{Place}
use Rattle.mouth.specs.Reading.{Stop}
use Rattle.control_faults.specs.declared.turn_fault.TurnFault.{TurnFault}
use Rattle.control_faults.specs.declared.turn_fault.TurnFault.TheVariants as faults
use Rattle.control_faults.specs.TurnFaults.{read_cause, sink_cause}
use Rattle.main_control.specs.declared.ending.Ending.{Ending}
use Rattle.main_control.specs.declared.ending.Ending.TheVariants as endings
use Rattle.main_control.specs.declared.ending.Halt.{Halt}
use Rattle.main_control.specs.declared.ending.Halt.TheVariants as halts

-- how a run ends where a command is refused at a place
abbrev pub ending_at : Place → TurnFault → Ending
ending_at place (faults.Kind kind) = endings.Fault (record { kind = kind; place = place })
ending_at place faults.Budget = endings.Budget place
ending_at place faults.ReadFault = endings.ReadFault
ending_at place faults.SinkFault = endings.SinkFault
ending_at place faults.NoMemory = endings.NoMemory

abbrev pub stopped_as : Stop TurnFault → Ending
stopped_as stop = ending_at stop.place stop.fault

-- how it ends where turns halt at a place
abbrev pub ending_of : Place → Halt → Ending
ending_of place halts.Ended = endings.Ended
ending_of place (halts.Refused fault) = ending_at place fault

-- an ending that says where it is
abbrev pub HasPlace : Ending → Type 0
HasPlace endings.Ended = ⊥
HasPlace (endings.Fault fault) = Unit {0}
HasPlace (endings.Budget place) = Unit {0}
HasPlace endings.ReadFault = ⊥
HasPlace endings.SinkFault = ⊥
HasPlace endings.NoMemory = ⊥

-- ---- why it ends so, as the files count it, and as the shipper does

abbrev pub ending_read : Ending → Cause
ending_read endings.Ended = Determined
ending_read (endings.Fault fault) = Determined
ending_read (endings.Budget place) = Determined
ending_read endings.ReadFault = Counted
ending_read endings.SinkFault = Determined
ending_read endings.NoMemory = Free

abbrev pub ending_shipped : Ending → Cause
ending_shipped endings.Ended = Determined
ending_shipped (endings.Fault fault) = Determined
ending_shipped (endings.Budget place) = Determined
ending_shipped endings.ReadFault = Determined
ending_shipped endings.SinkFault = Counted
ending_shipped endings.NoMemory = Free

abbrev pub halt_read : Halt → Cause
halt_read halts.Ended = Determined
halt_read (halts.Refused fault) = read_cause fault

abbrev pub halt_shipped : Halt → Cause
halt_shipped halts.Ended = Determined
halt_shipped (halts.Refused fault) = sink_cause fault
