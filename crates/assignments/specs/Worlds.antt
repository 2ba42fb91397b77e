-- What a command gives that touches what is read and the environment alone, or its first fault.
use Rattle.std.specs.Prelude.{Result, Ok}
use Rattle.ts_base.specs.Agreement.{◌>>=◌, with_fault}
use Rattle.ts_outside.specs.States.{FilesState}
use Rattle.env_groups.specs.Environments.{Nest}
use Rattle.mouth.specs.Reading.{Stop, at_place, place_of}
use Rattle.mouth.specs.Keeping.{MouthView, reading}
use Rattle.expander.specs.Worlds.{World, world}
use Rattle.control_faults.specs.declared.kind.FaultKind.{FaultKind}
use Rattle.control_faults.specs.declared.turn_fault.TurnFault.{TurnFault}
use Rattle.control_faults.specs.declared.turn_fault.TurnFault.TheVariants.{Kind}

abbrev pub Outcome : Type 0 → Type 0
Outcome X = Result X (Stop TurnFault)

-- what a gullet and an environment stand for
abbrev pub world_of : MouthView → FilesState → Nest → World
world_of gullet state nest = world (reading gullet state) nest

-- a fault at the place up to which is read
abbrev pub stopped : World → TurnFault → Stop TurnFault
stopped w fault = at_place (place_of w.at) fault

abbrev pub refused : FaultKind → World → Stop TurnFault
refused kind w = stopped w (Kind kind)

-- what follows from what was read, with nothing further read
abbrev pub checked : {X Y : Type 0} → (X → Result Y FaultKind) → X × World → Outcome (Y × World)
checked test t = with_fault (λ kind. refused kind t.1) (test t.0) >>= λ y. Ok (y, t.1)

-- what is made of the environment, with nothing further read
abbrev pub in_env : World → Result Nest TurnFault → Outcome World
in_env w call = with_fault (stopped w) call >>= λ nest. Ok (world w.at nest)

-- what is found in the environment
abbrev pub from_env : {X : Type 0} → World → Result X TurnFault → Outcome (X × World)
from_env w call = with_fault (stopped w) call >>= λ x. Ok (x, w)
