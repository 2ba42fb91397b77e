-- Assignments with their prefixes (The TeXbook, chapter 24; TeX: The Program, sections 1211 to 1218).
use Rattle.std.specs.Prelude.{◌&&◌, not, Bool, true, false, if◌then◌else◌, Result, Ok, Err}
use Rattle.ts_base.specs.Agreement.{◌>>=◌}
use Rattle.tok_lists.specs.declared.token.Token.{Token}
use Rattle.env_groups.specs.Environments.{Nest}
use Rattle.env_groups.specs.declared.meaning.Meaning.{Meaning}
use Rattle.expander.specs.Worlds.{World}
use Rattle.control_faults.specs.declared.kind.FaultKind.{FaultKind}
use Rattle.control_faults.specs.declared.kind.FaultKind.TheVariants.{NotInMode, NotBuilt}
use Rattle.assignments.specs.declared.command.Prefix.{Prefix}
use Rattle.assignments.specs.declared.command.Prefixes.{Prefixes}
use Rattle.assignments.specs.declared.command.Assignment.{Assignment}
use Rattle.assignments.specs.declared.command.Assignment.TheVariants as assignments
use Rattle.assignments.specs.declared.command.Command.{Command}
use Rattle.assignments.specs.declared.command.Command.TheVariants as commands
use Rattle.assignments.specs.declared.seeking.Sought.{Sought}
use Rattle.assignments.specs.declared.seeking.Sought.TheVariants as sought
use Rattle.assignments.specs.Worlds.{Outcome, refused}
use Rattle.assignments.specs.Commands.{command_in, is_built, may_be_long}
use Rattle.assignments.specs.Seeking.{Finding, found, prefixed}
use Rattle.assignments.specs.Settings.{target_set, dead_cycles, switched}
use Rattle.assignments.specs.Calculations.{calculated}
use Rattle.assignments.specs.Namings.{let_done, shorthand_done, macro_done}

-- A meaning is an assignment, or a prefix of one.
abbrev pub assigns : Command → Bool
assigns commands.Other = false
assigns _ = true

-- ---- one assignment

-- what an assignment does after its prefixes
abbrev pub done : Prefixes → Assignment → World → Outcome World
done p (assignments.Set target) w = target_set target p.is_global w
done p assignments.DeadCycles w = target_set dead_cycles true w
done p (assignments.Switch param on) w = switched param on p.is_global w
done p (assignments.Calculate operation) w = calculated operation p.is_global w
done p assignments.Let w = let_done p.is_global w
done p (assignments.Shorthand shorthand) w = shorthand_done shorthand p.is_global w
done p (assignments.Define defining) w = macro_done defining p w
done p _ w = Err (refused NotBuilt w)

-- An assignment that isn't built is refused before \long is judged, and that before any part of it is read.
abbrev pub misplaces_long : Prefixes → Assignment → Bool
misplaces_long p assignment = p.is_long && (is_built assignment && not (may_be_long assignment))

unfoldable pub carried_out : Prefixes → Assignment → World → Outcome World
carried_out p assignment w = if misplaces_long p assignment then Err (refused NotInMode w) else done p assignment w

-- ---- with the prefixes before it

abbrev pub none : Prefixes
none = record { is_global = false; is_long = false }

-- an assignment with its prefixes, and what is read after the name that says it
abbrev pub Prepared : Type 0
Prepared = (Prefixes × Assignment) × World

-- Something other than an assignment after a prefix is refused, whatever it is.
abbrev pub ready_as : Prefixes → Command → World → Outcome Prepared
ready_as p (commands.Assigns assignment) w = Ok ((p, assignment), w)
ready_as p _ w = Err (refused NotInMode w)

abbrev pub prefixes_of : Sought → Prefixes
prefixes_of (sought.Assignment p) = p
prefixes_of _ = none

abbrev pub ready_from : Finding × World → Outcome Prepared
ready_from f = ready_as (prefixes_of f.0.0) (command_in f.1.nest f.0.1) f.1

-- The run of prefixes that begins with this command ends with the first token that is none; spaces and \relax are passed over.
unfoldable pub ready : Command → World → Outcome Prepared
ready (commands.Prefix prefix) w = found (sought.Assignment (prefixed none prefix)) w >>= ready_from
ready (commands.Assigns assignment) w = Ok ((none, assignment), w)
ready commands.Other w = Err (refused NotInMode w)

-- a command that is an assignment, or a prefix of one
unfoldable pub assigned : Command → World → Outcome World
assigned command w = ready command w >>= λ r. carried_out r.0.0 r.0.1 r.1
