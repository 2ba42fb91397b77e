-- The name of a file that a text gives, and why one is refused.
use Rattle.std.specs.Prelude.{ℕ, List, Result, Ok, Err, if◌then◌else◌}
use Rattle.ts_base.specs.Agreement.{Cause, Determined, Free}
use Rattle.ts_outside.specs.Names.{is_file_name}
use Rattle.ts_outside.specs.declared.name.NameFault.{NameFault}
use Rattle.ts_outside.specs.declared.name.NameFault.TheVariants as faults

abbrev pub name_cause : NameFault → Cause
name_cause faults.BadName = Determined
name_cause faults.NoMemory = Free

abbrev pub named : List ℕ → Result (List ℕ) NameFault
named text = if is_file_name text then Ok text else Err faults.BadName
