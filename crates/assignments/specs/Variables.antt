-- What can be set: parameters, registers and codes, known at once or by the number that follows.
use Rattle.std.specs.Prelude.{ℤ, Result, Ok}
use Rattle.ts_base.specs.Agreement.{◌>>=◌}
use Rattle.env_groups.specs.declared.key.IntKey.TheVariants as ints
use Rattle.env_groups.specs.declared.key.DimKey.TheVariants as dims
use Rattle.env_groups.specs.declared.key.GlueKey.TheVariants as glues
use Rattle.env_groups.specs.declared.key.ToksKey.TheVariants as toks
use Rattle.expander.specs.Worlds.{World}
use Rattle.control_faults.specs.declared.kind.FaultKind.{FaultKind}
use Rattle.assignments.specs.declared.variable.Variable.{Variable}
use Rattle.assignments.specs.declared.variable.Variable.TheVariants as variables
use Rattle.assignments.specs.declared.variable.Numbered.{Numbered}
use Rattle.assignments.specs.declared.variable.Numbered.TheVariants as numbered
use Rattle.assignments.specs.declared.variable.Target.{Target}
use Rattle.assignments.specs.declared.variable.Target.TheVariants.{Known, OfNumber}
use Rattle.assignments.specs.Worlds.{Outcome, checked}
use Rattle.assignments.specs.Values.{integer, register_number, code_number}

-- what a number names
abbrev pub variable_at : Numbered → ℤ → Result Variable FaultKind
variable_at numbered.Count n = register_number n >>= λ r. Ok (variables.Int (ints.Register r))
variable_at numbered.Dimen n = register_number n >>= λ r. Ok (variables.Dim (dims.Register r))
variable_at numbered.Skip n = register_number n >>= λ r. Ok (variables.Glue (glues.Register r))
variable_at numbered.Toks n = register_number n >>= λ r. Ok (variables.Toks (toks.Register r))
variable_at (numbered.Code kind) n = code_number kind n >>= λ key. Ok (variables.Code key)

-- what is to be set, whose number is read where it isn't known
unfoldable pub variable : Target → World → Outcome (Variable × World)
variable (Known v) w = Ok (v, w)
variable (OfNumber kind) w = integer w >>= checked (variable_at kind)
