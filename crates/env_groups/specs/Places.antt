-- Where what can be set stands: of each type the parameters come first, and then the registers.
use Rattle.std.specs.Prelude.{ℕ, ◌+◌, ℤ, pos, nat_le, if◌then◌else◌, Result, Ok, Err}
use Rattle.ts_geometry.specs.declared.glue.Glue.{Glue}
use Rattle.ts_geometry.specs.declared.measure.Sp.{Sp}
use Rattle.ts_geometry.specs.Directions.{sp}
use Rattle.env_groups.specs.declared.fault.EnvFault.{EnvFault}
use Rattle.env_groups.specs.declared.fault.EnvFault.TheVariants.{RegisterRange}
use Rattle.env_groups.specs.declared.key.IntKey.{IntKey}
use Rattle.env_groups.specs.declared.key.IntKey.TheVariants as ints
use Rattle.env_groups.specs.declared.key.DimKey.{DimKey}
use Rattle.env_groups.specs.declared.key.DimKey.TheVariants as dims
use Rattle.env_groups.specs.declared.key.GlueKey.{GlueKey}
use Rattle.env_groups.specs.declared.key.GlueKey.TheVariants as glues
use Rattle.env_groups.specs.declared.key.ToksKey.{ToksKey}
use Rattle.env_groups.specs.declared.key.ToksKey.TheVariants as lists
use Rattle.env_groups.specs.Parameters.{int_params, int_param_number, int_param_start, dim_params, dim_param_number, dim_param_start, glue_params, glue_param_number, glue_param_start, zero_glue}

-- where registers end
abbrev pub last_register : ℕ
last_register = 255

-- the place of a register after so many parameters
abbrev pub register : ℕ → ℕ → Result ℕ EnvFault
register params n = if nat_le n last_register then Ok (params + n) else Err RegisterRange

abbrev pub int_place : IntKey → Result ℕ EnvFault
int_place (ints.Param p) = Ok (int_param_number p)
int_place (ints.Register n) = register int_params n

abbrev pub dim_place : DimKey → Result ℕ EnvFault
dim_place (dims.Param p) = Ok (dim_param_number p)
dim_place (dims.Register n) = register dim_params n

abbrev pub glue_place : GlueKey → Result ℕ EnvFault
glue_place (glues.Param p) = Ok (glue_param_number p)
glue_place (glues.Register n) = register glue_params n

abbrev pub toks_place : ToksKey → Result ℕ EnvFault
toks_place (lists.Param p) = Ok 0
toks_place (lists.Register n) = register 1 n

abbrev pub box_place : ℕ → Result ℕ EnvFault
box_place n = register 0 n

-- what was never set

abbrev pub int_start : IntKey → ℤ
int_start (ints.Param p) = int_param_start p
int_start (ints.Register n) = pos 0

abbrev pub dim_start : DimKey → Sp
dim_start (dims.Param p) = dim_param_start p
dim_start (dims.Register n) = sp (pos 0)

abbrev pub glue_start : GlueKey → Glue
glue_start (glues.Param p) = glue_param_start p
glue_start (glues.Register n) = zero_glue
