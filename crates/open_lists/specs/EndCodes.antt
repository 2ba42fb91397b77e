-- What an environment says of parameters and codes where a horizontal list ends (pTeX).
use Rattle.std.specs.Prelude.{ℤ, pos, Bool, not, Result, Ok, Err}
use Rattle.std.specs.Ordering.{int_eq}
use Rattle.ts_geometry.specs.declared.glue.Glue.{Glue}
use Rattle.ts_geometry.specs.declared.measure.Sp.{Sp}
use Rattle.ts_geometry.specs.Directions.{sp}
use Rattle.env_groups.specs.declared.fault.EnvFault.{EnvFault}
use Rattle.env_groups.specs.declared.key.IntKey.TheVariants as ints
use Rattle.env_groups.specs.declared.key.DimKey.TheVariants as dims
use Rattle.env_groups.specs.declared.key.GlueKey.TheVariants as glues
use Rattle.env_groups.specs.declared.parameter.IntParam.{IntParam}
use Rattle.env_groups.specs.declared.parameter.IntParam.TheVariants.{JcharWidowPenalty, AutoSpacing, AutoXspacing}
use Rattle.env_groups.specs.declared.parameter.DimParam.{DimParam}
use Rattle.env_groups.specs.declared.parameter.GlueParam.{GlueParam}
use Rattle.env_groups.specs.declared.parameter.GlueParam.TheVariants.{KanjiSkip, XKanjiSkip}
use Rattle.env_groups.specs.Parameters.{zero_glue}
use Rattle.env_groups.specs.Environments.{Nest, int_at, dim_at, glue_at, xsp_at, inhibit_xsp_at}
use Rattle.kanjiskip_adjust.specs.EndCodes.{Codes}

-- ---- parameters, each of which there is

abbrev pub the_int : Result ℤ EnvFault → ℤ
the_int (Ok n) = n
the_int (Err fault) = pos 0

abbrev pub int_param : Nest → IntParam → ℤ
int_param nest p = the_int (int_at nest (ints.Param p))

abbrev pub the_dim : Result Sp EnvFault → Sp
the_dim (Ok s) = s
the_dim (Err fault) = sp (pos 0)

abbrev pub dim_param : Nest → DimParam → Sp
dim_param nest p = the_dim (dim_at nest (dims.Param p))

abbrev pub the_glue : Result Glue EnvFault → Glue
the_glue (Ok g) = g
the_glue (Err fault) = zero_glue

abbrev pub glue_param : Nest → GlueParam → Glue
glue_param nest p = the_glue (glue_at nest (glues.Param p))

-- A switch is off where it is 0.
abbrev pub is_on : Nest → IntParam → Bool
is_on nest p = not (int_eq (int_param nest p) (pos 0))

-- ---- the codes at a list's end

abbrev pub codes_in : Nest → Codes
codes_in nest = record {
  kanjiskip = glue_param nest KanjiSkip;
  xkanjiskip = glue_param nest XKanjiSkip;
  auto = is_on nest AutoSpacing;
  autox = is_on nest AutoXspacing;
  widow = int_param nest JcharWidowPenalty;
  xsp = λ code. xsp_at nest code;
  inhibit_xsp = λ cell. inhibit_xsp_at nest cell;
}
