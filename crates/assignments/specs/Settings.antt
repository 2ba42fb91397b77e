-- Registers, parameters and codes are set (The TeXbook, chapter 24; TeX: The Program, sections 1224 to 1234; pTeX).
use Rattle.std.specs.Prelude.{ℤ, pos, Bool, true, if◌then◌else◌, List, Result, Ok, Err}
use Rattle.ts_base.specs.Agreement.{◌>>=◌, with_fault}
use Rattle.ts_geometry.specs.declared.glue.Glue.{Glue}
use Rattle.ts_geometry.specs.declared.measure.Sp.{Sp}
use Rattle.tok_lists.specs.declared.token.Token.{Token}
use Rattle.env_groups.specs.declared.key.IntKey.{IntKey}
use Rattle.env_groups.specs.declared.key.IntKey.TheVariants as ints
use Rattle.env_groups.specs.declared.key.DimKey.{DimKey}
use Rattle.env_groups.specs.declared.key.GlueKey.{GlueKey}
use Rattle.env_groups.specs.declared.key.ToksKey.{ToksKey}
use Rattle.env_groups.specs.declared.key.ToksKey.TheVariants as toks
use Rattle.env_groups.specs.declared.code.CodeKey.{CodeKey}
use Rattle.env_groups.specs.declared.parameter.IntParam.{IntParam}
use Rattle.env_groups.specs.declared.parameter.IntParam.TheVariants.{DeadCycles}
use Rattle.env_groups.specs.declared.parameter.ToksParam.TheVariants.{Output}
use Rattle.env_groups.specs.declared.prim.PrimitiveName.TheVariants as prims
use Rattle.env_groups.specs.declared.meaning.Meaning.{Meaning}
use Rattle.env_groups.specs.declared.meaning.Meaning.TheVariants as meanings
use Rattle.env_groups.specs.Environments.{Nest, int_set, dim_set, glue_set, toks_set, code_set, toks_at}
use Rattle.raw_texts.specs.Meanings.{means_category}
use Rattle.expander.specs.Worlds.{World}
use Rattle.control_faults.specs.declared.kind.FaultKind.TheVariants.{NoBrace}
use Rattle.control_faults.specs.declared.turn_fault.TurnFault.{TurnFault}
use Rattle.control_faults.specs.TurnFaults.{of_env}
use Rattle.assignments.specs.declared.variable.Variable.{Variable}
use Rattle.assignments.specs.declared.variable.Variable.TheVariants as variables
use Rattle.assignments.specs.declared.variable.Target.{Target}
use Rattle.assignments.specs.declared.variable.Target.TheVariants.{Known}
use Rattle.assignments.specs.Worlds.{Outcome, refused, in_env, from_env}
use Rattle.assignments.specs.Commands.{meant}
use Rattle.assignments.specs.Reads.{braces_read, put_back}
use Rattle.assignments.specs.Values.{integer, dimension, glue, equals, register}
use Rattle.assignments.specs.Variables.{variable}
use Rattle.assignments.specs.Seeking.{solid_token}

-- ---- what is made of the environment

abbrev pub int_stored : Nest → IntKey → ℤ → Bool → Result Nest TurnFault
int_stored nest key value is_global = with_fault of_env (int_set nest key value is_global)

abbrev pub dim_stored : Nest → DimKey → Sp → Bool → Result Nest TurnFault
dim_stored nest key value is_global = with_fault of_env (dim_set nest key value is_global)

abbrev pub glue_stored : Nest → GlueKey → Glue → Bool → Result Nest TurnFault
glue_stored nest key value is_global = with_fault of_env (glue_set nest key value is_global)

abbrev pub toks_stored : Nest → ToksKey → List Token → Bool → Result Nest TurnFault
toks_stored nest key value is_global = with_fault of_env (toks_set nest key value is_global)

abbrev pub code_stored : Nest → CodeKey → ℤ → Bool → Result Nest TurnFault
code_stored nest key value is_global = with_fault of_env (code_set nest key value is_global)

-- ---- token lists

abbrev pub list_at : ToksKey → World → Outcome (List Token × World)
list_at key w = from_env w (with_fault of_env (toks_at w.nest key))

-- the list of a register or of \output
abbrev pub list_copied : Meaning → World → Outcome (List Token × World)
list_copied (meanings.Toks n) w = list_at (toks.Register n) w
list_copied (meanings.Primitive prims.Toks) w = register w >>= λ r. list_at (toks.Register r.0) r.1
list_copied (meanings.Primitive prims.Output) w = list_at (toks.Param Output) w
list_copied _ w = Err (refused NoBrace w)

-- a list in braces, whose { may be a name that means it; else the list of a register
abbrev pub list_from : Token × World → Outcome (List Token × World)
list_from t =
    if means_category 1 (meant t.1.nest t.0) then (put_back t.0 t.1 >>= braces_read)
    else list_copied (meant t.1.nest t.0) t.1

-- Its first token is looked for past spaces and \relax, with expansion.
unfoldable pub token_list : World → Outcome (List Token × World)
token_list w = solid_token w >>= list_from

-- ---- settings

-- The value is read, and set.
unfoldable pub value_set : Variable → Bool → World → Outcome World
value_set (variables.Int key) is_global w = integer w >>= λ n. in_env n.1 (int_stored n.1.nest key n.0 is_global)
value_set (variables.Dim key) is_global w = dimension w >>= λ d. in_env d.1 (dim_stored d.1.nest key d.0 is_global)
value_set (variables.Glue key) is_global w = glue w >>= λ g. in_env g.1 (glue_stored g.1.nest key g.0 is_global)
value_set (variables.Toks key) is_global w = token_list w >>= λ l. in_env l.1 (toks_stored l.1.nest key l.0 is_global)
value_set (variables.Code key) is_global w = integer w >>= λ n. in_env n.1 (code_stored n.1.nest key n.0 is_global)

-- a number where one follows, an optional =, and the value
unfoldable pub target_set : Target → Bool → World → Outcome World
target_set target is_global w =
    variable target w >>= λ v. equals v.1 >>= λ w. value_set v.0 is_global w

-- \deadcycles is always set globally.
abbrev pub dead_cycles : Target
dead_cycles = Known (variables.Int (ints.Param DeadCycles))

abbrev pub switch_number : Bool → ℤ
switch_number on = if on then pos 1 else pos 0

-- a switch of spacing
unfoldable pub switched : IntParam → Bool → Bool → World → Outcome World
switched param on is_global w = in_env w (int_stored w.nest (ints.Param param) (switch_number on) is_global)
