-- \advance, \multiply and \divide (The TeXbook, chapter 24; TeX: The Program, sections 1236 to 1240).
use Rattle.std.specs.Prelude.{ℤ, Bool, true, false, if◌then◌else◌, Option, Result, Ok, Err}
use Rattle.std.specs.Option.{ok_or}
use Rattle.ts_base.specs.Agreement.{◌>>=◌, with_fault}
use Rattle.ts_geometry.specs.declared.glue.Glue.{Glue}
use Rattle.ts_geometry.specs.declared.measure.Sp.{Sp}
use Rattle.env_groups.specs.declared.key.IntKey.{IntKey}
use Rattle.env_groups.specs.declared.key.DimKey.{DimKey}
use Rattle.env_groups.specs.declared.key.GlueKey.{GlueKey}
use Rattle.env_groups.specs.Environments.{Nest, int_at, dim_at, glue_at}
use Rattle.arithmetic.specs.Results.{integer_advanced, integer_multiplied, integer_divided, dimen_advanced, dimen_multiplied, dimen_divided, glue_advanced, glue_multiplied, glue_divided}
use Rattle.scan_syntax.specs.declared.word.Word.TheVariants.{By}
use Rattle.expander.specs.Worlds.{World}
use Rattle.control_faults.specs.declared.kind.FaultKind.{FaultKind}
use Rattle.control_faults.specs.declared.kind.FaultKind.TheVariants.{NotInMode, Arithmetic}
use Rattle.control_faults.specs.declared.turn_fault.TurnFault.{TurnFault}
use Rattle.control_faults.specs.declared.turn_fault.TurnFault.TheVariants.{Kind}
use Rattle.control_faults.specs.TurnFaults.{of_env}
use Rattle.assignments.specs.declared.variable.Variable.{Variable}
use Rattle.assignments.specs.declared.variable.Variable.TheVariants as variables
use Rattle.assignments.specs.declared.variable.Numbered.TheVariants as numbered
use Rattle.assignments.specs.declared.variable.Target.{Target}
use Rattle.assignments.specs.declared.variable.Target.TheVariants.{Known, OfNumber}
use Rattle.assignments.specs.declared.command.Operation.{Operation}
use Rattle.assignments.specs.declared.command.Operation.TheVariants as operations
use Rattle.assignments.specs.declared.command.Assignment.TheVariants.{Set}
use Rattle.assignments.specs.declared.command.Command.{Command}
use Rattle.assignments.specs.declared.command.Command.TheVariants.{Assigns}
use Rattle.assignments.specs.Commands.{command_in}
use Rattle.assignments.specs.Worlds.{Outcome, refused, checked, in_env}
use Rattle.assignments.specs.Reads.{next_token}
use Rattle.assignments.specs.Values.{integer, dimension, glue, keyword}
use Rattle.assignments.specs.Variables.{variable}
use Rattle.assignments.specs.Settings.{int_stored, dim_stored, glue_stored}

-- ---- what is calculated

-- an integer, a dimension or glue, as a register or a parameter holds
abbrev pub numeric : Target → Result Target FaultKind
numeric (Known (variables.Int key)) = Ok (Known (variables.Int key))
numeric (Known (variables.Dim key)) = Ok (Known (variables.Dim key))
numeric (Known (variables.Glue key)) = Ok (Known (variables.Glue key))
numeric (OfNumber numbered.Count) = Ok (OfNumber numbered.Count)
numeric (OfNumber numbered.Dimen) = Ok (OfNumber numbered.Dimen)
numeric (OfNumber numbered.Skip) = Ok (OfNumber numbered.Skip)
numeric _ = Err NotInMode

abbrev pub numeric_in : Command → Result Target FaultKind
numeric_in (Assigns (Set target)) = numeric target
numeric_in _ = Err NotInMode

-- ---- results

abbrev pub integer_result : Operation → ℤ → ℤ → Option ℤ
integer_result operations.Advance old by = integer_advanced old by
integer_result operations.Multiply old by = integer_multiplied old by
integer_result operations.Divide old by = integer_divided old by

-- a dimension times or by an integer
abbrev pub dimen_result : Operation → Sp → ℤ → Option Sp
dimen_result operations.Divide old by = dimen_divided by old
dimen_result _ old by = dimen_multiplied by old

abbrev pub glue_result : Operation → Glue → ℤ → Option Glue
glue_result operations.Divide old by = glue_divided by old
glue_result _ old by = glue_multiplied by old

-- Arithmetic comes where there is no result.
abbrev pub result_of : {X : Type 0} → Option X → Result X TurnFault
result_of found = ok_or found (Kind Arithmetic)

abbrev pub int_changed : Nest → IntKey → (ℤ → Option ℤ) → Bool → Result Nest TurnFault
int_changed nest key change is_global =
    with_fault of_env (int_at nest key) >>= λ old. result_of (change old) >>= λ new. int_stored nest key new is_global

abbrev pub dim_changed : Nest → DimKey → (Sp → Option Sp) → Bool → Result Nest TurnFault
dim_changed nest key change is_global =
    with_fault of_env (dim_at nest key) >>= λ old. result_of (change old) >>= λ new. dim_stored nest key new is_global

abbrev pub glue_changed : Nest → GlueKey → (Glue → Option Glue) → Bool → Result Nest TurnFault
glue_changed nest key change is_global =
    with_fault of_env (glue_at nest key) >>= λ old. result_of (change old) >>= λ new. glue_stored nest key new is_global

-- ---- operands

abbrev pub int_calculated : Operation → IntKey → Bool → World → Outcome World
int_calculated operation key is_global w =
    integer w >>= λ n. in_env n.1 (int_changed n.1.nest key (λ old. integer_result operation old n.0) is_global)

-- A dimension is added to a dimension, and glue to glue; each is multiplied and divided by an integer.
abbrev pub adds : Operation → Bool
adds operations.Advance = true
adds operations.Multiply = false
adds operations.Divide = false

abbrev pub dim_calculated : Operation → DimKey → Bool → World → Outcome World
dim_calculated operation key is_global w =
    if adds operation
    then (dimension w >>= λ d. in_env d.1 (dim_changed d.1.nest key (λ old. dimen_advanced old d.0) is_global))
    else (integer w >>= λ n. in_env n.1 (dim_changed n.1.nest key (λ old. dimen_result operation old n.0) is_global))

abbrev pub glue_calculated : Operation → GlueKey → Bool → World → Outcome World
glue_calculated operation key is_global w =
    if adds operation
    then (glue w >>= λ g. in_env g.1 (glue_changed g.1.nest key (λ old. glue_advanced old g.0) is_global))
    else (integer w >>= λ n. in_env n.1 (glue_changed n.1.nest key (λ old. glue_result operation old n.0) is_global))

abbrev pub variable_calculated : Operation → Variable → Bool → World → Outcome World
variable_calculated operation (variables.Int key) is_global w = int_calculated operation key is_global w
variable_calculated operation (variables.Dim key) is_global w = dim_calculated operation key is_global w
variable_calculated operation (variables.Glue key) is_global w = glue_calculated operation key is_global w
variable_calculated operation _ is_global w = Err (refused NotInMode w)

-- what the next token tells
unfoldable pub numeric_token : World → Outcome (Target × World)
numeric_token w = next_token w >>= λ t. checked (λ token. numeric_in (command_in t.1.nest token)) t

-- Exactly the next unexpandable token is what is calculated, with no space passed over; then a number where one follows, the
-- keyword by, which may fail, and the operand.
unfoldable pub calculated : Operation → Bool → World → Outcome World
calculated operation is_global w =
    numeric_token w >>= λ n. variable n.0 n.1 >>= λ v. keyword By v.1 >>= λ k. variable_calculated operation v.0 is_global k.1
