-- Which meanings are assignments, and which are prefixes (The TeXbook, chapter 24; pTeX).
use Rattle.std.specs.Prelude.{Bool, true, false}
use Rattle.tok_lists.specs.declared.token.Token.{Token}
use Rattle.tok_lists.specs.declared.token.Token.TheVariants as tokens
use Rattle.box_tree.specs.declared.node.Side.TheVariants.{Wd, Ht, Dp}
use Rattle.env_groups.specs.declared.prim.PrimitiveName.{PrimitiveName}
use Rattle.env_groups.specs.declared.prim.PrimitiveName.TheVariants as prims
use Rattle.env_groups.specs.declared.parameter.IntParam.{IntParam}
use Rattle.env_groups.specs.declared.parameter.IntParam.TheVariants as int_params
use Rattle.env_groups.specs.declared.parameter.DimParam.{DimParam}
use Rattle.env_groups.specs.declared.parameter.DimParam.TheVariants as dim_params
use Rattle.env_groups.specs.declared.parameter.GlueParam.{GlueParam}
use Rattle.env_groups.specs.declared.parameter.GlueParam.TheVariants as glue_params
use Rattle.env_groups.specs.declared.parameter.ToksParam.TheVariants as toks_params
use Rattle.env_groups.specs.declared.key.IntKey.TheVariants as ints
use Rattle.env_groups.specs.declared.key.DimKey.TheVariants as dims
use Rattle.env_groups.specs.declared.key.GlueKey.TheVariants as glues
use Rattle.env_groups.specs.declared.key.ToksKey.TheVariants as toks
use Rattle.env_groups.specs.declared.meaning.Meaning.{Meaning}
use Rattle.env_groups.specs.declared.meaning.Meaning.TheVariants as meanings
use Rattle.env_groups.specs.Environments.{Nest}
use Rattle.raw_texts.specs.Meanings.{meaning_of}
use Rattle.scan_numbers.specs.declared.quantity.CodeKind.TheVariants as kinds
use Rattle.assignments.specs.declared.variable.Variable.TheVariants as variables
use Rattle.assignments.specs.declared.variable.Numbered.{Numbered}
use Rattle.assignments.specs.declared.variable.Numbered.TheVariants as numbered
use Rattle.assignments.specs.declared.variable.Target.{Target}
use Rattle.assignments.specs.declared.variable.Target.TheVariants.{Known, OfNumber}
use Rattle.assignments.specs.declared.command.Operation.TheVariants as operations
use Rattle.assignments.specs.declared.command.Shorthand.TheVariants as shorthands
use Rattle.assignments.specs.declared.command.Defining.{Defining}
use Rattle.assignments.specs.declared.command.Prefix.TheVariants as prefixes
use Rattle.assignments.specs.declared.command.Assignment.{Assignment}
use Rattle.assignments.specs.declared.command.Assignment.TheVariants as assignments
use Rattle.assignments.specs.declared.command.Command.{Command}
use Rattle.assignments.specs.declared.command.Command.TheVariants.{Prefix, Assigns, Other}

abbrev pub sets : Target → Command
sets target = Assigns (assignments.Set target)

abbrev pub int_param : IntParam → Command
int_param param = sets (Known (variables.Int (ints.Param param)))

abbrev pub dim_param : DimParam → Command
dim_param param = sets (Known (variables.Dim (dims.Param param)))

abbrev pub glue_param : GlueParam → Command
glue_param param = sets (Known (variables.Glue (glues.Param param)))

abbrev pub numbers : Numbered → Command
numbers kind = sets (OfNumber kind)

abbrev pub switches : IntParam → Bool → Command
switches param on = Assigns (assignments.Switch param on)

abbrev pub defines : Bool → Bool → Command
defines is_expanded is_global = Assigns (assignments.Define (record { is_expanded = is_expanded; is_global = is_global }))

-- ---- parameters

abbrev pub named_int : PrimitiveName → Command
named_int prims.Pretolerance = int_param int_params.Pretolerance
named_int prims.Tolerance = int_param int_params.Tolerance
named_int prims.LinePenalty = int_param int_params.LinePenalty
named_int prims.AdjDemerits = int_param int_params.AdjDemerits
named_int prims.InterlinePenalty = int_param int_params.InterlinePenalty
named_int prims.ClubPenalty = int_param int_params.ClubPenalty
named_int prims.WidowPenalty = int_param int_params.WidowPenalty
named_int prims.JcharWidowPenalty = int_param int_params.JcharWidowPenalty
named_int prims.OutputPenalty = int_param int_params.OutputPenalty
named_int _ = Other

abbrev pub named_dim : PrimitiveName → Command
named_dim prims.HSize = dim_param dim_params.HSize
named_dim prims.VSize = dim_param dim_params.VSize
named_dim prims.ParIndent = dim_param dim_params.ParIndent
named_dim prims.MaxDepth = dim_param dim_params.MaxDepth
named_dim prims.BoxMaxDepth = dim_param dim_params.BoxMaxDepth
named_dim prims.LineSkipLimit = dim_param dim_params.LineSkipLimit
named_dim prims.EmergencyStretch = dim_param dim_params.EmergencyStretch
named_dim prims.TBaselineShift = dim_param dim_params.TBaselineShift
named_dim prims.YBaselineShift = dim_param dim_params.YBaselineShift
named_dim prim = named_int prim

abbrev pub named_glue : PrimitiveName → Command
named_glue prims.BaselineSkip = glue_param glue_params.BaselineSkip
named_glue prims.LineSkip = glue_param glue_params.LineSkip
named_glue prims.ParSkip = glue_param glue_params.ParSkip
named_glue prims.TopSkip = glue_param glue_params.TopSkip
named_glue prims.LeftSkip = glue_param glue_params.LeftSkip
named_glue prims.RightSkip = glue_param glue_params.RightSkip
named_glue prims.ParFillSkip = glue_param glue_params.ParFillSkip
named_glue prims.KanjiSkip = glue_param glue_params.KanjiSkip
named_glue prims.XKanjiSkip = glue_param glue_params.XKanjiSkip
named_glue prim = named_dim prim

-- ---- registers, codes and switches

abbrev pub named_register : PrimitiveName → Command
named_register prims.Count = numbers numbered.Count
named_register prims.Dimen = numbers numbered.Dimen
named_register prims.Skip = numbers numbered.Skip
named_register prims.Toks = numbers numbered.Toks
named_register prims.Output = sets (Known (variables.Toks (toks.Param toks_params.Output)))
named_register prims.CatCode = numbers (numbered.Code kinds.Cat)
named_register prims.KCatCode = numbers (numbered.Code kinds.Kcat)
named_register prims.XspCode = numbers (numbered.Code kinds.Xsp)
named_register prims.InhibitXspCode = numbers (numbered.Code kinds.InhibitXsp)
named_register prims.PreBreakPenalty = numbers (numbered.Code kinds.Pre)
named_register prims.PostBreakPenalty = numbers (numbered.Code kinds.Post)
named_register prims.AutoSpacing = switches int_params.AutoSpacing true
named_register prims.NoAutoSpacing = switches int_params.AutoSpacing false
named_register prims.AutoXspacing = switches int_params.AutoXspacing true
named_register prims.NoAutoXspacing = switches int_params.AutoXspacing false
named_register prim = named_glue prim

-- ---- all primitives that assign

abbrev pub primitive_command : PrimitiveName → Command
primitive_command prims.Global = Prefix prefixes.Global
primitive_command prims.Long = Prefix prefixes.Long
primitive_command prims.Def = defines false false
primitive_command prims.EDef = defines true false
primitive_command prims.GDef = defines false true
primitive_command prims.XDef = defines true true
primitive_command prims.Let = Assigns assignments.Let
primitive_command prims.CharDef = Assigns (assignments.Shorthand shorthands.Char)
primitive_command prims.CountDef = Assigns (assignments.Shorthand shorthands.Count)
primitive_command prims.DimenDef = Assigns (assignments.Shorthand shorthands.Dimen)
primitive_command prims.SkipDef = Assigns (assignments.Shorthand shorthands.Skip)
primitive_command prims.ToksDef = Assigns (assignments.Shorthand shorthands.Toks)
primitive_command prims.Advance = Assigns (assignments.Calculate operations.Advance)
primitive_command prims.Multiply = Assigns (assignments.Calculate operations.Multiply)
primitive_command prims.Divide = Assigns (assignments.Calculate operations.Divide)
primitive_command prims.DeadCycles = Assigns assignments.DeadCycles
primitive_command prims.Font = Assigns assignments.LoadFont
primitive_command prims.SetBox = Assigns assignments.SetBox
primitive_command prims.Wd = Assigns (assignments.Measure Wd)
primitive_command prims.Ht = Assigns (assignments.Measure Ht)
primitive_command prims.Dp = Assigns (assignments.Measure Dp)
primitive_command prim = named_register prim

-- what a meaning is: also the number of a register by \countdef and its kin, and a font
unfoldable pub command_of : Meaning → Command
command_of (meanings.Primitive prim) = primitive_command prim
command_of (meanings.Count n) = sets (Known (variables.Int (ints.Register n)))
command_of (meanings.Dimen n) = sets (Known (variables.Dim (dims.Register n)))
command_of (meanings.Skip n) = sets (Known (variables.Glue (glues.Register n)))
command_of (meanings.Toks n) = sets (Known (variables.Toks (toks.Register n)))
command_of (meanings.Font font) = Assigns (assignments.SelectFont font)
command_of _ = Other

-- What a token means that expansion gave: a Kept one is \relax.
abbrev pub meant : Nest → Token → Meaning
meant nest (tokens.Kept name) = meanings.Primitive prims.Relax
meant nest token = meaning_of nest token

abbrev pub command_in : Nest → Token → Command
command_in nest token = command_of (meant nest token)

-- ---- what is built

-- Fonts, \setbox and the measures of boxes have no step here.
abbrev pub is_built : Assignment → Bool
is_built assignments.LoadFont = false
is_built (assignments.SelectFont font) = false
is_built assignments.SetBox = false
is_built (assignments.Measure side) = false
is_built _ = true

-- Only what defines a macro may be \long.
abbrev pub may_be_long : Assignment → Bool
may_be_long (assignments.Define defining) = true
may_be_long _ = false
