-- Parameters: their places among those of their type, and what they are at the start (The TeXbook, appendix B; pTeX).
use Rattle.std.specs.Prelude.{ℕ, ℤ, pos, ◌*◌}
use Rattle.ts_geometry.specs.declared.glue.Glue.{Glue}
use Rattle.ts_geometry.specs.declared.glue.Order.TheVariants.{Normal, Fil}
use Rattle.ts_geometry.specs.declared.measure.Sp.{Sp}
use Rattle.ts_geometry.specs.Directions.{sp}
use Rattle.env_groups.specs.declared.parameter.IntParam.{IntParam}
use Rattle.env_groups.specs.declared.parameter.IntParam.TheVariants.{Pretolerance, Tolerance, LinePenalty, AdjDemerits, InterlinePenalty, ClubPenalty, WidowPenalty, JcharWidowPenalty, OutputPenalty, DeadCycles, AutoSpacing, AutoXspacing}
use Rattle.env_groups.specs.declared.parameter.DimParam.{DimParam}
use Rattle.env_groups.specs.declared.parameter.DimParam.TheVariants.{HSize, VSize, ParIndent, MaxDepth, BoxMaxDepth, LineSkipLimit, EmergencyStretch, TBaselineShift, YBaselineShift}
use Rattle.env_groups.specs.declared.parameter.GlueParam.{GlueParam}
use Rattle.env_groups.specs.declared.parameter.GlueParam.TheVariants.{BaselineSkip, LineSkip, ParSkip, TopSkip, LeftSkip, RightSkip, ParFillSkip, KanjiSkip, XKanjiSkip}

-- ---- integers

abbrev pub int_params : ℕ
int_params = 12

abbrev pub int_param_number : IntParam → ℕ
int_param_number Pretolerance = 0
int_param_number Tolerance = 1
int_param_number LinePenalty = 2
int_param_number AdjDemerits = 3
int_param_number InterlinePenalty = 4
int_param_number ClubPenalty = 5
int_param_number WidowPenalty = 6
int_param_number JcharWidowPenalty = 7
int_param_number OutputPenalty = 8
int_param_number DeadCycles = 9
int_param_number AutoSpacing = 10
int_param_number AutoXspacing = 11

abbrev pub int_param_start : IntParam → ℤ
int_param_start Pretolerance = pos 100
int_param_start Tolerance = pos 200
int_param_start LinePenalty = pos 10
int_param_start AdjDemerits = pos 10000
int_param_start InterlinePenalty = pos 0
int_param_start ClubPenalty = pos 150
int_param_start WidowPenalty = pos 150
int_param_start JcharWidowPenalty = pos 500
int_param_start OutputPenalty = pos 0
int_param_start DeadCycles = pos 0
int_param_start AutoSpacing = pos 1
int_param_start AutoXspacing = pos 1

-- ---- dimensions, in scaled points

-- so many printer's points
abbrev pub points : ℕ → Sp
points count = sp (pos (count * 65536))

abbrev pub dim_params : ℕ
dim_params = 9

abbrev pub dim_param_number : DimParam → ℕ
dim_param_number HSize = 0
dim_param_number VSize = 1
dim_param_number ParIndent = 2
dim_param_number MaxDepth = 3
dim_param_number BoxMaxDepth = 4
dim_param_number LineSkipLimit = 5
dim_param_number EmergencyStretch = 6
dim_param_number TBaselineShift = 7
dim_param_number YBaselineShift = 8

-- 6.5in, 8.9in, and so on
abbrev pub dim_param_start : DimParam → Sp
dim_param_start HSize = sp (pos 30785863)
dim_param_start VSize = sp (pos 42152922)
dim_param_start ParIndent = points 20
dim_param_start MaxDepth = points 4
dim_param_start BoxMaxDepth = sp (pos 1073741823)
dim_param_start LineSkipLimit = sp (pos 0)
dim_param_start EmergencyStretch = sp (pos 0)
dim_param_start TBaselineShift = sp (pos 0)
dim_param_start YBaselineShift = sp (pos 0)

-- ---- glue, in scaled points

-- glue of finite stretch and shrink
abbrev pub finite : Sp → Sp → Sp → Glue
finite width stretch shrink = record { width = width; stretch = stretch; stretch_order = Normal; shrink = shrink; shrink_order = Normal }

abbrev pub zero_glue : Glue
zero_glue = finite (sp (pos 0)) (sp (pos 0)) (sp (pos 0))

abbrev pub glue_params : ℕ
glue_params = 9

abbrev pub glue_param_number : GlueParam → ℕ
glue_param_number BaselineSkip = 0
glue_param_number LineSkip = 1
glue_param_number ParSkip = 2
glue_param_number TopSkip = 3
glue_param_number LeftSkip = 4
glue_param_number RightSkip = 5
glue_param_number ParFillSkip = 6
glue_param_number KanjiSkip = 7
glue_param_number XKanjiSkip = 8

-- 26214 sp are 0.4pt, 163840 sp are 2.5pt, and 1fil is 1pt of stretch of that order
abbrev pub glue_param_start : GlueParam → Glue
glue_param_start BaselineSkip = finite (points 12) (points 0) (points 0)
glue_param_start LineSkip = finite (points 1) (points 0) (points 0)
glue_param_start ParSkip = finite (points 0) (points 1) (points 0)
glue_param_start TopSkip = finite (points 10) (points 0) (points 0)
glue_param_start LeftSkip = zero_glue
glue_param_start RightSkip = zero_glue
glue_param_start ParFillSkip = record (finite (points 0) (points 1) (points 0)) { stretch_order = Fil }
glue_param_start KanjiSkip = finite (points 0) (sp (pos 26214)) (sp (pos 26214))
glue_param_start XKanjiSkip = finite (sp (pos 163840)) (points 1) (points 1)
