-- The primitives that are internal quantities (The TeXbook, chapter 24; pTeX). The switches of spacing are none.
use Rattle.env_groups.specs.declared.prim.PrimitiveName.{PrimitiveName}
use Rattle.env_groups.specs.declared.prim.PrimitiveName.TheVariants as prims
use Rattle.env_groups.specs.declared.parameter.IntParam.TheVariants as ints
use Rattle.env_groups.specs.declared.parameter.DimParam.TheVariants as dims
use Rattle.env_groups.specs.declared.parameter.GlueParam.TheVariants as glues
use Rattle.box_tree.specs.declared.node.Side.TheVariants.{Wd, Ht, Dp}
use Rattle.scan_numbers.specs.declared.quantity.Register.TheVariants as registers
use Rattle.scan_numbers.specs.declared.quantity.CodeKind.TheVariants as kinds
use Rattle.scan_numbers.specs.declared.primitive.Place.{Place}
use Rattle.scan_numbers.specs.declared.primitive.Place.TheVariants.{Int, Dim, Glue, Register, Nothing}

abbrev pub named_register : PrimitiveName → Place
named_register prims.Count = Register registers.Count
named_register prims.Dimen = Register registers.Dimen
named_register prims.Skip = Register registers.Skip
named_register prims.Wd = Register (registers.Measure Wd)
named_register prims.Ht = Register (registers.Measure Ht)
named_register prims.Dp = Register (registers.Measure Dp)
named_register prims.CatCode = Register (registers.Code kinds.Cat)
named_register prims.KCatCode = Register (registers.Code kinds.Kcat)
named_register prims.XspCode = Register (registers.Code kinds.Xsp)
named_register prims.InhibitXspCode = Register (registers.Code kinds.InhibitXsp)
named_register prims.PreBreakPenalty = Register (registers.Code kinds.Pre)
named_register prims.PostBreakPenalty = Register (registers.Code kinds.Post)
named_register _ = Nothing

abbrev pub named_glue : PrimitiveName → Place
named_glue prims.BaselineSkip = Glue glues.BaselineSkip
named_glue prims.LineSkip = Glue glues.LineSkip
named_glue prims.ParSkip = Glue glues.ParSkip
named_glue prims.TopSkip = Glue glues.TopSkip
named_glue prims.LeftSkip = Glue glues.LeftSkip
named_glue prims.RightSkip = Glue glues.RightSkip
named_glue prims.ParFillSkip = Glue glues.ParFillSkip
named_glue prims.KanjiSkip = Glue glues.KanjiSkip
named_glue prims.XKanjiSkip = Glue glues.XKanjiSkip
named_glue prim = named_register prim

abbrev pub named_dim : PrimitiveName → Place
named_dim prims.HSize = Dim dims.HSize
named_dim prims.VSize = Dim dims.VSize
named_dim prims.ParIndent = Dim dims.ParIndent
named_dim prims.MaxDepth = Dim dims.MaxDepth
named_dim prims.BoxMaxDepth = Dim dims.BoxMaxDepth
named_dim prims.LineSkipLimit = Dim dims.LineSkipLimit
named_dim prims.EmergencyStretch = Dim dims.EmergencyStretch
named_dim prims.TBaselineShift = Dim dims.TBaselineShift
named_dim prims.YBaselineShift = Dim dims.YBaselineShift
named_dim prim = named_glue prim

abbrev pub named_int : PrimitiveName → Place
named_int prims.Pretolerance = Int ints.Pretolerance
named_int prims.Tolerance = Int ints.Tolerance
named_int prims.LinePenalty = Int ints.LinePenalty
named_int prims.AdjDemerits = Int ints.AdjDemerits
named_int prims.InterlinePenalty = Int ints.InterlinePenalty
named_int prims.ClubPenalty = Int ints.ClubPenalty
named_int prims.WidowPenalty = Int ints.WidowPenalty
named_int prims.JcharWidowPenalty = Int ints.JcharWidowPenalty
named_int prims.OutputPenalty = Int ints.OutputPenalty
named_int prims.DeadCycles = Int ints.DeadCycles
named_int prim = named_dim prim

-- where a primitive finds what it holds
unfoldable pub place_of : PrimitiveName → Place
place_of prim = named_int prim
