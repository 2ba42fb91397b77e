-- What names mean at the start: each of the names that then have a meaning is a primitive, in the order of the numbers of
-- these names (The TeXbook, chapters 20, 24 and 25; pTeX).
use Rattle.std.specs.Prelude.{ℕ, List, [], ◌∷◌, ◌++◌, Option, Some, None, slice_get}
use Rattle.env_groups.specs.declared.prim.PrimitiveName.{PrimitiveName}
use Rattle.env_groups.specs.declared.prim.PrimitiveName.TheVariants.{ExpandAfter, NoExpand, CsName, String, Number, RomanNumeral, The, Input, EndInput, Jis, Euc, Sjis, Kuten, Else, Or, Fi, If, IfCat, IfX, IfNum, IfDim, IfOdd, IfVMode, IfHMode, IfInner, IfVoid, IfHBox, IfVBox, IfCase, IfTrue, IfFalse, IfYDir, IfTDir, IfDDir, Def, EDef, GDef, XDef, Let, CharDef, CountDef, DimenDef, SkipDef, ToksDef, Font, Count, Dimen, Skip, Toks, Advance, Multiply, Divide, SetBox, Wd, Ht, Dp, CatCode, KCatCode, XspCode, InhibitXspCode, PreBreakPenalty, PostBreakPenalty, AutoSpacing, NoAutoSpacing, AutoXspacing, NoAutoXspacing, DeadCycles, Global, Long, Relax, BeginGroup, EndGroup, Par, Indent, NoIndent, Char, ControlSpace, IgnoreSpaces, HSkip, HFil, HFill, HSs, HFilNeg, VSkip, VFil, VFill, VSs, VFilNeg, Kern, Penalty, HRule, VRule, HBox, VBox, VTop, Box, Copy, UnVBox, UnVCopy, Raise, Lower, MoveLeft, MoveRight, ShipOut, Yoko, Tate, Dtou, InhibitGlue, EndCsName, End, Pretolerance, Tolerance, LinePenalty, AdjDemerits, InterlinePenalty, ClubPenalty, WidowPenalty, JcharWidowPenalty, OutputPenalty, HSize, VSize, ParIndent, MaxDepth, BoxMaxDepth, LineSkipLimit, EmergencyStretch, TBaselineShift, YBaselineShift, BaselineSkip, LineSkip, ParSkip, TopSkip, LeftSkip, RightSkip, ParFillSkip, KanjiSkip, XKanjiSkip, Output}
use Rattle.env_groups.specs.declared.meaning.Meaning.{Meaning}
use Rattle.env_groups.specs.declared.meaning.Meaning.TheVariants.{Undefined, Primitive}

-- what is expanded
abbrev pub expandable_prims : List PrimitiveName
expandable_prims =
    ExpandAfter ∷ NoExpand ∷ CsName ∷ String ∷ Number ∷ RomanNumeral ∷ The ∷ Input ∷ EndInput ∷
    Jis ∷ Euc ∷ Sjis ∷ Kuten ∷ Else ∷ Or ∷ Fi ∷ If ∷ IfCat ∷ IfX ∷ IfNum ∷ IfDim ∷ IfOdd ∷
    IfVMode ∷ IfHMode ∷ IfInner ∷ IfVoid ∷ IfHBox ∷ IfVBox ∷ IfCase ∷ IfTrue ∷ IfFalse ∷ IfYDir ∷
    IfTDir ∷ IfDDir ∷ []

-- what assigns, and the prefixes
abbrev pub assignment_prims : List PrimitiveName
assignment_prims =
    Def ∷ EDef ∷ GDef ∷ XDef ∷ Let ∷ CharDef ∷ CountDef ∷ DimenDef ∷ SkipDef ∷ ToksDef ∷ Font ∷
    Count ∷ Dimen ∷ Skip ∷ Toks ∷ Advance ∷ Multiply ∷ Divide ∷ SetBox ∷ Wd ∷ Ht ∷ Dp ∷ CatCode ∷
    KCatCode ∷ XspCode ∷ InhibitXspCode ∷ PreBreakPenalty ∷ PostBreakPenalty ∷ AutoSpacing ∷
    NoAutoSpacing ∷ AutoXspacing ∷ NoAutoXspacing ∷ DeadCycles ∷ Global ∷ Long ∷ []

-- what builds lists and boxes
abbrev pub list_prims : List PrimitiveName
list_prims =
    Relax ∷ BeginGroup ∷ EndGroup ∷ Par ∷ Indent ∷ NoIndent ∷ Char ∷ ControlSpace ∷
    IgnoreSpaces ∷ HSkip ∷ HFil ∷ HFill ∷ HSs ∷ HFilNeg ∷ VSkip ∷ VFil ∷ VFill ∷ VSs ∷ VFilNeg ∷
    Kern ∷ Penalty ∷ HRule ∷ VRule ∷ HBox ∷ VBox ∷ VTop ∷ Box ∷ Copy ∷ UnVBox ∷ UnVCopy ∷ Raise ∷
    Lower ∷ MoveLeft ∷ MoveRight ∷ ShipOut ∷ Yoko ∷ Tate ∷ Dtou ∷ InhibitGlue ∷ EndCsName ∷ End ∷ []

-- parameters: integers, dimensions, glue, and the output list
abbrev pub parameter_prims : List PrimitiveName
parameter_prims =
    Pretolerance ∷ Tolerance ∷ LinePenalty ∷ AdjDemerits ∷ InterlinePenalty ∷ ClubPenalty ∷
    WidowPenalty ∷ JcharWidowPenalty ∷ OutputPenalty ∷ HSize ∷ VSize ∷ ParIndent ∷ MaxDepth ∷
    BoxMaxDepth ∷ LineSkipLimit ∷ EmergencyStretch ∷ TBaselineShift ∷ YBaselineShift ∷
    BaselineSkip ∷ LineSkip ∷ ParSkip ∷ TopSkip ∷ LeftSkip ∷ RightSkip ∷ ParFillSkip ∷
    KanjiSkip ∷ XKanjiSkip ∷ Output ∷ []

abbrev pub start_prims : List PrimitiveName
start_prims = expandable_prims ++ assignment_prims ++ list_prims ++ parameter_prims

abbrev pub primitive_or_none : Option PrimitiveName → Meaning
primitive_or_none (Some prim) = Primitive prim
primitive_or_none None = Undefined

-- the meaning of the name of a number
abbrev pub start_meaning : ℕ → Meaning
start_meaning name = primitive_or_none (slice_get start_prims name)
