-- What opens, divides and closes conditionals (The TeXbook, chapter 20).
use Rattle.tok_lists.specs.declared.token.Token.{Token}
use Rattle.tok_lists.specs.declared.token.Token.TheVariants as tokens
use Rattle.env_groups.specs.declared.prim.PrimitiveName.{PrimitiveName}
use Rattle.env_groups.specs.declared.prim.PrimitiveName.TheVariants as prims
use Rattle.env_groups.specs.declared.meaning.Meaning.{Meaning}
use Rattle.env_groups.specs.declared.meaning.Meaning.TheVariants as meanings
use Rattle.env_groups.specs.Environments.{Nest, meaning_at}
use Rattle.raw_texts.specs.declared.limb.Limb.{Limb}
use Rattle.raw_texts.specs.declared.limb.Limb.TheVariants.{If, Or, Else, Fi, Other}

abbrev pub limb_of_prim : PrimitiveName → Limb
limb_of_prim prims.Fi = Fi
limb_of_prim prims.Else = Else
limb_of_prim prims.Or = Or
limb_of_prim prims.If = If
limb_of_prim prims.IfCat = If
limb_of_prim prims.IfX = If
limb_of_prim prims.IfNum = If
limb_of_prim prims.IfDim = If
limb_of_prim prims.IfOdd = If
limb_of_prim prims.IfVMode = If
limb_of_prim prims.IfHMode = If
limb_of_prim prims.IfInner = If
limb_of_prim prims.IfVoid = If
limb_of_prim prims.IfHBox = If
limb_of_prim prims.IfVBox = If
limb_of_prim prims.IfCase = If
limb_of_prim prims.IfTrue = If
limb_of_prim prims.IfFalse = If
limb_of_prim prims.IfYDir = If
limb_of_prim prims.IfTDir = If
limb_of_prim prims.IfDDir = If
limb_of_prim _ = Other

abbrev pub limb_of_meaning : Meaning → Limb
limb_of_meaning (meanings.Primitive prim) = limb_of_prim prim
limb_of_meaning _ = Other

-- what a token is to a conditional, by what its name means
abbrev pub limb_of : Nest → Token → Limb
limb_of nest (tokens.Name name) = limb_of_meaning (meaning_at nest name.0)
limb_of nest _ = Other
