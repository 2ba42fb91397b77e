-- What the primitives do that are expanded.
use Rattle.std.specs.Prelude.{Bool, true, false}
use Rattle.tok_lists.specs.declared.token.Token.{Token}
use Rattle.tok_lists.specs.declared.token.Token.TheVariants as tokens
use Rattle.env_groups.specs.declared.prim.PrimitiveName.{PrimitiveName}
use Rattle.env_groups.specs.declared.prim.PrimitiveName.TheVariants as prims
use Rattle.env_groups.specs.declared.meaning.Meaning.{Meaning}
use Rattle.env_groups.specs.declared.meaning.Meaning.TheVariants as meanings
use Rattle.env_groups.specs.Environments.{Nest, meaning_at}
use Rattle.raw_texts.specs.declared.limb.Limb.TheVariants as limbs
use Rattle.env_groups.specs.Macros.{IsMacro}
use Rattle.expander.specs.declared.action.Front.{Front}
use Rattle.expander.specs.declared.action.Front.TheVariants as fronts
use Rattle.expander.specs.declared.action.Action.{Action}
use Rattle.expander.specs.declared.action.Action.TheVariants as actions
use Rattle.expander.specs.declared.action.Question.TheVariants as questions
use Rattle.expander.specs.declared.action.Further.TheVariants as furthers
use Rattle.expander.specs.declared.action.NumberTest.TheVariants as tests
use Rattle.expander.specs.declared.action.BoxTest.TheVariants as boxes
use Rattle.expander.specs.declared.action.Aspect.TheVariants as aspects
use Rattle.expander.specs.declared.action.CharNumber.TheVariants as numbers
use Rattle.expander.specs.declared.action.Printing.TheVariants as printings

-- A primitive that stands in no line here isn't expanded.
abbrev pub action_of : PrimitiveName → Action
action_of prims.ExpandAfter = actions.Further furthers.ExpandAfter
action_of prims.NoExpand = actions.NoExpand
action_of prims.String = actions.String
action_of prims.EndInput = actions.EndInput
action_of prims.Else = actions.Ends limbs.Else
action_of prims.Or = actions.Ends limbs.Or
action_of prims.Fi = actions.Ends limbs.Fi
action_of prims.IfX = actions.IfX
action_of prims.IfTrue = actions.Asks questions.True
action_of prims.IfFalse = actions.Asks questions.False
action_of prims.IfVMode = actions.Asks questions.VMode
action_of prims.IfHMode = actions.Asks questions.HMode
action_of prims.IfInner = actions.Asks questions.Inner
action_of prims.IfYDir = actions.Asks questions.YDir
action_of prims.IfTDir = actions.Asks questions.TDir
action_of prims.IfDDir = actions.Asks questions.DDir
action_of prims.CsName = actions.Further furthers.CsName
action_of prims.Number = actions.Further (furthers.Prints printings.Number)
action_of prims.RomanNumeral = actions.Further (furthers.Prints printings.RomanNumeral)
action_of prims.The = actions.Further (furthers.Prints printings.The)
action_of prims.Input = actions.Further furthers.Input
action_of prims.Jis = actions.Further (furthers.Prints (printings.Code numbers.Jis))
action_of prims.Euc = actions.Further (furthers.Prints (printings.Code numbers.Euc))
action_of prims.Sjis = actions.Further (furthers.Prints (printings.Code numbers.Sjis))
action_of prims.Kuten = actions.Further (furthers.Prints (printings.Code numbers.Kuten))
action_of prims.If = actions.Further (furthers.Compares aspects.Code)
action_of prims.IfCat = actions.Further (furthers.Compares aspects.Category)
action_of prims.IfNum = actions.Further furthers.IfNum
action_of prims.IfDim = actions.Further furthers.IfDim
action_of prims.IfOdd = actions.Further (furthers.Tests tests.Odd)
action_of prims.IfVoid = actions.Further (furthers.Tests (tests.Register boxes.Void))
action_of prims.IfHBox = actions.Further (furthers.Tests (tests.Register boxes.HBox))
action_of prims.IfVBox = actions.Further (furthers.Tests (tests.Register boxes.VBox))
action_of prims.IfCase = actions.Further (furthers.Tests tests.Case)
action_of _ = actions.Unexpandable

-- ---- what a token comes to

abbrev pub front_as : Meaning → Front
front_as meanings.Undefined = fronts.Undefined
front_as (meanings.Primitive prim) = fronts.Acts (action_of prim)
front_as (meanings.Macro definition) = fronts.Call definition
front_as _ = fronts.Acts actions.Unexpandable

-- what a token is that stands at the front; a Kept token isn't expanded
abbrev pub front_of : Nest → Token → Front
front_of nest (tokens.Name name) = front_as (meaning_at nest name.0)
front_of nest _ = fronts.Acts actions.Unexpandable

abbrev pub is_expanded : Action → Bool
is_expanded actions.Unexpandable = false
is_expanded _ = true

abbrev pub is_expandable : Front → Bool
is_expandable fronts.Undefined = true
is_expandable (fronts.Call definition) = true
is_expandable (fronts.Acts action) = is_expanded action

-- An undefined name, a macro and a primitive that is expanded are expandable.
abbrev pub expands : Nest → Token → Bool
expands nest token = is_expandable (front_of nest token)

abbrev pub IsSound : Front → Type 0
IsSound fronts.Undefined = Unit {0}
IsSound (fronts.Call definition) = IsMacro definition
IsSound (fronts.Acts action) = Unit {0}
