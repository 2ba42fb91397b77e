-- What an environment keeps for expansion, and what expansions leave.
use Rattle.std.specs.Prelude.{◌-◌, ◌<◌, List, length, take}
use Rattle.ts_outside.specs.States.{FilesState}
use Rattle.tok_lists.specs.declared.spelling.Spelling.{Spelling}
use Rattle.tok_lists.specs.declared.token.Token.{Token}
use Rattle.tok_lists.specs.Names.{Grew, IsHeld, AreHeld, HasNoParam}
use Rattle.env_groups.specs.declared.meaning.MacroDef.{MacroDef}
use Rattle.env_groups.specs.declared.meaning.Meaning.{Meaning}
use Rattle.env_groups.specs.declared.meaning.Meaning.TheVariants as meanings
use Rattle.env_groups.specs.Environments.{Nest}
use Rattle.env_groups.specs.Laws.{HaveValues}
use Rattle.mouth.specs.Keeping.{MouthView, numbers, AreOpen, AreTold, LeavesOthers}
use Rattle.macros.specs.Borders.{AreNoBraces}
use Rattle.scan_syntax.specs.declared.want.Value.{Value}
use Rattle.scan_syntax.specs.declared.want.Value.TheVariants as values
use Rattle.expander.specs.Conditionals.{relax}

-- Names hold the tokens of a macro, and no brace stands in its parameter text but as the last token.
pub record IsCallable (names : List Spelling) (definition : MacroDef) : Type 0 where
  pub params : AreHeld names definition.params
  pub body : AreHeld names definition.body
  pub plain : AreNoBraces (take (length definition.params - 1) definition.params)

abbrev pub IsFit : List Spelling → Meaning → Type 0
IsFit names (meanings.Macro definition) = IsCallable names definition
IsFit names (meanings.Letter token) = IsHeld names token
IsFit names _ = Unit {0}

-- a list without parameters whose names are held, as token registers have
abbrev pub IsPlainList : List Spelling → List Token → Type 0
IsPlainList names list = HasNoParam list × AreHeld names list

-- A list of tokens that a scan found is such a list.
abbrev pub IsListed : (List Token → Type 0) → Value → Type 0
IsListed T (values.Integer n) = Unit {0}
IsListed T (values.Dimen d) = Unit {0}
IsListed T (values.Glue g) = Unit {0}
IsListed T (values.Toks list) = T list
IsListed T values.Equals = Unit {0}
IsListed T (values.BoxSize size) = Unit {0}
IsListed T (values.Keyword there) = Unit {0}
IsListed T (values.FileName name) = Unit {0}

-- \relax has a number.
abbrev pub HaveRelax : List Spelling → Type 0
HaveRelax names = relax < length names

-- Names hold all tokens of the environments, whose macros can be called.
unfoldable pub AreFit : List Spelling → Nest → Type 0
AreFit names nest = HaveRelax names × HaveValues (IsFit names) (IsPlainList names) (λ _. Unit {0}) nest.environments

-- What a call that expands leaves: its files are open and stay told, those of others stay, and names came at most.
pub record Goes (old : MouthView) (before : FilesState) (new : MouthView) (after : FilesState) : Type 0 where
  pub opened : AreOpen new after
  pub told : AreTold old before → AreTold new after
  pub others : LeavesOthers (numbers old) before (numbers new) after
  pub names : Grew old.names new.names
