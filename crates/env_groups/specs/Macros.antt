-- Which macros and meanings names may have.
use Rattle.std.specs.Prelude.{◌≡◌, ℕ, ◌+◌, ◌≤◌, ◌<◌, List, [], ◌∷◌}
use Rattle.tok_lists.specs.declared.token.Token.{Token}
use Rattle.tok_lists.specs.declared.token.Token.TheVariants as tokens
use Rattle.tok_lists.specs.Pending.{AreParamsWithin}
use Rattle.box_tree.specs.declared.item.FontNo.{FontNo}
use Rattle.env_groups.specs.declared.meaning.MacroDef.{MacroDef}
use Rattle.env_groups.specs.declared.meaning.Meaning.{Meaning}
use Rattle.env_groups.specs.declared.meaning.Meaning.TheVariants.{Undefined, Primitive, Macro, Letter, Code, Count, Dimen, Skip, Toks, Font}

-- how many parameters stand in a list
abbrev pub param_count : List Token → ℕ
param_count [] = 0
param_count (tokens.Char code cat ∷ list) = param_count list
param_count (tokens.Ja cell ∷ list) = param_count list
param_count (tokens.Name name ∷ list) = param_count list
param_count (tokens.Kept name ∷ list) = param_count list
param_count (tokens.Param n ∷ list) = 1 + param_count list

-- The parameters of a list have the numbers from this one on, in order.
abbrev pub AreNumberedFrom : ℕ → List Token → Type 0
AreNumberedFrom next [] = Unit {0}
AreNumberedFrom next (tokens.Char code cat ∷ list) = AreNumberedFrom next list
AreNumberedFrom next (tokens.Ja cell ∷ list) = AreNumberedFrom next list
AreNumberedFrom next (tokens.Name name ∷ list) = AreNumberedFrom next list
AreNumberedFrom next (tokens.Kept name ∷ list) = AreNumberedFrom next list
AreNumberedFrom next (tokens.Param n ∷ list) = (n ≡ next) × AreNumberedFrom (next + 1) list

-- A macro's parameter text has the parameters from 1 on in order, at most 9, and its body no other (The TeXbook, chapter 20).
pub record IsMacro (m : MacroDef) : Type 0 where
  pub numbered : AreNumberedFrom 1 m.params
  pub few : param_count m.params ≤ 9
  pub body : AreParamsWithin (param_count m.params) m.body

-- The font is one of the first so many.
abbrev pub IsAdded : ℕ → FontNo → Type 0
IsAdded fonts font = font.0 < fonts

-- A meaning is that of a macro as it should be, or of a font that was added, or any other.
abbrev pub IsMeaning : ℕ → Meaning → Type 0
IsMeaning fonts Undefined = Unit {0}
IsMeaning fonts (Primitive prim) = Unit {0}
IsMeaning fonts (Macro m) = IsMacro m
IsMeaning fonts (Letter token) = Unit {0}
IsMeaning fonts (Code code) = Unit {0}
IsMeaning fonts (Count n) = Unit {0}
IsMeaning fonts (Dimen n) = Unit {0}
IsMeaning fonts (Skip n) = Unit {0}
IsMeaning fonts (Toks n) = Unit {0}
IsMeaning fonts (Font font) = IsAdded fonts font
