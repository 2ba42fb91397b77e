-- What is found in a line, by the places of its characters.
use Rattle.std.specs.Prelude.{ℕ, ◌-◌, ◌≤◌, List, [], take, drop, Option, Some, None}
use Rattle.jis_codes.specs.declared.character.Char.{Char}
use Rattle.tok_lists.specs.declared.token.Token.{Token}
use Rattle.tok_lists.specs.declared.token.Token.TheVariants as tokens
use Rattle.kcat_eyes.specs.declared.find.Find.{Find}
use Rattle.kcat_eyes.specs.declared.find.Find.TheVariants as finds
use Rattle.kcat_eyes.specs.declared.state.State.TheVariants.{NewLine}
use Rattle.kcat_eyes.specs.Eyes.{Glance, Gives, Spells, Invalid, Nothing, par}

-- what a find in a line says
abbrev pub glance_of : List Char → Find → Glance
glance_of line (finds.Token token state at) = Gives token state (drop at line)
glance_of line (finds.Name active from to state) = Spells (record { active = active; chars = take (to - from) (drop from line) }) state (drop to line)
glance_of line finds.Paragraph = Spells par NewLine []
glance_of line finds.Invalid = Invalid
glance_of line finds.Nothing = Nothing

-- a find, or what stands after where a character is skipped
abbrev pub or_skipped : List Char → Option Find → Glance → Glance
or_skipped line None skipped = skipped
or_skipped line (Some find) skipped = glance_of line find

abbrev pub IsCharacter : Token → Type 0
IsCharacter (tokens.Char code cat) = Unit {0}
IsCharacter (tokens.Ja cell) = Unit {0}
IsCharacter (tokens.Name name) = ⊥
IsCharacter (tokens.Kept name) = ⊥
IsCharacter (tokens.Param n) = ⊥

-- The places of a find are at a place or after it, and within a line of so many characters; its token is a character.
abbrev pub IsInLine : ℕ → ℕ → Find → Type 0
IsInLine least n (finds.Token token state at) = (least ≤ at) × (at ≤ n) × IsCharacter token
IsInLine least n (finds.Name active from to state) = (from ≤ to) × (least ≤ to) × (to ≤ n)
IsInLine least n finds.Paragraph = least ≤ n
IsInLine least n finds.Invalid = Unit {0}
IsInLine least n finds.Nothing = Unit {0}
