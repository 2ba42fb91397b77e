-- The optional `=` of assignments (The TeXbook, chapter 24, ⟨equals⟩), after spaces that are lost.
use Rattle.std.specs.Prelude.{◌==◌, ◌&&◌, Bool, true, false, List, [], ◌∷◌, if◌then◌else◌}
use Rattle.tok_lists.specs.declared.token.Token.{Token}
use Rattle.tok_lists.specs.declared.token.Token.TheVariants as tokens
use Rattle.scan_syntax.specs.declared.want.Value.{Value}
use Rattle.scan_syntax.specs.declared.want.Value.TheVariants as values
use Rattle.scan_numbers.specs.Tokens.{FedToken, is_space}
use Rattle.scan_numbers.specs.Answers.{Answer, Got, Needs, Expanded}

-- It has category 12.
unfoldable pub is_equals : Token → Bool
is_equals (tokens.Char code cat) = (code == 61) && (cat == 12)
is_equals _ = false

abbrev pub equals_taken : Bool → FedToken → List FedToken → Answer Value
equals_taken true x rest = Got values.Equals x.context rest
equals_taken false x rest = Got values.Equals x.context (x ∷ rest)

unfoldable pub equals : List FedToken → Answer Value
equals [] = Needs Expanded
equals (x ∷ rest) = if is_space x.token x.context then equals rest else equals_taken (is_equals x.token) x rest
