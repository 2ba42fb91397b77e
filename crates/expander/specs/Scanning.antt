-- Scans of what expansion gives (The TeXbook, chapter 24).
use Rattle.std.specs.Prelude.{Bool, true, false, List, map, Ok}
use Rattle.ts_base.specs.Agreement.{◌>>=◌}
use Rattle.tok_lists.specs.declared.token.Token.{Token}
use Rattle.env_groups.specs.Environments.{Nest}
use Rattle.mouth.specs.Reading.{Reading}
use Rattle.scan_numbers.specs.Contexts.{around}
use Rattle.scan_numbers.specs.Tokens.{FedToken, fed}
use Rattle.scan_numbers.specs.Answers.{Form, Expanded, Raw}
use Rattle.expander.specs.Worlds.{World, world, Outcome, put}

-- a token, with the environment and the names with which it is fed
abbrev pub fed_in : World → Token → FedToken
fed_in w token = fed token (around w.nest w.at.names)

-- the form in which a token is fed
abbrev pub form_of : Bool → Form
form_of true = Raw
form_of false = Expanded

-- tokens that a scan leaves
abbrev pub left_over : List FedToken → List Token
left_over list = map (λ (x : FedToken). x.token) list

-- What is left is put back, in its order, and what was found is given.
abbrev pub given_back : {A : Type 0} → A → List Token → Nest → Reading → Outcome (A × World)
given_back value list nest r = put list r >>= λ at. Ok (value, world at nest)
