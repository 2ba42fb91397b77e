-- A macro call (The TeXbook, chapter 20; TeX: The Program, sections 389 to 401): its parameter text is met token by token,
-- and each parameter gets its argument.
use Rattle.std.specs.Prelude.{if◌then◌else◌, Bool, true, false, List, [], ◌∷◌, Result, Ok, Err}
use Rattle.ts_base.specs.Agreement.{◌>>=◌}
use Rattle.tok_lists.specs.declared.spelling.Spelling.{Spelling}
use Rattle.tok_lists.specs.Pending.{AllHeld, HaveNoParam}
use Rattle.tok_lists.specs.declared.token.Token.{Token}
use Rattle.tok_lists.specs.declared.token.Token.TheVariants as tokens
use Rattle.env_groups.specs.declared.meaning.MacroDef.{MacroDef}
use Rattle.env_groups.specs.Environments.{Nest}
use Rattle.mouth.specs.Changes.{entered, left}
use Rattle.mouth.specs.Reading.{Reading, Stop}
use Rattle.raw_texts.specs.declared.fault.MacroFault.{MacroFault}
use Rattle.raw_texts.specs.declared.fault.MacroFault.TheVariants.{UseMismatch}
use Rattle.raw_texts.specs.declared.machine.Progress.{Progress}
use Rattle.raw_texts.specs.declared.machine.Progress.TheVariants.{On, Done}
use Rattle.raw_texts.specs.Runs.{run}
use Rattle.macros.specs.Same.{is_same}
use Rattle.macros.specs.Undelimited.{undelimited}
use Rattle.macros.specs.Delimited.{delimited}

-- ---- the tokens before the first parameter

-- It is done where nothing is left to be met.
abbrev pub progress_at : List Token → Progress
progress_at [] = Done
progress_at (token ∷ left) = On

-- A token is the first of those that are left to be met, or the call doesn't match.
abbrev pub prefix_step : Nest → List Token → Token → Result (Progress × List Token) MacroFault
prefix_step nest [] token = Ok (Done, [])
prefix_step nest (wanted ∷ left) token = if is_same token wanted then Ok (progress_at left, left) else Err UseMismatch

-- what is read after the tokens of a prefix
abbrev pub met : Nest → List Token → Reading → Result Reading (Stop MacroFault)
met nest [] r = Ok r
met nest (token ∷ prefix) r = run nest prefix_step (token ∷ prefix) r >>= λ p. Ok p.1

-- ---- the parts of a parameter text

-- The tokens before the first parameter, and the delimiter of each parameter: the tokens after it, up to the next.
pub record Parts : Type 0 where
  pub prefix : List Token
  pub delimiters : List (List Token)

-- a token before the others
abbrev pub with_token : Token → Parts → Parts
with_token token parts = record { prefix = token ∷ parts.prefix; delimiters = parts.delimiters }

-- a parameter before the others
abbrev pub with_param : Parts → Parts
with_param parts = record { prefix = []; delimiters = parts.prefix ∷ parts.delimiters }

abbrev pub parts : List Token → Parts
parts [] = record { prefix = []; delimiters = [] }
parts (tokens.Char code cat ∷ params) = with_token (tokens.Char code cat) (parts params)
parts (tokens.Ja cell ∷ params) = with_token (tokens.Ja cell) (parts params)
parts (tokens.Name name ∷ params) = with_token (tokens.Name name) (parts params)
parts (tokens.Kept name ∷ params) = with_token (tokens.Kept name) (parts params)
parts (tokens.Param n ∷ params) = with_param (parts params)

-- a parameter
abbrev pub is_param : Token → Bool
is_param (tokens.Char code cat) = false
is_param (tokens.Ja cell) = false
is_param (tokens.Name name) = false
is_param (tokens.Kept name) = false
is_param (tokens.Param n) = true

-- ---- the call

-- An argument is undelimited where the delimiter has no token.
abbrev pub argument_of : Nest → Bool → List Token → Reading → Result (List Token × Reading) (Stop MacroFault)
argument_of nest long [] r = undelimited nest long r
argument_of nest long (token ∷ delimiter) r = delimited nest long (token ∷ delimiter) r

-- the arguments before these delimiters
abbrev pub arguments_of : Nest → Bool → List (List Token) → Reading → Result (List (List Token) × Reading) (Stop MacroFault)
arguments_of nest long [] r = Ok ([], r)
arguments_of nest long (delimiter ∷ delimiters) r =
    argument_of nest long delimiter r >>= λ a. arguments_of nest long delimiters a.1 >>= λ b. Ok (a.0 ∷ b.0, b.1)

-- The arguments of a call whose name was taken, and what is read after it. No file may end in it.
unfoldable pub call : Nest → MacroDef → Reading → Result (List (List Token) × Reading) (Stop MacroFault)
call nest definition r =
    met nest (parts definition.params).prefix (entered r)
    >>= λ r. arguments_of nest definition.long (parts definition.params).delimiters r >>= λ a. Ok (a.0, left a.1)

-- Arguments are of tokens as the mouth gives them.
pub record AreArguments (names : List Spelling) (args : List (List Token)) : Type 0 where
  pub held : AllHeld names args
  pub no_param : HaveNoParam args
