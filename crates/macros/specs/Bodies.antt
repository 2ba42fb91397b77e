-- The body of a definition (The TeXbook, chapter 20; TeX: The Program, sections 477 and 479): up to the } of its {, with #
-- before the number of a parameter that exists or before another #.
use Rattle.std.specs.Prelude.{◌≡◌, ◌≤◌, ℕ, ◌+◌, ◌-◌, ◌==◌, ◌&&◌, nat_le, Bool, true, false, if◌then◌else◌, List, [], ◌∷◌, ◌++◌, Option, Some, None, Result, Ok, Err}
use Rattle.tok_lists.specs.declared.spelling.Spelling.{Spelling}
use Rattle.tok_lists.specs.declared.token.Token.{Token}
use Rattle.tok_lists.specs.declared.token.Token.TheVariants.{Char, Ja, Name, Kept, Param}
use Rattle.tok_lists.specs.Names.{AreHeld}
use Rattle.tok_lists.specs.Pending.{AreParamsWithin}
use Rattle.env_groups.specs.Environments.{Nest}
use Rattle.raw_texts.specs.declared.fault.MacroFault.{MacroFault}
use Rattle.raw_texts.specs.declared.fault.MacroFault.TheVariants.{BadParameter}
use Rattle.raw_texts.specs.declared.machine.Progress.{Progress}
use Rattle.raw_texts.specs.declared.machine.Progress.TheVariants.{On, Done}
use Rattle.raw_texts.specs.declared.token.Brace.{Brace}
use Rattle.raw_texts.specs.declared.token.Brace.TheVariants.{Begin, End, Neither}
use Rattle.raw_texts.specs.Kinds.{brace_of, is_category}
use Rattle.macros.specs.declared.heading.Heading.{Heading}
use Rattle.macros.specs.Headings.{IsHeading}
use Rattle.macros.specs.declared.body.Body.{Body}

abbrev Answer : Type 0
Answer = Result (Progress × Body) MacroFault

-- The token is a digit of category 12 of a parameter among so many.
abbrev pub is_number : ℕ → Token → Bool
is_number count (Char code cat) = (cat == 12) && (nat_le 49 code && nat_le code (48 + count))
is_number count (Ja cell) = false
is_number count (Name name) = false
is_number count (Kept name) = false
is_number count (Param n) = false

-- the number of a digit
abbrev pub number_of : Token → ℕ
number_of (Char code cat) = code - 48
number_of (Ja cell) = 0
number_of (Name name) = 0
number_of (Kept name) = 0
number_of (Param n) = 0

-- the number of a parameter among so many, where a token is its digit
abbrev pub Numbers : ℕ → Token → Option ℕ → Type 0
Numbers count token None = is_number count token ≡ false
Numbers count token (Some n) = (is_number count token ≡ true) × (n ≡ number_of token) × (1 ≤ n) × (n ≤ count)

-- a token of the body, with so many groups open in it after that
abbrev pub kept : Body → Token → ℕ → Answer
kept b token level = Ok (On, record { heading = b.heading; tokens = b.tokens ++ token ∷ []; level = level; hash = false })

abbrev pub after_hash : Body → Answer
after_hash b = Ok (On, record { heading = b.heading; tokens = b.tokens; level = b.level; hash = true })

-- a token that is no brace
abbrev pub plain : Body → Token → Answer
plain b token = if is_category 6 token then after_hash b else kept b token b.level

-- A } ends a group in the body, or the body itself.
abbrev pub ended : Body → Token → Answer
ended b token = if b.level == 0 then Ok (Done, b) else kept b token (b.level - 1)

abbrev pub taken : Body → Token → Brace → Answer
taken b token Begin = kept b token (b.level + 1)
taken b token End = ended b token
taken b token Neither = plain b token

-- what a # makes of a token
abbrev pub hashed : Body → Token → Answer
hashed b token =
    if is_category 6 token then kept b token b.level
    else (if is_number b.heading.count token then kept b (Param (number_of token)) b.level
    else Err BadParameter)

abbrev pub step : Nest → Body → Token → Answer
step nest b token = if b.hash then hashed b token else taken b token (brace_of token)

-- the body with tokens that are stored as they are
abbrev pub stored : Body → List Token → Body
stored b list = record { heading = b.heading; tokens = b.tokens ++ list; level = b.level; hash = b.hash }

-- a body of which no token was taken, after its parameter text
abbrev pub empty : Heading → Body
empty h = record { heading = h; tokens = []; level = 0; hash = false }

-- ---- what is true of it at all times

-- Its names are held, and each of its parameters exists.
pub record IsBody (names : List Spelling) (b : Body) : Type 0 where
  pub text : IsHeading names b.heading
  pub held : AreHeld names b.tokens
  pub within : AreParamsWithin b.heading.count b.tokens
