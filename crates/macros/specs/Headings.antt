-- The parameter text of a definition (The TeXbook, chapter 20; TeX: The Program, sections 474 to 476): up to its {, with #1
-- to #9 in order; #{ ends it too, and its { is then a delimiter.
use Rattle.std.specs.Prelude.{◌≡◌, ◌≤◌, ℕ, ◌+◌, ◌==◌, ◌&&◌, nat_lt, Bool, true, false, if◌then◌else◌, List, [], ◌∷◌, ◌++◌, Some, None, IfSome, Result, Ok, Err}
use Rattle.tok_lists.specs.declared.spelling.Spelling.{Spelling}
use Rattle.tok_lists.specs.declared.token.Token.{Token}
use Rattle.tok_lists.specs.declared.token.Token.TheVariants.{Char, Ja, Name, Kept, Param}
use Rattle.tok_lists.specs.Names.{AreHeld}
use Rattle.env_groups.specs.Environments.{Nest}
use Rattle.env_groups.specs.Macros.{param_count, AreNumberedFrom}
use Rattle.mouth.specs.Keeping.{IsToken}
use Rattle.mouth.specs.Reading.{Reading, Stop}
use Rattle.raw_texts.specs.declared.fault.MacroFault.{MacroFault}
use Rattle.raw_texts.specs.declared.fault.MacroFault.TheVariants.{BadParameter, NoBrace}
use Rattle.raw_texts.specs.declared.machine.Progress.{Progress}
use Rattle.raw_texts.specs.declared.machine.Progress.TheVariants.{On, Done}
use Rattle.raw_texts.specs.declared.token.Brace.{Brace}
use Rattle.raw_texts.specs.declared.token.Brace.TheVariants.{Begin, End, Neither}
use Rattle.raw_texts.specs.Kinds.{brace_of, is_category}
use Rattle.raw_texts.specs.Runs.{run}
use Rattle.macros.specs.declared.heading.Heading.{Heading}
use Rattle.macros.specs.Borders.{AreNoBraces}

abbrev Answer : Type 0
Answer = Result (Progress × Heading) MacroFault

-- the digit of a number, as a character of category 12
abbrev pub is_digit : ℕ → Token → Bool
is_digit number (Char code cat) = (cat == 12) && (code == 48 + number)
is_digit number (Ja cell) = false
is_digit number (Name name) = false
is_digit number (Kept name) = false
is_digit number (Param n) = false

-- The digit is that of the next parameter, and there are fewer than nine.
abbrev pub is_next : ℕ → Token → Bool
is_next count token = nat_lt count 9 && is_digit (count + 1) token

abbrev pub kept : Heading → Token → Answer
kept h token = Ok (On, record { tokens = h.tokens ++ token ∷ []; count = h.count; hash = h.hash; brace = h.brace })

abbrev pub after_hash : Heading → Answer
after_hash h = Ok (On, record { tokens = h.tokens; count = h.count; hash = true; brace = h.brace })

abbrev pub with_next : Heading → Answer
with_next h = Ok (On, record { tokens = h.tokens ++ Param (h.count + 1) ∷ []; count = h.count + 1; hash = false; brace = h.brace })

-- It ended with #{.
abbrev pub with_brace : Heading → Token → Answer
with_brace h token = Ok (Done, record { tokens = h.tokens; count = h.count; hash = false; brace = Some token })

-- a token that is no brace
abbrev pub plain : Heading → Token → Answer
plain h token = if is_category 6 token then after_hash h else kept h token

abbrev pub taken : Heading → Token → Brace → Answer
taken h token Begin = Ok (Done, h)
taken h token End = Err NoBrace
taken h token Neither = plain h token

-- what a # makes of a token that is no {
abbrev pub numbered : Heading → Token → Answer
numbered h token = if is_next h.count token then with_next h else Err BadParameter

abbrev pub hashed : Heading → Token → Brace → Answer
hashed h token Begin = with_brace h token
hashed h token End = numbered h token
hashed h token Neither = numbered h token

abbrev pub step : Nest → Heading → Token → Answer
step nest h token = if h.hash then hashed h token (brace_of token) else taken h token (brace_of token)

abbrev pub empty : Heading
empty = record { tokens = []; count = 0; hash = false; brace = None }

-- a parameter text, and what is read after its {
unfoldable pub heading : Nest → Reading → Result (Heading × Reading) (Stop MacroFault)
heading nest r = run nest step empty r

-- ---- what is true of it at all times

abbrev pub IsBegin : List Spelling → Token → Type 0
IsBegin names token = IsToken names token × (brace_of token ≡ Begin)

-- Its names are held, its parameters are numbered in order, at most nine, and no brace stands in it but that of #{.
pub record IsHeading (names : List Spelling) (h : Heading) : Type 0 where
  pub held : AreHeld names h.tokens
  pub in_order : AreNumberedFrom 1 h.tokens
  pub counted : param_count h.tokens ≡ h.count
  pub few : h.count ≤ 9
  pub braces : AreNoBraces h.tokens
  pub last : IfSome h.brace (IsBegin names)
