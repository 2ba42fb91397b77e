-- Expansions that expand no further token: \noexpand, \string, \endinput, \else, \or, \fi, \ifx, and tests that read
-- nothing.
use Rattle.std.specs.Prelude.{ℕ, false, if◌then◌else◌, List, [], ◌∷◌, Ok, slice_get}
use Rattle.std.specs.Option.{unwrap_or}
use Rattle.ts_base.specs.Agreement.{◌>>=◌, with_fault}
use Rattle.tok_lists.specs.declared.spelling.Spelling.{Spelling}
use Rattle.tok_lists.specs.declared.token.Token.{Token}
use Rattle.tok_lists.specs.declared.token.Token.TheVariants as tokens
use Rattle.env_groups.specs.declared.meaning.MacroDef.{MacroDef}
use Rattle.env_groups.specs.Environments.{Nest}
use Rattle.mouth.specs.Reading.{Reading}
use Rattle.mouth.specs.Changes.{ending, with_call}
use Rattle.macros.specs.Calls.{call}
use Rattle.print_values.specs.Printing.{printed_byte, printed_name}
use Rattle.expander.specs.declared.action.Action.{Action}
use Rattle.expander.specs.declared.action.Action.TheVariants as actions
use Rattle.expander.specs.Faults.{of_text, of_mouth}
use Rattle.expander.specs.Worlds.{Outcome, plain_from, put, in_expansion}
use Rattle.expander.specs.Actions.{expands}
use Rattle.expander.specs.Conditionals.{limb_met}
use Rattle.expander.specs.Questions.{asked}
use Rattle.expander.specs.Comparisons.{if_x}

-- ---- macro calls

-- The body of a macro takes the place of its call, with the arguments put in (The TeXbook, chapter 20).
abbrev pub body_put : Nest → MacroDef → Reading → Outcome Reading
body_put nest definition r =
    with_fault of_text (call nest definition r) >>= λ a. with_fault of_mouth (with_call a.0 definition.body a.1)

unfoldable pub called : Nest → MacroDef → Reading → Outcome Reading
called nest definition r = in_expansion (body_put nest definition) r

-- ---- \noexpand

-- A name that would be expanded is kept, and any other token is as it is.
abbrev pub kept : Nest → Token → Token
kept nest (tokens.Name name) = if expands nest (tokens.Name name) then tokens.Kept name else tokens.Name name
kept nest token = token

abbrev pub no_expand : Nest → Reading → Outcome Reading
no_expand nest r = plain_from nest r >>= λ t. put (kept nest t.0 ∷ []) t.1

-- ---- \string

abbrev pub blank : Spelling
blank = record { active = false; chars = [] }

abbrev pub spelling_in : List Spelling → ℕ → Spelling
spelling_in names n = unwrap_or (slice_get names n) blank

-- A name is printed as it is spelt, a character without its category.
abbrev pub spelt : List Spelling → Token → List Token
spelt names (tokens.Char code cat) = printed_byte code ∷ []
spelt names (tokens.Ja cell) = tokens.Ja cell ∷ []
spelt names (tokens.Name name) = printed_name (spelling_in names name.0)
spelt names (tokens.Kept name) = printed_name (spelling_in names name.0)
spelt names (tokens.Param n) = []

abbrev pub string : Nest → Reading → Outcome Reading
string nest r = plain_from nest r >>= λ t. put (spelt t.1.names t.0) t.1

-- ---- all of them

-- what a token does that is expanded, where no further one is
abbrev pub work : Nest → Token → Action → Reading → Outcome Reading
work nest token actions.NoExpand r = no_expand nest r
work nest token actions.String r = string nest r
work nest token actions.EndInput r = Ok (ending r)
work nest token (actions.Ends limb) r = limb_met nest token limb r
work nest token (actions.Asks question) r = asked nest question r
work nest token actions.IfX r = if_x nest r
work nest token _ r = Ok r

unfoldable pub acted : Nest → Token → Action → Reading → Outcome Reading
acted nest token action r = in_expansion (work nest token action) r
