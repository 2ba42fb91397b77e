-- Tokens that are passed over before one that is sought (The TeXbook, chapters 20 and 24; TeX: The Program, sections 404,
-- 1211, 1215 and 1221).
use Rattle.std.specs.Prelude.{ℕ, zero, suc, Bool, true, if◌then◌else◌, Option, Some, None, Result, Ok, Err}
use Rattle.ts_base.specs.Agreement.{◌>>=◌}
use Rattle.tok_lists.specs.declared.token.Token.{Token}
use Rattle.tok_lists.specs.declared.token.Token.TheVariants as tokens
use Rattle.tok_lists.specs.declared.token.NameNo.{NameNo}
use Rattle.env_groups.specs.Environments.{Nest}
use Rattle.mouth.specs.Sizes.{size}
use Rattle.raw_texts.specs.Kinds.{is_category}
use Rattle.raw_texts.specs.Meanings.{meaning_of, means_category, is_blank}
use Rattle.expander.specs.Worlds.{World}
use Rattle.control_faults.specs.declared.kind.FaultKind.{FaultKind}
use Rattle.control_faults.specs.declared.kind.FaultKind.TheVariants.{NoName}
use Rattle.assignments.specs.declared.command.Prefix.{Prefix}
use Rattle.assignments.specs.declared.command.Prefix.TheVariants.{Global, Long}
use Rattle.assignments.specs.declared.command.Prefixes.{Prefixes}
use Rattle.assignments.specs.declared.command.Command.{Command}
use Rattle.assignments.specs.declared.command.Command.TheVariants as commands
use Rattle.assignments.specs.declared.seeking.Sought.{Sought}
use Rattle.assignments.specs.declared.seeking.Sought.TheVariants as sought
use Rattle.assignments.specs.Worlds.{Outcome, checked}
use Rattle.assignments.specs.Reads.{next_token, raw_token, put_back}
use Rattle.assignments.specs.Commands.{command_in, meant}

-- ---- prefixes

abbrev pub prefixed : Prefixes → Prefix → Prefixes
prefixed p Global = record { is_global = true; is_long = p.is_long }
prefixed p Long = record { is_global = p.is_global; is_long = true }

abbrev pub with_prefix : Prefixes → Command → Option Sought
with_prefix p (commands.Prefix prefix) = Some (sought.Assignment (prefixed p prefix))
with_prefix p _ = None

-- ---- what is passed over

abbrev pub passed_if : Bool → Sought → Option Sought
passed_if passes what = if passes then Some what else None

-- A token is passed over, and what is sought then, or it isn't: before a name spaces are, before the value of a \let and after
-- \ignorespaces also those by \let, before anything else also \relax, and before an assignment also prefixes, which are kept.
unfoldable pub passed : Nest → Sought → Token → Option Sought
passed nest sought.Name token = passed_if (is_category 10 token) sought.Name
passed nest sought.Value token = passed_if (means_category 10 (meaning_of nest token)) sought.Value
passed nest sought.NonSpace token = passed_if (means_category 10 (meant nest token)) sought.NonSpace
passed nest sought.Solid token = passed_if (is_blank (meant nest token)) sought.Solid
passed nest (sought.Assignment p) token =
    if is_blank (meant nest token) then Some (sought.Assignment p) else with_prefix p (command_in nest token)

-- Names and the value of a \let are read without expansion.
abbrev pub taken : Sought → World → Outcome (Token × World)
taken sought.Name w = raw_token w
taken sought.Value w = raw_token w
taken sought.NonSpace w = next_token w
taken sought.Solid w = next_token w
taken (sought.Assignment p) w = next_token w

-- what is sought when it is found, and the token
abbrev pub Finding : Type 0
Finding = Sought × Token

abbrev pub sought_as : (Sought → World → Outcome (Finding × World)) → Option Sought → Sought → Token × World → Outcome (Finding × World)
sought_as more (Some next) what t = more next t.1
sought_as more None what t = Ok ((what, t.0), t.1)

-- The token is passed over, or found.
abbrev pub sought_on : (Sought → World → Outcome (Finding × World)) → Sought → Token × World → Outcome (Finding × World)
sought_on more what t = sought_as more (passed t.1.nest what t.0) what t

-- Each token leaves less than there was before it, so a law says of found: it takes a token, and where that is passed over it
-- goes on in the same way. Nothing comes to the first case.
unfoldable pub found_within : ℕ → Sought → World → Outcome (Finding × World)
found_within zero what w = taken what w >>= λ t. Ok ((what, t.0), t.1)
found_within (suc n) what w = taken what w >>= sought_on (found_within n) what

unfoldable pub found : Sought → World → Outcome (Finding × World)
found what w = found_within (suc (size w.at)) what w

-- ---- names

abbrev pub name_of : Token → Result NameNo FaultKind
name_of (tokens.Name name) = Ok name
name_of _ = Err NoName

-- the name to which a meaning is given
unfoldable pub name : World → Outcome (NameNo × World)
name w = found sought.Name w >>= λ f. checked name_of (f.0.1, f.1)

-- the next token that is expanded, neither a space nor \relax
unfoldable pub solid_token : World → Outcome (Token × World)
solid_token w = found sought.Solid w >>= λ f. Ok (f.0.1, f.1)

-- ---- spaces

-- Spaces are passed over, and the first other token is met again.
unfoldable pub spaces_ignored : World → Outcome World
spaces_ignored w = found sought.NonSpace w >>= λ f. put_back f.0.1 f.1
