-- Tokens that are passed over before one that isn't.
use Rattle.std.specs.Prelude.{Bool, if◌then◌else◌, Result, Ok, Err}
use Rattle.ts_base.specs.Agreement.{◌>>=◌}
use Rattle.tok_lists.specs.declared.token.Token.{Token}
use Rattle.tok_lists.specs.declared.token.Token.TheVariants.{Char, Ja, Name, Kept, Param}
use Rattle.tok_lists.specs.declared.token.NameNo.{NameNo}
use Rattle.env_groups.specs.Environments.{Nest}
use Rattle.mouth.specs.Reading.{Reading, Stop}
use Rattle.raw_texts.specs.declared.fault.MacroFault.{MacroFault}
use Rattle.raw_texts.specs.declared.machine.Progress.{Progress}
use Rattle.raw_texts.specs.declared.machine.Progress.TheVariants.{On, Done}
use Rattle.raw_texts.specs.declared.passing.Past.{Past}
use Rattle.raw_texts.specs.declared.passing.Past.TheVariants.{Spaces, Blanks}
use Rattle.raw_texts.specs.declared.passing.Passing.{Passing}
use Rattle.raw_texts.specs.declared.fault.MacroFault.TheVariants.{NoName}
use Rattle.raw_texts.specs.Faults.{stopped}
use Rattle.raw_texts.specs.Kinds.{is_category}
use Rattle.raw_texts.specs.Meanings.{meaning_of, is_blank}
use Rattle.raw_texts.specs.Runs.{run}

-- whether a token is passed over
abbrev pub passes : Nest → Past → Token → Bool
passes nest Spaces token = is_category 10 token
passes nest Blanks token = is_blank (meaning_of nest token)

abbrev pub step : Nest → Passing → Token → Result (Progress × Passing) MacroFault
step nest p token = Ok ((if passes nest p.past token then On else Done), record { past = p.past; last = token })

-- the first token that isn't passed over, and what is read after it
unfoldable pub past : Nest → Past → Reading → Result (Token × Reading) (Stop MacroFault)
past nest what r = run nest step (record { past = what; last = Char 32 10 }) r >>= λ p. Ok (p.0.last, p.1)

-- a token that is a name
abbrev pub name_in : Token → Reading → Result (NameNo × Reading) (Stop MacroFault)
name_in (Char code cat) r = Err (stopped NoName r)
name_in (Ja cell) r = Err (stopped NoName r)
name_in (Name name) r = Ok (name, r)
name_in (Kept name) r = Err (stopped NoName r)
name_in (Param n) r = Err (stopped NoName r)

-- the name after spaces, and what is read after it
unfoldable pub named : Nest → Reading → Result (NameNo × Reading) (Stop MacroFault)
named nest r = past nest Spaces r >>= λ t. name_in t.0 t.1
