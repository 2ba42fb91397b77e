-- The tokens of a group, up to the } of its { (The TeXbook, chapter 20): explicit braces alone count.
use Rattle.std.specs.Prelude.{ℕ, ◌+◌, ◌-◌, ◌==◌, ◌&&◌, not, Bool, if◌then◌else◌, List, [], ◌∷◌, ◌++◌, Result, Ok, Err}
use Rattle.ts_base.specs.Agreement.{◌>>=◌}
use Rattle.tok_lists.specs.declared.token.Token.{Token}
use Rattle.env_groups.specs.Environments.{Nest}
use Rattle.mouth.specs.Reading.{Reading, Stop}
use Rattle.raw_texts.specs.declared.fault.MacroFault.{MacroFault}
use Rattle.raw_texts.specs.declared.fault.MacroFault.TheVariants.{ArgParagraph}
use Rattle.raw_texts.specs.declared.machine.Progress.{Progress}
use Rattle.raw_texts.specs.declared.machine.Progress.TheVariants.{On, Done}
use Rattle.raw_texts.specs.declared.group.Group.{Group}
use Rattle.raw_texts.specs.declared.token.Brace.{Brace}
use Rattle.raw_texts.specs.declared.token.Brace.TheVariants as braces
use Rattle.raw_texts.specs.Kinds.{brace_of, is_par}
use Rattle.raw_texts.specs.Runs.{run}

abbrev Answer : Type 0
Answer = Result (Progress × Group) MacroFault

-- A token is one of the group's, in which so many groups are open after it.
abbrev pub kept : Group → Token → ℕ → Answer
kept g token level = Ok (On, record { tokens = g.tokens ++ token ∷ []; level = level; long = g.long })

-- A } ends a group in it, or the group itself.
abbrev pub ended : Group → Token → Answer
ended g token = if g.level == 0 then Ok (Done, g) else kept g token (g.level - 1)

-- any other token than a brace: \par is one of a long group alone
abbrev pub plain : Group → Token → Answer
plain g token = if is_par token && not g.long then Err ArgParagraph else kept g token g.level

abbrev pub taken : Group → Token → Brace → Answer
taken g token braces.Begin = kept g token (g.level + 1)
taken g token braces.End = ended g token
taken g token braces.Neither = plain g token

abbrev pub step : Nest → Group → Token → Answer
step nest g token = taken g token (brace_of token)

-- a group of which no token was taken
abbrev pub empty : Bool → Group
empty long = record { tokens = []; level = 0; long = long }

-- the tokens of a group whose { was taken, and what is read after its }
unfoldable pub group : Nest → Bool → Reading → Result (List Token × Reading) (Stop MacroFault)
group nest long r = run nest step (empty long) r >>= λ p. Ok (p.0.tokens, p.1)
