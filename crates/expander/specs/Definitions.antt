-- Macro definitions, also those whose body is expanded (The TeXbook, chapter 20; TeX: The Program, sections 473 to 479).
use Rattle.std.specs.Prelude.{ℕ, zero, suc, Bool, true, false, not, ◌&&◌, if◌then◌else◌, [], Ok}
use Rattle.ts_base.specs.Agreement.{◌>>=◌, with_fault}
use Rattle.tok_lists.specs.declared.token.Token.{Token}
use Rattle.env_groups.specs.declared.meaning.MacroDef.{MacroDef}
use Rattle.mouth.specs.Reading.{Reading}
use Rattle.mouth.specs.Changes.{begun, ended, entered, left}
use Rattle.mouth.specs.Sizes.{size}
use Rattle.mouth.specs.Tokens.{plain}
use Rattle.raw_texts.specs.declared.machine.Progress.{Progress}
use Rattle.raw_texts.specs.declared.machine.Progress.TheVariants.{On, Done}
use Rattle.macros.specs.declared.body.Body.{Body}
use Rattle.macros.specs.Headings.{heading}
use Rattle.macros.specs.Bodies.{empty, stored, step}
use Rattle.macros.specs.Definitions.{macro_of, defined}
use Rattle.scan_syntax.specs.declared.want.Want.TheVariants.{Internal}
use Rattle.expander.specs.declared.action.Front.{Front}
use Rattle.expander.specs.declared.action.Front.TheVariants as fronts
use Rattle.expander.specs.declared.action.Action.TheVariants as actions
use Rattle.expander.specs.declared.action.Further.TheVariants as furthers
use Rattle.expander.specs.declared.action.Printing.TheVariants as printings
use Rattle.expander.specs.declared.fault.StepFault.TheVariants.{Text}
use Rattle.expander.specs.Faults.{of_text, of_mouth, stopped}
use Rattle.expander.specs.Worlds.{World, world, Outcome, token_from}
use Rattle.expander.specs.Actions.{expands, front_of}
use Rattle.expander.specs.Numbers.{value_shown}
use Rattle.expander.specs.Steps.{Next, Expand, Scan}
use Rattle.expander.specs.Expansion.{run, gives_up}

-- a body that goes on or is done, and the world after its last part
pub record Part : Type 0 where
  pub progress : Progress
  pub body : Body
  pub rest : World

abbrev pub part : Progress → Body → World → Part
part progress body w = record { progress = progress; body = body; rest = w }

-- a token that is one of the body, or its last }
abbrev pub token_fed : Body → Token → World → Outcome Part
token_fed body token w = with_fault (λ fault. stopped (Text fault) w.at) (step w.nest body token) >>= λ p. Ok (part p.0 p.1 w)

abbrev pub is_the : Front → Bool
is_the (fronts.Acts (actions.Further (furthers.Prints printings.The))) = true
is_the _ = false

-- What \the gives is stored as it is, and not expanded further.
abbrev pub the_stored : Body → World → Outcome Part
the_stored body w =
    with_fault of_mouth (begun w.at) >>= λ at. run (Scan Internal []) (world at w.nest)
    >>= λ v. Ok (part On (stored body (value_shown v.0)) (world (ended v.1.at) v.1.nest))

-- An expandable token is expanded once, and any other is fed, a Kept one as its plain name.
abbrev pub part_expanded : Body → World → Token × Reading → Outcome Part
part_expanded body w t =
    if expands w.nest t.0 then (run (Expand t.0) (world t.1 w.nest) >>= λ v. Ok (part On body v))
    else token_fed body (plain t.0) (world t.1 w.nest)

-- The part that begins with a token. After a # \the is expanded as any other token.
abbrev pub part_with : Body → World → Token × Reading → Outcome Part
part_with body w t =
    if is_the (front_of w.nest t.0) && not body.hash then the_stored body (world t.1 w.nest) else part_expanded body w t

-- the next part of a body that is expanded
abbrev pub next_part : Body → World → Outcome Part
next_part body w = token_from w.nest w.at >>= part_with body w

-- It is done, or there is more.
abbrev pub goes_as : (Body → World → Outcome (Body × World)) → Progress → Body → World → Outcome (Body × World)
goes_as more Done body w = Ok (body, w)
goes_as more On body w = more body w

abbrev pub goes_on : (Body → World → Outcome (Body × World)) → Part → Outcome (Body × World)
goes_on more p = goes_as more p.progress p.body p.rest

-- Each part is read from less than the one before, so the law below holds of expanded: it reads a part, and where there is
-- more it goes on in the same way. No body comes to the first case.
unfoldable pub expanded_within : ℕ → Body → World → Outcome (Body × World)
expanded_within zero body w = gives_up Next w >>= λ t. Ok (body, t.1)
expanded_within (suc n) body w = next_part body w >>= goes_on (expanded_within n)

-- the body with its parts, expanded, and the world after its last }
unfoldable pub expanded : Body → World → Outcome (Body × World)
expanded body w = expanded_within (suc (size w.at)) body w

-- The parameter text isn't expanded. No file may end in the definition.
abbrev pub expanded_definition : World → Outcome (MacroDef × World)
expanded_definition w =
    with_fault of_text (heading w.nest (entered w.at))
    >>= λ h. expanded (empty h.0) (world h.1 w.nest) >>= λ b. Ok (macro_of b.0, world (left b.1.at) b.1.nest)

-- the macro of a definition whose name was taken, expanded or not, and the world after it
abbrev pub definition_of : Bool → World → Outcome (MacroDef × World)
definition_of true w = expanded_definition w
definition_of false w = with_fault of_text (defined w.nest w.at) >>= λ d. Ok (d.0, world d.1 w.nest)
