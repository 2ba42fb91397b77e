-- What the gullet gives to a command.
use Rattle.std.specs.Prelude.{Bool, List, [], ◌∷◌, Ok}
use Rattle.ts_base.specs.Agreement.{◌>>=◌, with_fault}
use Rattle.tok_lists.specs.declared.token.Token.{Token}
use Rattle.env_groups.specs.declared.meaning.MacroDef.{MacroDef}
use Rattle.env_groups.specs.Environments.{codes_of}
use Rattle.mouth.specs.Tokens.{next_plain}
use Rattle.mouth.specs.Changes.{with_list}
use Rattle.raw_texts.specs.Braced.{braced}
use Rattle.scan_syntax.specs.declared.want.Want.{Want}
use Rattle.scan_syntax.specs.declared.want.Value.{Value}
use Rattle.expander.specs.GulletFaults.{stop_as, of_mouth_fault, of_macro_fault, of_step_fault}
use Rattle.expander.specs.Worlds.{World, world}
use Rattle.expander.specs.Steps.{Next, Scan}
use Rattle.expander.specs.Expansion.{run}
use Rattle.expander.specs.Definitions.{definition_of}
use Rattle.control_faults.specs.TurnFaults.{of_gullet, turn_stop}
use Rattle.assignments.specs.Worlds.{Outcome}

-- the next unexpandable token
unfoldable pub next_token : World → Outcome (Token × World)
next_token w = with_fault (turn_stop of_gullet) (with_fault (stop_as of_step_fault) (run Next w))

-- the next token without expansion
unfoldable pub raw_token : World → Outcome (Token × World)
raw_token w =
    with_fault (turn_stop of_gullet) (with_fault (stop_as of_mouth_fault) (next_plain (codes_of w.nest) w.at))
    >>= λ t. Ok (t.0, world t.1 w.nest)

unfoldable pub scanned : Want → World → Outcome (Value × World)
scanned want w = with_fault (turn_stop of_gullet) (with_fault (stop_as of_step_fault) (run (Scan want []) w))

-- a macro's parameter text and body, expanded or not
unfoldable pub macro_read : Bool → World → Outcome (MacroDef × World)
macro_read is_expanded w = with_fault (turn_stop of_gullet) (with_fault (stop_as of_step_fault) (definition_of is_expanded w))

-- a list of tokens in braces
unfoldable pub braces_read : World → Outcome (List Token × World)
braces_read w =
    with_fault (turn_stop of_gullet) (with_fault (stop_as of_macro_fault) (braced w.nest w.at))
    >>= λ l. Ok (l.0, world l.1 w.nest)

-- The token is met again.
unfoldable pub put_back : Token → World → Outcome World
put_back token w =
    with_fault (turn_stop of_gullet) (with_fault (stop_as of_mouth_fault) (with_list (token ∷ []) w.at))
    >>= λ at. Ok (world at w.nest)
