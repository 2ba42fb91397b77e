-- The world of an expansion: what is read, and the environment.
use Rattle.std.specs.Prelude.{List, Result, Ok}
use Rattle.ts_base.specs.Agreement.{◌>>=◌, with_fault}
use Rattle.tok_lists.specs.declared.token.Token.{Token}
use Rattle.env_groups.specs.Environments.{Nest, codes_of}
use Rattle.mouth.specs.Reading.{Reading, Stop}
use Rattle.mouth.specs.Tokens.{next, next_plain}
use Rattle.mouth.specs.Changes.{with_list, begun, ended}
use Rattle.expander.specs.declared.fault.StepFault.{StepFault}
use Rattle.expander.specs.Faults.{of_mouth}

pub record World : Type 0 where
  pub at : Reading
  pub nest : Nest

abbrev pub world : Reading → Nest → World
world at nest = record { at = at; nest = nest }

-- what a step gives, or the first fault with its place
abbrev pub Outcome : Type 0 → Type 0
Outcome X = Result X (Stop StepFault)

-- ---- what leaves the environment alone

-- the next token without expansion; a Kept token shows that it was kept
abbrev pub token_from : Nest → Reading → Outcome (Token × Reading)
token_from nest r = with_fault of_mouth (next (codes_of nest) r)

-- the next token as its plain name where it is Kept
abbrev pub plain_from : Nest → Reading → Outcome (Token × Reading)
plain_from nest r = with_fault of_mouth (next_plain (codes_of nest) r)

abbrev pub put : List Token → Reading → Outcome Reading
put list r = with_fault of_mouth (with_list list r)

-- An expansion that reads no further than to its own end: its unit is spent first, and it has ended where its work is done.
abbrev pub in_expansion : (Reading → Outcome Reading) → Reading → Outcome Reading
in_expansion work r = with_fault of_mouth (begun r) >>= λ r. work r >>= λ r. Ok (ended r)

-- ---- in a world

-- with something else read
abbrev pub in_world : World → Outcome Reading → Outcome World
in_world w read = read >>= λ at. Ok (world at w.nest)
