-- The states of scans of all kinds.
use Rattle.std.specs.Prelude.{◌≡◌, List, ◌∷◌, ◌++◌, Result, Ok, Err}
use Rattle.scan_syntax.specs.declared.want.Value.{Value}
use Rattle.scan_numbers.specs.declared.fault.ScanFault.{ScanFault}
use Rattle.scan_numbers.specs.declared.fault.ScanFault.TheVariants.{Kind, NoMemory}
use Rattle.scan_numbers.specs.declared.fault.ScanKind.TheVariants.{NoNumber}
use Rattle.scan_syntax.specs.declared.scan.Scan.{Scan}
use Rattle.scan_syntax.specs.declared.state.State.{State}
use Rattle.scan_syntax.specs.declared.state.State.TheVariants as states
use Rattle.scan_syntax.specs.declared.state.Move.{Move}
use Rattle.scan_syntax.specs.declared.state.Move.TheVariants.{On, Done}
use Rattle.scan_numbers.specs.Tokens.{FedToken, put_back}
use Rattle.scan_numbers.specs.Answers.{Answer, Got, Bad, ◌>>=◌}
use Rattle.scan_numbers.specs.Machines.{FormIs, integer_left, dimen_left}
use Rattle.scan_syntax.specs.Attempts.{keyword_left}
use Rattle.scan_syntax.specs.Gluing.{glue_left}
use Rattle.scan_syntax.specs.Values.{integer_value, dimen_value, keyword_value, file_value}
use Rattle.scan_syntax.specs.Relations.{equals}
use Rattle.scan_syntax.specs.Naming.{naming_left}
use Rattle.scan_syntax.specs.Internalizing.{internal_left}

-- what is still to be read; a scan that is over takes nothing
unfoldable pub state_left : State → List FedToken → Answer Value
state_left (states.Integer i) list = integer_left i list >>= integer_value
state_left (states.Dimen d) list = dimen_left d list >>= dimen_value
state_left (states.Glue g) list = glue_left g list
state_left (states.Keyword k) list = keyword_left k list >>= keyword_value
state_left states.Equals list = equals list
state_left (states.Naming n) list = naming_left n list >>= file_value
state_left (states.Internal i) list = internal_left i list
state_left states.Over list = Bad NoNumber

-- what a scan still reads
unfoldable pub reads : Scan → List FedToken → Answer Value
reads s list = state_left s.state list

abbrev pub Moves : FedToken → (List FedToken → Answer Value) → Result Move ScanFault → Type 0
Moves x before (Ok (On state raw)) = ((rest : List FedToken) → before (x ∷ rest) ≡ state_left state rest) × FormIs raw (state_left state)
Moves x before (Ok (Done found back)) = (rest : List FedToken) → before (x ∷ rest) ≡ Got found.value x.context (put_back x.context back.items ++ rest)
Moves x before (Err (Kind kind)) = (rest : List FedToken) → before (x ∷ rest) ≡ Bad kind
Moves x before (Err NoMemory) = Unit {0}
