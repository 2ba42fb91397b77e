-- Steps of scans that give no number.
use Rattle.std.proofs.Common.{◌≡◌, ℕ, Bool, true, false, List, ◌∷◌, ◌++◌, Err, refl}
use Rattle.tok_lists.specs.declared.token.Token.{Token}
use Rattle.scan_numbers.specs.declared.fault.ScanFault.{ScanFault}
use Rattle.scan_numbers.specs.declared.fault.ScanFault.TheVariants.{Kind, NoMemory}
use Rattle.scan_numbers.specs.declared.fault.ScanKind.{ScanKind}
use Rattle.scan_syntax.specs.declared.scan.Scan.{Scan}
use Rattle.scan_syntax.specs.declared.state.State.TheVariants as states
use Rattle.scan_syntax.specs.declared.naming.Naming.{Naming}
use Rattle.scan_syntax.specs.declared.internal.Internal.{Internal}
use Rattle.scan_syntax.specs.declared.internal.Internal.TheVariants as parts
use Rattle.scan_syntax.specs.declared.want.Value.{Value}
use Rattle.scan_syntax.specs.declared.want.Value.TheVariants as values
use Rattle.scan_syntax.specs.declared.want.Want.TheVariants as wants
use Rattle.scan_numbers.specs.Contexts.{Context}
use Rattle.scan_numbers.specs.Tokens.{FedToken, fed, put_back, not_taken, is_space}
use Rattle.scan_numbers.specs.Answers.{Got, Bad, Expanded}
use Rattle.scan_numbers.specs.Machines.{FormIs, Follows, whole}
use Rattle.scan_syntax.specs.Relations.{equals, is_equals}
use Rattle.scan_syntax.specs.FileNames.{file_name}
use Rattle.scan_syntax.specs.Naming.{naming_left, same_name}
use Rattle.scan_syntax.specs.Internals.{internal}
use Rattle.scan_syntax.specs.Internalizing.{internal_left, found_value}
use Rattle.scan_syntax.specs.Scans.{grammar, IsOpen}
use Rattle.scan_syntax.specs.States.{state_left, reads, Moves}
use Rattle.scan_syntax.proofs.FileNames.{naming_needs}

-- ---- equals

pub equals_form : FormIs false (state_left states.Equals)
unfolding state_left equals
equals_form = refl

pub equals_space : (token : Token) (context : Context) (rest : List FedToken) → true ≡ is_space token context
    → state_left states.Equals (fed token context ∷ rest) ≡ state_left states.Equals rest
unfolding state_left equals
equals_space token context rest is = rw (← is) refl

equals_by : (taken : Bool) (back : List Token) (token : Token) (context : Context) (rest : List FedToken) → false ≡ is_space token context → taken ≡ is_equals token
    → back ≡ not_taken taken token
    → state_left states.Equals (fed token context ∷ rest) ≡ Got values.Equals context (put_back context back ++ rest)
unfolding state_left equals
equals_by true back token context rest dark is none = rw (← dark, ← is, none) refl
equals_by false back token context rest dark is none = rw (← dark, ← is, none) refl

pub equals_done : (back : List Token) (token : Token) (context : Context) (rest : List FedToken) → false ≡ is_space token context
    → back ≡ not_taken (is_equals token) token
    → state_left states.Equals (fed token context ∷ rest) ≡ Got values.Equals context (put_back context back ++ rest)
equals_done back token context rest dark none = equals_by (is_equals token) back token context rest dark refl none

pub ruleset equals_steps = (equals_form, equals_space, equals_done)

-- ---- names of files

pub naming_form : (n : Naming) → FormIs false (state_left (states.Naming n))
unfolding state_left
naming_form n = rw (naming_needs n) refl

pub naming_further : (n m : Naming) (x : FedToken) (rest : List FedToken) → naming_left n (x ∷ rest) ≡ naming_left m rest → state_left (states.Naming n) (x ∷ rest) ≡ state_left (states.Naming m) rest
unfolding state_left
naming_further n m x rest step = rw step refl

pub naming_done : (n : Naming) (name : List ℕ) (taken : Bool) (back : List Token) (token : Token) (context : Context) (rest : List FedToken)
    → naming_left n (fed token context ∷ rest) ≡ whole name taken (fed token context) rest → back ≡ not_taken taken token
    → state_left (states.Naming n) (fed token context ∷ rest) ≡ Got (values.FileName name) context (put_back context back ++ rest)
unfolding state_left
naming_done n name true back token context rest step is = rw (step, is) refl
naming_done n name false back token context rest step is = rw (step, is) refl

naming_bad : (n : Naming) (kind : ScanKind) (x : FedToken) (rest : List FedToken) → naming_left n (x ∷ rest) ≡ Bad kind → state_left (states.Naming n) (x ∷ rest) ≡ Bad kind
unfolding state_left
naming_bad n kind x rest step = rw step refl

pub naming_fault : (n : Naming) (x : FedToken) (fault : ScanFault) → Follows same_name naming_left x (naming_left n) (Err fault) → Moves x (state_left (states.Naming n)) (Err fault)
naming_fault n x (Kind kind) follows = λ rest. naming_bad n kind x rest (follows rest)
naming_fault n x NoMemory follows = tt

pub ruleset namings = (naming_form, naming_further, naming_done)

-- ---- internal quantities

pub internal_form : (i : Internal) (raw : Bool) → FormIs raw (internal_left i) → FormIs raw (state_left (states.Internal i))
unfolding state_left
internal_form i true form = form
internal_form i false form = form

pub internal_further : (i j : Internal) (x : FedToken) (rest : List FedToken) → internal_left i (x ∷ rest) ≡ internal_left j rest → state_left (states.Internal i) (x ∷ rest) ≡ state_left (states.Internal j) rest
unfolding state_left
internal_further i j x rest step = step

pub internal_done : (i : Internal) (v : Value) (taken : Bool) (back : List Token) (token : Token) (context : Context) (rest : List FedToken)
    → internal_left i (fed token context ∷ rest) ≡ whole v taken (fed token context) rest → back ≡ not_taken taken token
    → state_left (states.Internal i) (fed token context ∷ rest) ≡ Got v context (put_back context back ++ rest)
unfolding state_left
internal_done i v true back token context rest step is = rw (step, is) refl
internal_done i v false back token context rest step is = rw (step, is) refl

internal_bad : (i : Internal) (kind : ScanKind) (x : FedToken) (rest : List FedToken) → internal_left i (x ∷ rest) ≡ Bad kind → state_left (states.Internal i) (x ∷ rest) ≡ Bad kind
unfolding state_left
internal_bad i kind x rest step = step

pub internal_fault : (i : Internal) (x : FedToken) (fault : ScanFault) → Follows found_value internal_left x (internal_left i) (Err fault) → Moves x (state_left (states.Internal i)) (Err fault)
internal_fault i x (Kind kind) follows = λ rest. internal_bad i kind x rest (follows rest)
internal_fault i x NoMemory follows = tt

pub ruleset internals = (internal_form, internal_further, internal_done)

-- ---- starts

pub equals_stands : (s : Scan) (more : List FedToken) → s.state ≡ states.Equals → grammar wants.Equals more ≡ reads s more
unfolding grammar reads state_left
equals_stands s more is = rw is refl

pub equals_open : (s : Scan) → s.state ≡ states.Equals → IsOpen (reads s)
unfolding reads state_left equals
equals_open s is = (Expanded, rw is refl)

pub naming_stands : (s : Scan) (n : Naming) (more : List FedToken) → s.state ≡ states.Naming n → ((list : List FedToken) → naming_left n list ≡ file_name list)
    → grammar wants.FileName more ≡ reads s more
unfolding grammar reads state_left
naming_stands s n more is fresh = rw (is, fresh more) refl

pub naming_open : (s : Scan) (n : Naming) → s.state ≡ states.Naming n → IsOpen (reads s)
unfolding reads state_left
naming_open s n is = (Expanded, rw (is, naming_needs n) refl)

pub internal_stands : (s : Scan) (more : List FedToken) → s.state ≡ states.Internal parts.Begin → grammar wants.Internal more ≡ reads s more
unfolding grammar reads state_left internal_left
internal_stands s more is = rw is refl

pub internal_open : (s : Scan) → s.state ≡ states.Internal parts.Begin → IsOpen (reads s)
unfolding reads state_left internal_left internal
internal_open s is = (Expanded, rw is refl)

pub ruleset more_starts = (equals_stands, naming_stands, internal_stands)
