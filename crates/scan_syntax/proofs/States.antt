-- Steps of scans of all kinds.
use Rattle.std.proofs.Common.{◌≡◌, ℤ, Bool, true, false, List, [], ◌∷◌, ◌++◌, Result, Ok, Err, refl, subst, ap, append-nil, append_assoc, ◌∙◌}
use Rattle.scan_numbers.specs.Contexts.{Context}
use Rattle.tok_lists.specs.declared.token.Token.{Token}
use Rattle.scan_numbers.specs.declared.fault.ScanFault.{ScanFault}
use Rattle.scan_numbers.specs.declared.fault.ScanKind.{ScanKind}
use Rattle.scan_syntax.specs.declared.want.Value.{Value}
use Rattle.scan_syntax.specs.declared.want.Want.{Want}
use Rattle.scan_syntax.specs.declared.want.Want.TheVariants as wants
use Rattle.scan_syntax.specs.declared.want.Fed.{Fed}
use Rattle.scan_syntax.specs.declared.want.Fed.TheVariants as feds
use Rattle.scan_numbers.specs.declared.fault.ScanFault.TheVariants.{Kind, NoMemory}
use Rattle.scan_syntax.specs.declared.scan.Scan.{Scan}
use Rattle.scan_numbers.specs.Integers.{integer}
use Rattle.scan_numbers.specs.Dimensions.{dimen}
use Rattle.scan_syntax.specs.declared.want.Value.TheVariants as values
use Rattle.scan_numbers.specs.declared.integer.Integer.{Integer}
use Rattle.scan_numbers.specs.declared.dimen.Dimen.{Dimen}
use Rattle.scan_syntax.specs.declared.keyword.Keyword.{Keyword}
use Rattle.scan_syntax.specs.declared.gluing.Gluing.{Gluing}
use Rattle.scan_numbers.specs.Amounts.{Amount}
use Rattle.scan_syntax.specs.Glues.{glue, glue_signed}
use Rattle.scan_syntax.specs.Gluing.{GlueMoves, glue_left}
use Rattle.scan_syntax.specs.Values.{glue_value, size_value}
use Rattle.scan_syntax.specs.BoxSizes.{box_size}
use Rattle.scan_syntax.specs.declared.word.Word.{Word}
use Rattle.scan_numbers.specs.Keywords.{keyword}
use Rattle.scan_syntax.specs.Words.{word_letters}
use Rattle.scan_syntax.specs.Attempts.{Attempts, keyword_left}
use Rattle.scan_syntax.proofs.Attempts.{keyword_needs}
use Rattle.ts_geometry.specs.Directions.{sp}
use Rattle.scan_numbers.specs.declared.fault.ScanKind.TheVariants.{NoNumber}
use Rattle.scan_syntax.specs.declared.state.State.{State}
use Rattle.scan_syntax.specs.declared.state.State.TheVariants as states
use Rattle.scan_numbers.specs.Tokens.{FedToken, fed, put_back, not_taken}
use Rattle.scan_numbers.specs.Answers.{Answer, Got, Bad, Expanded, ◌>>=◌}
use Rattle.scan_numbers.specs.Machines.{FormIs, Follows, value_of, amount_of, whole, integer_left, dimen_left}
use Rattle.scan_syntax.specs.Scans.{Says, StandsOn, Steps, IsOpen, Stands, grammar}
use Rattle.scan_syntax.specs.States.{state_left, reads, Moves}

-- ---- integers

pub integer_form : (i : Integer) (raw : Bool) → FormIs raw (integer_left i) → FormIs raw (state_left (states.Integer i))
unfolding state_left
integer_form i true form = rw form refl
integer_form i false form = rw form refl

pub integer_further : (i j : Integer) (x : FedToken) (rest : List FedToken) → integer_left i (x ∷ rest) ≡ integer_left j rest → state_left (states.Integer i) (x ∷ rest) ≡ state_left (states.Integer j) rest
unfolding state_left
integer_further i j x rest step = rw step refl

pub integer_done : (i : Integer) (n : ℤ) (taken : Bool) (back : List Token) (token : Token) (context : Context) (rest : List FedToken)
    → integer_left i (fed token context ∷ rest) ≡ whole n taken (fed token context) rest → back ≡ not_taken taken token
    → state_left (states.Integer i) (fed token context ∷ rest) ≡ Got (values.Integer n) context (put_back context back ++ rest)
unfolding state_left
integer_done i n true back token context rest step is = rw (step, is) refl
integer_done i n false back token context rest step is = rw (step, is) refl

pub integer_bad : (i : Integer) (kind : ScanKind) (x : FedToken) (rest : List FedToken) → integer_left i (x ∷ rest) ≡ Bad kind → state_left (states.Integer i) (x ∷ rest) ≡ Bad kind
unfolding state_left
integer_bad i kind x rest step = rw step refl

pub ruleset integers = (integer_form, integer_further, integer_done, integer_bad)

-- ---- dimens

pub dimen_form : (i : Dimen) (raw : Bool) → FormIs raw (dimen_left i) → FormIs raw (state_left (states.Dimen i))
unfolding state_left
dimen_form i true form = rw form refl
dimen_form i false form = rw form refl

pub dimen_further : (i j : Dimen) (x : FedToken) (rest : List FedToken) → dimen_left i (x ∷ rest) ≡ dimen_left j rest → state_left (states.Dimen i) (x ∷ rest) ≡ state_left (states.Dimen j) rest
unfolding state_left
dimen_further i j x rest step = rw step refl

pub dimen_done : (i : Dimen) (n : Amount) (taken : Bool) (back : List Token) (token : Token) (context : Context) (rest : List FedToken)
    → dimen_left i (fed token context ∷ rest) ≡ whole n taken (fed token context) rest → back ≡ not_taken taken token
    → state_left (states.Dimen i) (fed token context ∷ rest) ≡ Got (values.Dimen (sp n.size)) context (put_back context back ++ rest)
unfolding state_left
dimen_done i n true back token context rest step is = rw (step, is) refl
dimen_done i n false back token context rest step is = rw (step, is) refl

pub dimen_bad : (i : Dimen) (kind : ScanKind) (x : FedToken) (rest : List FedToken) → dimen_left i (x ∷ rest) ≡ Bad kind → state_left (states.Dimen i) (x ∷ rest) ≡ Bad kind
unfolding state_left
dimen_bad i kind x rest step = rw step refl

pub ruleset dimens = (dimen_form, dimen_further, dimen_done, dimen_bad)

pub over : (list : List FedToken) → state_left states.Over list ≡ Bad NoNumber
unfolding state_left
over list = refl

-- ---- starts

pub integer_stands : (s : Scan) (i : Integer) (more : List FedToken) → s.state ≡ states.Integer i → ((list : List FedToken) → integer_left i list ≡ integer list)
    → grammar wants.Integer more ≡ reads s more
unfolding grammar reads state_left
integer_stands s i more is fresh = rw (is, fresh more) refl

pub integer_open : (s : Scan) (i : Integer) → s.state ≡ states.Integer i → ((list : List FedToken) → integer_left i list ≡ integer list) → IsOpen (reads s)
unfolding reads state_left integer
integer_open s i is fresh = (Expanded, rw (is, fresh []) refl)

pub dimen_stands : (s : Scan) (d : Dimen) (more : List FedToken) → s.state ≡ states.Dimen d → ((list : List FedToken) → dimen_left d list ≡ dimen false list)
    → grammar wants.Dimen more ≡ reads s more
unfolding grammar reads state_left
dimen_stands s d more is fresh = rw (is, fresh more) refl

pub dimen_open : (s : Scan) (d : Dimen) → s.state ≡ states.Dimen d → ((list : List FedToken) → dimen_left d list ≡ dimen false list) → IsOpen (reads s)
unfolding reads state_left dimen
dimen_open s d is fresh = (Expanded, rw (is, fresh []) refl)

-- ---- steps

-- a step leads from a list to the list with the token
pub stands_step : (want : Want) (before : List FedToken) (old new : List FedToken → Answer Value) (x : FedToken) (result : Result Fed ScanFault)
    → Steps old x result new → Stands want before old → StandsOn want (before ++ x ∷ []) result new
stands_step want before old new x (Ok feds.Expanded) steps stands = λ more. rw (append_assoc before (x ∷ []) more) (stands (x ∷ more) ∙ steps.0 more)
stands_step want before old new x (Ok feds.Raw) steps stands = λ more. rw (append_assoc before (x ∷ []) more) (stands (x ∷ more) ∙ steps.0 more)
stands_step want before old new x (Ok (feds.Done value back)) steps stands = tt
stands_step want before old new x (Err fault) steps stands = tt

-- a step is what the grammar says of the whole list
pub exact_step : (want : Want) (before : List FedToken) (old new : List FedToken → Answer Value) (x : FedToken) (result : Result Fed ScanFault)
    → Steps old x result new → Stands want before old → Says x.context result (grammar want (before ++ x ∷ []))
exact_step want before old new x (Ok feds.Expanded) steps stands = stands (x ∷ []) ∙ steps.0 [] ∙ steps.1
exact_step want before old new x (Ok feds.Raw) steps stands = stands (x ∷ []) ∙ steps.0 [] ∙ steps.1
exact_step want before old new x (Ok (feds.Done value back)) steps stands = stands (x ∷ []) ∙ steps [] ∙ ap (λ rest. Got value x.context rest) (append-nil (put_back x.context back))
exact_step want before old new x (Err (Kind kind)) steps stands = stands (x ∷ []) ∙ steps []
exact_step want before old new x (Err NoMemory) steps stands = tt

fault_moves : {S V W : Type 0} (view : V → W) (left : S → List FedToken → Answer W) (x : FedToken) (before : List FedToken → Answer W) (state : State) (fault : ScanFault)
    → ((kind : ScanKind) (rest : List FedToken) → before (x ∷ rest) ≡ Bad kind → state_left state (x ∷ rest) ≡ Bad kind)
    → Follows view left x before (Err fault) → Moves x (state_left state) (Err fault)
fault_moves view left x before state (Kind kind) same follows = λ rest. same kind rest (follows rest)
fault_moves view left x before state NoMemory same follows = tt

pub integer_fault : (i : Integer) (x : FedToken) (fault : ScanFault) → Follows value_of integer_left x (integer_left i) (Err fault) → Moves x (state_left (states.Integer i)) (Err fault)
integer_fault i x fault follows = fault_moves value_of integer_left x (integer_left i) (states.Integer i) fault (λ kind rest is. integer_bad i kind x rest is) follows

pub dimen_fault : (d : Dimen) (x : FedToken) (fault : ScanFault) → Follows amount_of dimen_left x (dimen_left d) (Err fault) → Moves x (state_left (states.Dimen d)) (Err fault)
dimen_fault d x fault follows = fault_moves amount_of dimen_left x (dimen_left d) (states.Dimen d) fault (λ kind rest is. dimen_bad d kind x rest is) follows

-- ---- a scan over its state

pub raw_steps : (s t : Scan) (x : FedToken) → ((rest : List FedToken) → state_left s.state (x ∷ rest) ≡ state_left t.state rest) → FormIs true (state_left t.state)
    → Steps (reads s) x (Ok feds.Raw) (reads t)
unfolding reads
raw_steps s t x step form = (step, form)

pub expanded_steps : (s t : Scan) (x : FedToken) → ((rest : List FedToken) → state_left s.state (x ∷ rest) ≡ state_left t.state rest) → FormIs false (state_left t.state)
    → Steps (reads s) x (Ok feds.Expanded) (reads t)
unfolding reads
expanded_steps s t x step form = (step, form)

pub done_steps : (s : Scan) (x : FedToken) (value : Value) (back : List Token) (rest : List FedToken) → state_left s.state (x ∷ rest) ≡ Got value x.context (put_back x.context back ++ rest)
    → reads s (x ∷ rest) ≡ Got value x.context (put_back x.context back ++ rest)
unfolding reads
done_steps s x value back rest step = step

steps_of_fault : (s t : Scan) (x : FedToken) (fault : ScanFault) → Moves x (state_left s.state) (Err fault) → Steps (reads s) x (Err fault) (reads t)
unfolding reads
steps_of_fault s t x (Kind kind) step = step
steps_of_fault s t x NoMemory step = tt

pub fault_steps : (s t : Scan) (state : State) (x : FedToken) (fault : ScanFault) → state ≡ s.state → Moves x (state_left state) (Err fault) → Steps (reads s) x (Err fault) (reads t)
fault_steps s t state x fault is moves = steps_of_fault s t x fault (subst (λ (r : State). Moves x (state_left r) (Err fault)) is moves)

-- ---- keywords

pub keyword_form : (k : Keyword) → FormIs false (state_left (states.Keyword k))
unfolding state_left
keyword_form k = rw (keyword_needs k) refl

pub keyword_further : (k j : Keyword) (x : FedToken) (rest : List FedToken) → keyword_left k (x ∷ rest) ≡ keyword_left j rest → state_left (states.Keyword k) (x ∷ rest) ≡ state_left (states.Keyword j) rest
unfolding state_left
keyword_further k j x rest step = rw step refl

pub keyword_there : (k : Keyword) (back : List Token) (x : FedToken) (rest : List FedToken) → keyword_left k (x ∷ rest) ≡ Got true x.context rest → back ≡ []
    → state_left (states.Keyword k) (x ∷ rest) ≡ Got (values.Keyword true) x.context (put_back x.context back ++ rest)
unfolding state_left
keyword_there k back x rest step none = rw (step, none) refl

pub keyword_not : (k : Keyword) (back : List Token) (x : FedToken) (rest : List FedToken) → keyword_left k (x ∷ rest) ≡ Got false x.context (put_back x.context back ++ rest)
    → state_left (states.Keyword k) (x ∷ rest) ≡ Got (values.Keyword false) x.context (put_back x.context back ++ rest)
unfolding state_left
keyword_not k back x rest step = rw step refl

pub keyword_fault : (k : Keyword) (x : FedToken) (fault : ScanFault) → Attempts x (keyword_left k) (Err fault) → Moves x (state_left (states.Keyword k)) (Err fault)
keyword_fault k x (Kind kind) never = absurd never
keyword_fault k x NoMemory never = tt

pub ruleset keywords = (keyword_form, keyword_further, keyword_there, keyword_not)

pub keyword_stands : (s : Scan) (k : Keyword) (word : Word) (more : List FedToken) → s.state ≡ states.Keyword k → ((list : List FedToken) → keyword_left k list ≡ keyword (word_letters word) list)
    → grammar (wants.Keyword word) more ≡ reads s more
unfolding grammar reads state_left
keyword_stands s k word more is fresh = rw (is, fresh more) refl

pub keyword_open : (s : Scan) (k : Keyword) (word : Word) → s.state ≡ states.Keyword k → ((list : List FedToken) → keyword_left k list ≡ keyword (word_letters word) list) → IsOpen (reads s)
unfolding reads state_left keyword
keyword_open s k word is fresh = (Expanded, rw (is, fresh []) refl)

-- ---- glue

pub glue_form : (g : Gluing) (raw : Bool) → FormIs raw (glue_left g) → FormIs raw (state_left (states.Glue g))
unfolding state_left
glue_form g true form = rw form refl
glue_form g false form = rw form refl

pub glue_further : (g h : Gluing) (x : FedToken) (rest : List FedToken) → glue_left g (x ∷ rest) ≡ glue_left h rest → state_left (states.Glue g) (x ∷ rest) ≡ state_left (states.Glue h) rest
unfolding state_left
glue_further g h x rest step = rw step refl

pub glue_done : (g : Gluing) (v : Value) (back : List Token) (x : FedToken) (rest : List FedToken) → glue_left g (x ∷ rest) ≡ Got v x.context (put_back x.context back ++ rest)
    → state_left (states.Glue g) (x ∷ rest) ≡ Got v x.context (put_back x.context back ++ rest)
unfolding state_left
glue_done g v back x rest step = rw step refl

glue_bad : (g : Gluing) (kind : ScanKind) (x : FedToken) (rest : List FedToken) → glue_left g (x ∷ rest) ≡ Bad kind → state_left (states.Glue g) (x ∷ rest) ≡ Bad kind
unfolding state_left
glue_bad g kind x rest step = rw step refl

pub glue_fault : (g : Gluing) (x : FedToken) (fault : ScanFault) → GlueMoves glue_left x.context (x ∷ []) (glue_left g) (Err fault) → Moves x (state_left (states.Glue g)) (Err fault)
glue_fault g x (Kind kind) moves = λ rest. glue_bad g kind x rest (moves rest)
glue_fault g x NoMemory moves = tt

pub ruleset glues = (glue_form, glue_further, glue_done)

pub glue_stands : (s : Scan) (g : Gluing) (more : List FedToken) → s.state ≡ states.Glue g → ((list : List FedToken) → glue_left g list ≡ glue list >>= glue_value)
    → grammar wants.Glue more ≡ reads s more
unfolding grammar reads state_left
glue_stands s g more is fresh = rw (is, fresh more) refl

pub glue_open : (s : Scan) (g : Gluing) → s.state ≡ states.Glue g → ((list : List FedToken) → glue_left g list ≡ glue list >>= glue_value) → IsOpen (reads s)
unfolding reads state_left glue_signed
glue_open s g is fresh = (Expanded, rw (is, fresh []) refl)

pub size_stands : (s : Scan) (g : Gluing) (more : List FedToken) → s.state ≡ states.Glue g → ((list : List FedToken) → glue_left g list ≡ box_size list >>= size_value)
    → grammar wants.BoxSize more ≡ reads s more
unfolding grammar reads state_left
size_stands s g more is fresh = rw (is, fresh more) refl

pub size_open : (s : Scan) (g : Gluing) → s.state ≡ states.Glue g → ((list : List FedToken) → glue_left g list ≡ box_size list >>= size_value) → IsOpen (reads s)
unfolding reads state_left box_size keyword
size_open s g is fresh = (Expanded, rw (is, fresh []) refl)

pub ruleset starts = (size_stands, integer_stands, dimen_stands, glue_stands, keyword_stands)
