-- Steps of internal quantities.
use Rattle.std.proofs.Common.{◌≡◌, ℤ, Bool, true, false, List, ◌∷◌, Ok, Err, refl, ◌∙◌}
use Rattle.tok_lists.specs.declared.token.Token.{Token}
use Rattle.env_groups.specs.declared.key.ToksKey.{ToksKey}
use Rattle.scan_numbers.specs.declared.fault.ScanKind.{ScanKind}
use Rattle.scan_numbers.specs.declared.fault.ScanKind.TheVariants.{NoNumber}
use Rattle.scan_numbers.specs.declared.quantity.Quantity.{Quantity}
use Rattle.scan_numbers.specs.declared.quantity.Register.{Register}
use Rattle.scan_numbers.specs.declared.integer.Integer.{Integer}
use Rattle.scan_syntax.specs.declared.internal.Internal.{Internal}
use Rattle.scan_syntax.specs.declared.internal.Internal.TheVariants as internals
use Rattle.scan_syntax.specs.declared.internal.Listed.TheVariants as listeds
use Rattle.scan_numbers.specs.declared.start.Start.{Start}
use Rattle.scan_numbers.specs.declared.start.Start.TheVariants as starts
use Rattle.scan_syntax.specs.declared.want.Value.{Value}
use Rattle.scan_numbers.specs.Contexts.{Context}
use Rattle.scan_numbers.specs.Quantities.{reading}
use Rattle.scan_numbers.specs.Tokens.{FedToken, fed, start}
use Rattle.scan_numbers.specs.Answers.{Got, Bad}
use Rattle.scan_numbers.specs.Integers.{integer}
use Rattle.scan_numbers.specs.Machines.{FormIs, whole, left_of, integer_left}
use Rattle.scan_syntax.specs.Internals.{internal, internal_from, quantity_value, toks_held, toks_reading, toks_start}
use Rattle.scan_syntax.specs.Internalizing.{internal_left, begins_none}
use Rattle.scan_numbers.proofs.Follows.{read_ok, read_err}

-- ---- the form of the next token

pub begin_form : (i : Internal) → i ≡ internals.Begin → FormIs false (internal_left i)
unfolding internal_left internal
begin_form i is = rw is refl

pub register_form : (i : Internal) (r : Register) (n : Integer) (raw : Bool) → i ≡ internals.Register r n → FormIs raw (integer_left n) → FormIs raw (internal_left i)
unfolding internal_left
register_form i r n true is form = rw (is, form) refl
register_form i r n false is form = rw (is, form) refl

pub toks_form : (i : Internal) (n : Integer) (raw : Bool) → i ≡ internals.Toks n → FormIs raw (integer_left n) → FormIs raw (internal_left i)
unfolding internal_left
toks_form i n true is form = rw (is, form) refl
toks_form i n false is form = rw (is, form) refl

pub ruleset forms = (begin_form, register_form, toks_form)

-- ---- lists of tokens

pub list_whole : (key : ToksKey) (v : Value) (token : Token) (context : Context) (rest : List FedToken) → listeds.Whole key ≡ toks_start token context → Ok v ≡ toks_held key context.env
    → internal_left internals.Begin (fed token context ∷ rest) ≡ Got v context rest
unfolding internal_left internal
list_whole key v token context rest is held = rw (← is, ← held) refl

pub list_refused : (key : ToksKey) (kind : ScanKind) (token : Token) (context : Context) (rest : List FedToken) → listeds.Whole key ≡ toks_start token context → Err kind ≡ toks_held key context.env
    → internal_left internals.Begin (fed token context ∷ rest) ≡ Bad kind
unfolding internal_left internal
list_refused key kind token context rest is held = rw (← is, ← held) refl

pub list_register : (i : Integer) (token : Token) (context : Context) (rest : List FedToken) → listeds.Register ≡ toks_start token context
    → ((list : List FedToken) → integer_left i list ≡ integer list)
    → internal_left internals.Begin (fed token context ∷ rest) ≡ internal_left (internals.Toks i) rest
unfolding internal_left internal
list_register i token context rest is fresh = rw (← is, fresh rest) refl

pub ruleset listed_steps = (list_whole, list_refused, list_register)

-- ---- other internal quantities

no_list : (token : Token) (context : Context) (rest : List FedToken) → toks_start token context ≡ listeds.Nothing
    → internal_left internals.Begin (fed token context ∷ rest) ≡ internal_from (start token context) (fed token context) rest
unfolding internal_left internal
no_list token context rest is = rw is refl

pub begin_internal : (q : Quantity) (v : Value) (token : Token) (context : Context) (rest : List FedToken) → toks_start token context ≡ listeds.Nothing → start token context ≡ starts.Internal q
    → v ≡ quantity_value q
    → internal_left internals.Begin (fed token context ∷ rest) ≡ Got v context rest
begin_internal q v token context rest none is same = no_list token context rest none ∙ rw (is, same) refl

pub begin_register : (r : Register) (i : Integer) (token : Token) (context : Context) (rest : List FedToken) → toks_start token context ≡ listeds.Nothing → start token context ≡ starts.Register r
    → ((list : List FedToken) → integer_left i list ≡ integer list)
    → internal_left internals.Begin (fed token context ∷ rest) ≡ internal_left (internals.Register r i) rest
unfolding internal_left
begin_register r i token context rest none is fresh = no_list token context rest none ∙ rw (is, fresh rest) refl

pub begin_refused : (kind : ScanKind) (token : Token) (context : Context) (rest : List FedToken) → toks_start token context ≡ listeds.Nothing → start token context ≡ starts.Refused kind
    → internal_left internals.Begin (fed token context ∷ rest) ≡ Bad kind
begin_refused kind token context rest none is = no_list token context rest none ∙ rw is refl

pub ruleset begun = (begin_internal, begin_register, begin_refused)

false_is_not_true : false ≡ true → ⊥
false_is_not_true e = cc

none_by_start : (s : Start) (x : FedToken) (rest : List FedToken) → begins_none s ≡ true → internal_from s x rest ≡ Bad NoNumber
none_by_start starts.Space x rest is = refl
none_by_start starts.Plus x rest is = refl
none_by_start starts.Minus x rest is = refl
none_by_start starts.Digit x rest is = refl
none_by_start starts.Octal x rest is = refl
none_by_start starts.Hexadecimal x rest is = refl
none_by_start starts.Backquote x rest is = refl
none_by_start starts.Point x rest is = refl
none_by_start starts.Other x rest is = refl
none_by_start (starts.Internal q) x rest is = absurd (false_is_not_true is)
none_by_start (starts.Register r) x rest is = absurd (false_is_not_true is)
none_by_start (starts.Refused kind) x rest is = absurd (false_is_not_true is)

pub begin_nothing : (token : Token) (context : Context) (rest : List FedToken) → toks_start token context ≡ listeds.Nothing → begins_none (start token context) ≡ true
    → internal_left internals.Begin (fed token context ∷ rest) ≡ Bad NoNumber
begin_nothing token context rest none is = no_list token context rest none ∙ none_by_start (start token context) (fed token context) rest is

-- ---- registers

pub register_on : (r : Register) (i j : Integer) (x : FedToken) (rest : List FedToken) → integer_left i (x ∷ rest) ≡ integer_left j rest
    → internal_left (internals.Register r i) (x ∷ rest) ≡ internal_left (internals.Register r j) rest
unfolding internal_left
register_on r i j x rest step = rw step refl

pub register_done : (r : Register) (i : Integer) (n : ℤ) (taken : Bool) (q : Quantity) (v : Value) (token : Token) (context : Context) (rest : List FedToken)
    → integer_left i (fed token context ∷ rest) ≡ whole n taken (fed token context) rest → Ok q ≡ reading r n context.env → v ≡ quantity_value q
    → internal_left (internals.Register r i) (fed token context ∷ rest) ≡ whole v taken (fed token context) rest
unfolding internal_left
register_done r i n taken q v token context rest step held same = rw (step, read_ok r n q context (left_of taken (fed token context ∷ rest)) held, same) refl

pub register_range : (r : Register) (i : Integer) (n : ℤ) (taken : Bool) (kind : ScanKind) (token : Token) (context : Context) (rest : List FedToken)
    → integer_left i (fed token context ∷ rest) ≡ whole n taken (fed token context) rest → Err kind ≡ reading r n context.env
    → internal_left (internals.Register r i) (fed token context ∷ rest) ≡ Bad kind
unfolding internal_left
register_range r i n taken kind token context rest step held = rw (step, read_err r n kind context (left_of taken (fed token context ∷ rest)) held) refl

pub register_bad : (r : Register) (i : Integer) (kind : ScanKind) (x : FedToken) (rest : List FedToken) → integer_left i (x ∷ rest) ≡ Bad kind
    → internal_left (internals.Register r i) (x ∷ rest) ≡ Bad kind
unfolding internal_left
register_bad r i kind x rest step = rw step refl

pub toks_on : (i j : Integer) (x : FedToken) (rest : List FedToken) → integer_left i (x ∷ rest) ≡ integer_left j rest
    → internal_left (internals.Toks i) (x ∷ rest) ≡ internal_left (internals.Toks j) rest
unfolding internal_left
toks_on i j x rest step = rw step refl

pub toks_done : (i : Integer) (n : ℤ) (taken : Bool) (v : Value) (token : Token) (context : Context) (rest : List FedToken)
    → integer_left i (fed token context ∷ rest) ≡ whole n taken (fed token context) rest → Ok v ≡ toks_reading n context.env
    → internal_left (internals.Toks i) (fed token context ∷ rest) ≡ whole v taken (fed token context) rest
unfolding internal_left
toks_done i n taken v token context rest step held = rw (step, ← held) refl

pub toks_range : (i : Integer) (n : ℤ) (taken : Bool) (kind : ScanKind) (token : Token) (context : Context) (rest : List FedToken)
    → integer_left i (fed token context ∷ rest) ≡ whole n taken (fed token context) rest → Err kind ≡ toks_reading n context.env
    → internal_left (internals.Toks i) (fed token context ∷ rest) ≡ Bad kind
unfolding internal_left
toks_range i n taken kind token context rest step held = rw (step, ← held) refl

pub toks_bad : (i : Integer) (kind : ScanKind) (x : FedToken) (rest : List FedToken) → integer_left i (x ∷ rest) ≡ Bad kind
    → internal_left (internals.Toks i) (x ∷ rest) ≡ Bad kind
unfolding internal_left
toks_bad i kind x rest step = rw step refl
