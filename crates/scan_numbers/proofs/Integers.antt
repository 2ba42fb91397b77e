-- Steps of integers.
use Rattle.std.proofs.Common.{◌≡◌, ℕ, ℤ, pos, neg_ℤ, Bool, true, false, not, List, [], ◌∷◌, ◌++◌, Ok, Err, refl}
use Rattle.std.proofs.Math.IntN.{neg_ℤ-neg_ℤ}
use Rattle.scan_numbers.specs.Contexts.{Context}
use Rattle.tok_lists.specs.declared.token.Token.{Token}
use Rattle.scan_numbers.specs.declared.quantity.Register.{Register}
use Rattle.scan_numbers.specs.declared.fault.ScanKind.{ScanKind}
use Rattle.scan_numbers.specs.declared.fault.ScanKind.TheVariants.{NoNumber}
use Rattle.scan_numbers.specs.declared.quantity.Quantity.{Quantity}
use Rattle.scan_numbers.specs.declared.start.Start.TheVariants as starts
use Rattle.scan_numbers.specs.declared.start.Radix.TheVariants as radices
use Rattle.scan_numbers.specs.declared.constant.Constant.{Constant}
use Rattle.scan_numbers.specs.declared.constant.Constant.TheVariants as constants
use Rattle.scan_numbers.specs.declared.integer.Integer.{Integer}
use Rattle.scan_numbers.specs.declared.integer.Open.{Open}
use Rattle.scan_numbers.specs.declared.integer.Part.TheVariants as parts
use Rattle.scan_numbers.specs.Tokens.{FedToken, fed, start}
use Rattle.scan_numbers.specs.Quantities.{integer_of, reading}
use Rattle.scan_numbers.specs.Answers.{Answer, Got, Needs, Bad, ◌>>=◌}
use Rattle.scan_numbers.specs.Integers.{integer, negative, coerced, register, signed}
use Rattle.scan_numbers.proofs.Follows.{read_ok, read_err}
use Rattle.scan_numbers.specs.Machines.{FormIs, whole, into, outward, whole_integer, constant_left, integer_left}

-- ---- open registers

-- the innermost register comes first
pub innermost_first : (os : List Open) (o : Open) (next : ℤ → Context → List FedToken → Answer ℤ) → outward (os ++ o ∷ []) next ≡ into o (outward os next)
unfolding outward
innermost_first [] o next = refl
innermost_first (p ∷ os) o next = innermost_first os o (into p next)

pub out_none : (os : List Open) (n : ℤ) (context : Context) (rest : List FedToken) → os ≡ [] → outward os whole_integer n context rest ≡ Got n context rest
unfolding outward
out_none os n context rest is = rw is refl

pub out_one : (all os : List Open) (o : Open) (n m : ℤ) (q : Quantity) (context : Context) (rest : List FedToken) → all ≡ os ++ o ∷ []
    → Ok q ≡ reading o.register n context.env → m ≡ signed o.negative (integer_of q)
    → outward all whole_integer n context rest ≡ outward os whole_integer m context rest
unfolding into
out_one all os o n m q context rest is read same = rw (is, innermost_first os o whole_integer, read_ok o.register n q context rest read, same) refl

pub out_bad : (all os : List Open) (o : Open) (n : ℤ) (kind : ScanKind) (context : Context) (rest : List FedToken) → all ≡ os ++ o ∷ []
    → Err kind ≡ reading o.register n context.env
    → outward all whole_integer n context rest ≡ Bad kind
unfolding into
out_bad all os o n kind context rest is read = rw (is, innermost_first os o whole_integer, read_err o.register n kind context rest read) refl

pub ruleset out = (out_none, out_one, out_bad)

-- ---- a fresh integer, and the form of the next token

unchanged : (a : Answer ℤ) → a >>= (λ n context rest. outward [] whole_integer (signed false n) context rest) ≡ a
unfolding outward
unchanged (Got n context rest) = refl
unchanged (Needs form) = refl
unchanged (Bad kind) = refl

pub fresh : (i : Integer) (list : List FedToken) → i.open.items ≡ [] → i.negative ≡ false → i.part ≡ parts.Signs → integer_left i list ≡ integer list
unfolding integer_left
fresh i list none plus at = rw (none, plus, at) (unchanged (integer list))

pub signs_form : (i : Integer) → i.part ≡ parts.Signs → FormIs false (integer_left i)
unfolding integer_left integer
signs_form i at = rw at refl

pub constant_form : (i : Integer) (c : Constant) (b : Bool) → i.part ≡ parts.Constant c → FormIs b (constant_left c) → FormIs b (integer_left i)
unfolding integer_left
constant_form i c true at is = rw (at, is) refl
constant_form i c false at is = rw (at, is) refl

pub ruleset forms = (signs_form, constant_form)

-- ---- constants

pub constant_further : (i j : Integer) (c d : Constant) (x : FedToken) (rest : List FedToken) → constant_left c (x ∷ rest) ≡ constant_left d rest
    → j ≡ record i { part = parts.Constant d }
    → integer_left (record i { part = parts.Constant c }) (x ∷ rest) ≡ integer_left j rest
unfolding integer_left
constant_further i j c d x rest step is = rw (is, step) refl

pub constant_done : (i : Integer) (c : Constant) (n : ℕ) (m : ℤ) (taken : Bool) (x : FedToken) (rest : List FedToken) → constant_left c (x ∷ rest) ≡ whole n taken x rest
    → ((left : List FedToken) → outward i.open.items whole_integer (signed i.negative (pos n)) x.context left ≡ Got m x.context left)
    → integer_left (record i { part = parts.Constant c }) (x ∷ rest) ≡ whole m taken x rest
unfolding integer_left
constant_done i c n m true x rest step out = rw (step, out rest) refl
constant_done i c n m false x rest step out = rw (step, out (x ∷ rest)) refl

pub constant_bad_register : (i : Integer) (c : Constant) (n : ℕ) (kind : ScanKind) (taken : Bool) (x : FedToken) (rest : List FedToken) → constant_left c (x ∷ rest) ≡ whole n taken x rest
    → ((left : List FedToken) → outward i.open.items whole_integer (signed i.negative (pos n)) x.context left ≡ Bad kind)
    → integer_left (record i { part = parts.Constant c }) (x ∷ rest) ≡ Bad kind
unfolding integer_left
constant_bad_register i c n kind true x rest step out = rw (step, out rest) refl
constant_bad_register i c n kind false x rest step out = rw (step, out (x ∷ rest)) refl

pub constant_bad : (i : Integer) (c : Constant) (kind : ScanKind) (x : FedToken) (rest : List FedToken) → constant_left c (x ∷ rest) ≡ Bad kind
    → integer_left (record i { part = parts.Constant c }) (x ∷ rest) ≡ Bad kind
unfolding integer_left
constant_bad i c kind x rest step = rw step refl

pub ruleset constant_steps = (constant_further, constant_done, constant_bad_register, constant_bad)

-- ---- signs and beginnings

pub turned : (b : Bool) (n : ℤ) → signed b (neg_ℤ n) ≡ signed (not b) n
turned true n = neg_ℤ-neg_ℤ n
turned false n = refl

negated : (os : List Open) (b : Bool) (a : Answer ℤ)
    → (a >>= negative) >>= (λ n context rest. outward os whole_integer (signed b n) context rest) ≡ a >>= (λ n context rest. outward os whole_integer (signed (not b) n) context rest)
negated os b (Got n context rest) = rw (turned b n) refl
negated os b (Needs form) = refl
negated os b (Bad kind) = refl

fetched : (os : List Open) (b : Bool) (a : Answer Quantity)
    → (a >>= coerced) >>= (λ n context rest. outward os whole_integer (signed b n) context rest) ≡ a >>= (λ q context rest. outward os whole_integer (signed b (integer_of q)) context rest)
fetched os b (Got n context rest) = refl
fetched os b (Needs form) = refl
fetched os b (Bad kind) = refl

opened : (os : List Open) (o : Open) (a : Answer ℤ)
    → ((a >>= register o.register) >>= coerced) >>= (λ n context rest. outward os whole_integer (signed o.negative n) context rest)
    ≡ a >>= (λ n context rest. outward (os ++ o ∷ []) whole_integer (signed false n) context rest)
unfolding into
opened os o (Got n context rest) = rw (innermost_first os o whole_integer) (fetched os o.negative (register o.register n context rest))
opened os o (Needs form) = refl
opened os o (Bad kind) = refl

pub signs_space : (i : Integer) (token : Token) (context : Context) (rest : List FedToken) → i.part ≡ parts.Signs → start token context ≡ starts.Space
    → integer_left i (fed token context ∷ rest) ≡ integer_left i rest
unfolding integer_left integer
signs_space i token context rest at is = rw (at, is) refl

pub signs_plus : (i : Integer) (token : Token) (context : Context) (rest : List FedToken) → i.part ≡ parts.Signs → start token context ≡ starts.Plus
    → integer_left i (fed token context ∷ rest) ≡ integer_left i rest
unfolding integer_left integer
signs_plus i token context rest at is = rw (at, is) refl

pub signs_minus : (i j : Integer) (token : Token) (context : Context) (rest : List FedToken) → i.part ≡ parts.Signs → start token context ≡ starts.Minus
    → j.open.items ≡ i.open.items → j.negative ≡ not i.negative → j.part ≡ parts.Signs
    → integer_left i (fed token context ∷ rest) ≡ integer_left j rest
unfolding integer_left integer
signs_minus i j token context rest at is same sign at' = rw (at, is, same, sign, at') (negated i.open.items i.negative (integer rest))

pub signs_register : (i j : Integer) (r : Register) (token : Token) (context : Context) (rest : List FedToken) → i.part ≡ parts.Signs → start token context ≡ starts.Register r
    → j.open.items ≡ i.open.items ++ record { register = r; negative = i.negative } ∷ [] → j.negative ≡ false → j.part ≡ parts.Signs
    → integer_left i (fed token context ∷ rest) ≡ integer_left j rest
unfolding integer_left integer
signs_register i j r token context rest at is more sign at' = rw (at, is, more, sign, at') (opened i.open.items (record { register = r; negative = i.negative }) (integer rest))

pub signs_digit : (i : Integer) (token : Token) (context : Context) (rest : List FedToken) → i.part ≡ parts.Signs → start token context ≡ starts.Digit
    → integer_left i (fed token context ∷ rest) ≡ integer_left (record i { part = parts.Constant (constants.First radices.Decimal) }) (fed token context ∷ rest)
unfolding integer_left integer constant_left
signs_digit i token context rest at is = rw (at, is) refl

pub signs_octal : (i : Integer) (token : Token) (context : Context) (rest : List FedToken) → i.part ≡ parts.Signs → start token context ≡ starts.Octal
    → integer_left i (fed token context ∷ rest) ≡ integer_left (record i { part = parts.Constant (constants.First radices.Octal) }) rest
unfolding integer_left integer constant_left
signs_octal i token context rest at is = rw (at, is) refl

pub signs_hexadecimal : (i : Integer) (token : Token) (context : Context) (rest : List FedToken) → i.part ≡ parts.Signs → start token context ≡ starts.Hexadecimal
    → integer_left i (fed token context ∷ rest) ≡ integer_left (record i { part = parts.Constant (constants.First radices.Hexadecimal) }) rest
unfolding integer_left integer constant_left
signs_hexadecimal i token context rest at is = rw (at, is) refl

pub signs_backquote : (i : Integer) (token : Token) (context : Context) (rest : List FedToken) → i.part ≡ parts.Signs → start token context ≡ starts.Backquote
    → integer_left i (fed token context ∷ rest) ≡ integer_left (record i { part = parts.Constant constants.Character }) rest
unfolding integer_left integer constant_left
signs_backquote i token context rest at is = rw (at, is) refl

pub signs_internal : (i : Integer) (q : Quantity) (m : ℤ) (token : Token) (context : Context) (rest : List FedToken) → i.part ≡ parts.Signs → start token context ≡ starts.Internal q
    → ((left : List FedToken) → outward i.open.items whole_integer (signed i.negative (integer_of q)) context left ≡ Got m context left)
    → integer_left i (fed token context ∷ rest) ≡ Got m context rest
unfolding integer_left integer
signs_internal i q m token context rest at is out = rw (at, is, out rest) refl

pub signs_internal_bad : (i : Integer) (q : Quantity) (kind : ScanKind) (token : Token) (context : Context) (rest : List FedToken) → i.part ≡ parts.Signs → start token context ≡ starts.Internal q
    → ((left : List FedToken) → outward i.open.items whole_integer (signed i.negative (integer_of q)) context left ≡ Bad kind)
    → integer_left i (fed token context ∷ rest) ≡ Bad kind
unfolding integer_left integer
signs_internal_bad i q kind token context rest at is out = rw (at, is, out rest) refl

pub signs_point : (i : Integer) (token : Token) (context : Context) (rest : List FedToken) → i.part ≡ parts.Signs → start token context ≡ starts.Point
    → integer_left i (fed token context ∷ rest) ≡ Bad NoNumber
unfolding integer_left integer
signs_point i token context rest at is = rw (at, is) refl

pub signs_other : (i : Integer) (token : Token) (context : Context) (rest : List FedToken) → i.part ≡ parts.Signs → start token context ≡ starts.Other
    → integer_left i (fed token context ∷ rest) ≡ Bad NoNumber
unfolding integer_left integer
signs_other i token context rest at is = rw (at, is) refl

pub signs_refused : (i : Integer) (kind : ScanKind) (token : Token) (context : Context) (rest : List FedToken) → i.part ≡ parts.Signs → start token context ≡ starts.Refused kind
    → integer_left i (fed token context ∷ rest) ≡ Bad kind
unfolding integer_left integer
signs_refused i kind token context rest at is = rw (at, is) refl

pub ruleset begun = (signs_refused, signs_space, signs_plus, signs_minus, signs_register, signs_octal, signs_hexadecimal, signs_backquote, signs_internal, signs_internal_bad, signs_point, signs_other)

pub same_part : (i : Integer) (c : Constant) (list : List FedToken) → i.part ≡ parts.Constant c → integer_left i list ≡ integer_left (record i { part = parts.Constant c }) list
unfolding integer_left
same_part i c list at = rw at refl
