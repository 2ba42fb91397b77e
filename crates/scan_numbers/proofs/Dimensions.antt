-- Steps of dimensions.
use Rattle.std.proofs.Common.{◌≡◌, ◌≢◌, ℕ, ◌+◌, ◌*◌, ◌<◌, ◌≤◌, ℤ, pos, zero, suc, min, Bool, true, false, not, cond, List, [], ◌∷◌, ◌++◌, take, Some, None, Option, Result, Ok, Err, refl, sym, subst, inl, inr, ◌∙◌, ap, arith, append-nil, append_assoc}
use Rattle.std.specs.Prelude.{unsigned_abs, ◌&&◌, ◌==◌}
use Rattle.std.proofs.lemmas.Bool.Decides.{nat_tests, eqb_tells}
use Rattle.ts_geometry.specs.Numbers.{decimal}
use Rattle.scan_numbers.specs.Contexts.{Context}
use Rattle.tok_lists.specs.declared.token.Token.{Token}
use Rattle.scan_numbers.specs.declared.quantity.Register.{Register}
use Rattle.scan_numbers.specs.declared.fault.ScanKind.{ScanKind}
use Rattle.scan_numbers.specs.declared.fault.ScanKind.TheVariants.{NoNumber, NumberRange, NoUnit, DimenRange}
use Rattle.scan_numbers.specs.declared.quantity.Quantity.{Quantity}
use Rattle.scan_numbers.specs.declared.quantity.Quantity.TheVariants as quantities
use Rattle.scan_numbers.specs.declared.start.Start.{Start}
use Rattle.scan_numbers.specs.declared.start.Start.TheVariants as starts
use Rattle.scan_numbers.specs.declared.start.Radix.TheVariants as radices
use Rattle.scan_numbers.specs.declared.measure.Measure.{Measure}
use Rattle.scan_numbers.specs.declared.measure.Factor.{Factor}
use Rattle.scan_numbers.specs.declared.measure.Unit.{Unit}
use Rattle.scan_numbers.specs.declared.measure.Unit.TheVariants.{Point}
use Rattle.scan_numbers.specs.declared.constant.Constant.{Constant}
use Rattle.scan_numbers.specs.declared.constant.Constant.TheVariants as constants
use Rattle.scan_numbers.specs.declared.integer.Integer.{Integer}
use Rattle.scan_numbers.specs.declared.dimen.Dimen.{Dimen}
use Rattle.scan_numbers.specs.declared.dimen.Piece.{Piece}
use Rattle.scan_numbers.specs.declared.dimen.Piece.TheVariants as pieces
use Rattle.scan_numbers.specs.Tokens.{FedToken, fed, start, is_space, is_space_start, digit, letter}
use Rattle.scan_numbers.specs.Quantities.{integer_of, is_negative, reading}
use Rattle.scan_numbers.specs.Answers.{Answer, Got, Needs, Bad, ◌>>=◌}
use Rattle.scan_numbers.specs.Integers.{digits, spelled, optional_space, integer, signed}
use Rattle.scan_numbers.specs.Dimensions.{so_much, finite, if_fil, more_ls, order_of, dimen_range, of_measure, with_sign, from_quantity, factor, unit, unit_from, named, measured, times, fraction, point, point_from, whole_digits, decimal_unit, dimen, dimen_signed}
use Rattle.scan_numbers.specs.Machines.{at, turned_manner, fil_letter, next_order, fil_letters, fil_or_none, amount_of, FormIs, Follows, whole, left_of, constant_left, integer_left, dimen_left, finished, more_fraction, quantity_left, is_named, is_whole, first_of, second, second_of}
use Rattle.scan_numbers.proofs.Constants.{capped, too_great, fits}
use Rattle.scan_numbers.proofs.Integers.{turned}
use Rattle.scan_numbers.specs.declared.fault.ScanFault.{ScanFault}
use Rattle.scan_numbers.specs.declared.step.Step.{Step}
use Rattle.scan_numbers.specs.declared.amount.Amount.{Amount as CodeAmount}
use Rattle.scan_numbers.specs.Amounts.{Amount, amount}
use Rattle.scan_numbers.specs.declared.dimen.Manner.{Manner}
use Rattle.scan_numbers.specs.declared.dimen.Infinity.{Infinity}
use Rattle.scan_numbers.specs.declared.dimen.Infinity.TheVariants as infinities
use Rattle.scan_numbers.specs.declared.dimen.FilLetter.{FilLetter}
use Rattle.scan_numbers.specs.declared.dimen.FilLetter.TheVariants as fils
use Rattle.ts_geometry.specs.declared.glue.Order.{Order}
use Rattle.ts_geometry.specs.declared.glue.Order.TheVariants as orders
use Rattle.scan_numbers.specs.Keywords.{keyword, letters, is_letter, or_left}
use Rattle.scan_numbers.proofs.Follows.{same_follows, read_ok, read_err}
use Rattle.scan_numbers.proofs.Units.{first_none, first_letter, dark_always}
use Rattle.scan_numbers.specs.declared.letters.First.TheVariants as firsts

false_is_not_true : false ≡ true → ⊥
false_is_not_true e = cc

-- ---- the range

size_of_signed : (b : Bool) (n : ℕ) → unsigned_abs (signed b (pos n)) ≡ n
size_of_signed true zero = refl
size_of_signed true (suc n) = refl
size_of_signed false n = refl

pub range_fits : (b : Manner) (o : Order) (m : Measure) (a : Amount) (context : Context) (rest : List FedToken) → m.size ≤ 1073741823 → a ≡ amount (signed b.negative (of_measure m)) o
    → finished b o (of_measure m) context rest ≡ Got a context rest
unfolding finished dimen_range
range_fits b o m a context rest small is = rw is (let h : unsigned_abs (of_measure m) ≤ 1073741823 = rw (size_of_signed m.negative m.size) small in grind (arith, nat_tests))

pub range_passed : (b : Manner) (o : Order) (m : Measure) (context : Context) (rest : List FedToken) → 1073741823 < m.size
    → finished b o (of_measure m) context rest ≡ Bad DimenRange
unfolding finished dimen_range
range_passed b o m context rest great = let h : 1073741823 < unsigned_abs (of_measure m) = rw (size_of_signed m.negative m.size) great in grind (arith, nat_tests)

pub ruleset ranges = (range_fits, range_passed)

-- ---- a fresh dimension, and the form of the next token

unsigned : (a : Answer Amount) → a >>= with_sign false ≡ a
unsigned (Got n context rest) = refl
unsigned (Needs form) = refl
unsigned (Bad kind) = refl

pub fresh : (infinite : Bool) (list : List FedToken) → dimen_left (at (record { negative = false; infinite = infinite }) pieces.Signs) list ≡ dimen infinite list
unfolding dimen_left
fresh infinite list = unsigned (dimen infinite list)

pub fresh_signed : (sign : Bool) (list : List FedToken) → dimen_left (at (record { negative = sign; infinite = false }) pieces.Signs) list ≡ dimen_signed sign list
unfolding dimen_left
fresh_signed sign list = refl

pub signs_form : (d : Dimen) → d.piece ≡ pieces.Signs → FormIs false (dimen_left d)
unfolding dimen_left dimen
signs_form d is = rw is refl

pub register_form : (d : Dimen) (r : Register) (i : Integer) (b : Bool) → d.piece ≡ pieces.Register r i → FormIs b (integer_left i) → FormIs b (dimen_left d)
unfolding dimen_left
register_form d r i true is form = rw (is, form) refl
register_form d r i false is form = rw (is, form) refl

pub whole_form : (d : Dimen) (n : ℕ) → d.piece ≡ pieces.Whole n → FormIs false (dimen_left d)
unfolding dimen_left digits
whole_form d n is = rw is refl

pub constant_form : (d : Dimen) (c : Constant) (b : Bool) → d.piece ≡ pieces.Constant c → FormIs b (constant_left c) → FormIs b (dimen_left d)
unfolding dimen_left
constant_form d c true is form = rw (is, form) refl
constant_form d c false is form = rw (is, form) refl

pub fraction_form : (d : Dimen) (n : ℕ) (ds : List ℕ) → d.piece ≡ pieces.Fraction n ds → FormIs false (dimen_left d)
unfolding dimen_left digits
fraction_form d n ds is = rw is refl

pub unit_form : (d : Dimen) (k : Factor) → d.piece ≡ pieces.Unit k → FormIs false (dimen_left d)
unfolding dimen_left unit
unit_form d k is = rw is refl

pub unit_register_form : (d : Dimen) (k : Factor) (r : Register) (i : Integer) (b : Bool) → d.piece ≡ pieces.UnitRegister k r i → FormIs b (integer_left i) → FormIs b (dimen_left d)
unfolding dimen_left
unit_register_form d k r i true is form = rw (is, form) refl
unit_register_form d k r i false is form = rw (is, form) refl

pub letter_form : (d : Dimen) (k : Factor) (a : ℕ) → d.piece ≡ pieces.Letter k a → FormIs false (dimen_left d)
unfolding dimen_left second
letter_form d k a is = rw is refl

pub space_form : (d : Dimen) (m : Measure) → d.piece ≡ pieces.Space m → FormIs false (dimen_left d)
unfolding dimen_left optional_space
space_form d m is = rw is refl

pub fil_form : (d : Dimen) (k : Factor) (l : FilLetter) → d.piece ≡ pieces.Fil k l → FormIs false (dimen_left d)
unfolding dimen_left letters
fil_form d k fils.I is = rw is refl
fil_form d k fils.L is = rw is refl

pub infinite_form : (d : Dimen) (k : Factor) (o : Infinity) → d.piece ≡ pieces.Infinite k o → FormIs false (dimen_left d)
unfolding dimen_left more_ls keyword
infinite_form d k infinities.Fil is = rw is refl
infinite_form d k infinities.Fill is = rw is refl
infinite_form d k infinities.Filll is = rw is refl

pub ruleset forms = (fil_form, infinite_form, signs_form, register_form, whole_form, constant_form, fraction_form, unit_form, unit_register_form, letter_form, space_form)

-- ---- beginnings

negated : (b : Bool) (a : Answer Amount) → (a >>= with_sign true) >>= with_sign b ≡ a >>= with_sign (not b)
negated b (Got a context rest) = rw (turned b a.size) refl
negated b (Needs form) = refl
negated b (Bad kind) = refl

pub signs_space : (b : Manner) (token : Token) (context : Context) (rest : List FedToken) → start token context ≡ starts.Space
    → dimen_left (at b pieces.Signs) (fed token context ∷ rest) ≡ dimen_left (at b pieces.Signs) rest
unfolding dimen_left dimen
signs_space b token context rest is = rw is refl

pub signs_plus : (b : Manner) (token : Token) (context : Context) (rest : List FedToken) → start token context ≡ starts.Plus
    → dimen_left (at b pieces.Signs) (fed token context ∷ rest) ≡ dimen_left (at b pieces.Signs) rest
unfolding dimen_left dimen
signs_plus b token context rest is = rw is refl

pub signs_minus : (b : Manner) (token : Token) (context : Context) (rest : List FedToken) → start token context ≡ starts.Minus
    → dimen_left (at b pieces.Signs) (fed token context ∷ rest) ≡ dimen_left (at (turned_manner b) pieces.Signs) rest
unfolding dimen_left dimen
signs_minus b token context rest is = rw is (negated b.negative (dimen b.infinite rest))

pub signs_digit : (b : Manner) (token : Token) (context : Context) (rest : List FedToken) → start token context ≡ starts.Digit
    → dimen_left (at b pieces.Signs) (fed token context ∷ rest) ≡ dimen_left (at b (pieces.Whole 0)) (fed token context ∷ rest)
unfolding dimen_left dimen decimal_unit
signs_digit b token context rest is = rw is refl

pub signs_point : (b : Manner) (token : Token) (context : Context) (rest : List FedToken) (ds : List ℕ) → start token context ≡ starts.Point → ds ≡ []
    → dimen_left (at b pieces.Signs) (fed token context ∷ rest) ≡ dimen_left (at b (pieces.Fraction 0 ds)) rest
unfolding dimen_left dimen fraction
signs_point b token context rest ds is none = rw (is, none) refl

pub signs_octal : (b : Manner) (token : Token) (context : Context) (rest : List FedToken) → start token context ≡ starts.Octal
    → dimen_left (at b pieces.Signs) (fed token context ∷ rest) ≡ dimen_left (at b (pieces.Constant (constants.First radices.Octal))) rest
unfolding dimen_left dimen constant_left
signs_octal b token context rest is = rw is refl

pub signs_hexadecimal : (b : Manner) (token : Token) (context : Context) (rest : List FedToken) → start token context ≡ starts.Hexadecimal
    → dimen_left (at b pieces.Signs) (fed token context ∷ rest) ≡ dimen_left (at b (pieces.Constant (constants.First radices.Hexadecimal))) rest
unfolding dimen_left dimen constant_left
signs_hexadecimal b token context rest is = rw is refl

pub signs_backquote : (b : Manner) (token : Token) (context : Context) (rest : List FedToken) → start token context ≡ starts.Backquote
    → dimen_left (at b pieces.Signs) (fed token context ∷ rest) ≡ dimen_left (at b (pieces.Constant constants.Character)) rest
unfolding dimen_left dimen constant_left
signs_backquote b token context rest is = rw is refl

pub signs_internal : (b : Manner) (q : Quantity) (token : Token) (context : Context) (rest : List FedToken) → start token context ≡ starts.Internal q
    → dimen_left (at b pieces.Signs) (fed token context ∷ rest) ≡ quantity_left b q context true (fed token context ∷ rest)
unfolding dimen_left dimen quantity_left
signs_internal b q token context rest is = rw is refl

pub signs_register : (b : Manner) (r : Register) (i : Integer) (token : Token) (context : Context) (rest : List FedToken) → start token context ≡ starts.Register r
    → ((list : List FedToken) → integer_left i list ≡ integer list)
    → dimen_left (at b pieces.Signs) (fed token context ∷ rest) ≡ dimen_left (at b (pieces.Register r i)) rest
unfolding dimen_left dimen
signs_register b r i token context rest is fresh = rw (is, fresh rest) refl

pub signs_other : (b : Manner) (token : Token) (context : Context) (rest : List FedToken) → start token context ≡ starts.Other
    → dimen_left (at b pieces.Signs) (fed token context ∷ rest) ≡ Bad NoNumber
unfolding dimen_left dimen
signs_other b token context rest is = rw is refl

pub signs_refused : (b : Manner) (kind : ScanKind) (token : Token) (context : Context) (rest : List FedToken) → start token context ≡ starts.Refused kind
    → dimen_left (at b pieces.Signs) (fed token context ∷ rest) ≡ Bad kind
unfolding dimen_left dimen
signs_refused b kind token context rest is = rw is refl

pub ruleset begun = (signs_refused, signs_space, signs_plus, signs_minus, signs_point, signs_octal, signs_hexadecimal, signs_backquote, signs_register, signs_other)

-- ---- quantities

two_signs : (b c : Bool) (a : Answer Amount) → (a >>= with_sign c) >>= with_sign b ≡ a >>= with_sign (cond c (not b) b)
two_signs b true (Got a context rest) = rw (turned b a.size) refl
two_signs b false (Got d context rest) = refl
two_signs b c (Needs form) = refl
two_signs b c (Bad kind) = refl

of_whole : (infinite : Bool) (q : Quantity) (context : Context) (rest : List FedToken) → is_whole q ≡ true → from_quantity infinite q context rest ≡ dimen_range orders.Normal (integer_of q) context rest
of_whole infinite (quantities.Dimen d) context rest is = refl
of_whole infinite (quantities.Glue g) context rest is = refl
of_whole infinite (quantities.Integer n) context rest is = absurd (false_is_not_true is)

pub quantity_whole : (b : Manner) (q : Quantity) (v : Amount) (taken : Bool) (x : FedToken) (rest : List FedToken) → is_whole q ≡ true
    → finished b orders.Normal (integer_of q) x.context (left_of taken (x ∷ rest)) ≡ Got v x.context (left_of taken (x ∷ rest))
    → quantity_left b q x.context taken (x ∷ rest) ≡ whole v taken x rest
unfolding quantity_left finished
quantity_whole b q v taken x rest is done = rw (of_whole b.infinite q x.context (left_of taken (x ∷ rest)) is) done

pub quantity_bad : (b : Manner) (q : Quantity) (kind : ScanKind) (taken : Bool) (x : FedToken) (rest : List FedToken) → is_whole q ≡ true
    → finished b orders.Normal (integer_of q) x.context (left_of taken (x ∷ rest)) ≡ Bad kind
    → quantity_left b q x.context taken (x ∷ rest) ≡ Bad kind
unfolding quantity_left finished
quantity_bad b q kind taken x rest is done = rw (of_whole b.infinite q x.context (left_of taken (x ∷ rest)) is) done

by_sign : (b : Manner) (c : Bool) (k : Factor) (list : List FedToken)
    → (unit b.infinite k list >>= with_sign c) >>= with_sign b.negative ≡ dimen_left (at (cond c (turned_manner b) b) (pieces.Unit k)) list
unfolding dimen_left
by_sign b true k list = two_signs b.negative true (unit b.infinite k list)
by_sign b false k list = two_signs b.negative false (unit b.infinite k list)

pub quantity_integer : (b : Manner) (q : Quantity) (n : ℤ) (taken : Bool) (token : Token) (context : Context) (rest : List FedToken) → q ≡ quantities.Integer n
    → quantity_left b q context taken (fed token context ∷ rest)
    ≡ dimen_left (at (cond (is_negative (integer_of q)) (turned_manner b) b) (pieces.Unit (factor (unsigned_abs (integer_of q)) 0))) (left_of taken (fed token context ∷ rest))
unfolding quantity_left dimen_left
quantity_integer b q n taken token context rest is = rw is (by_sign b (is_negative n) (factor (unsigned_abs n) 0) (left_of taken (fed token context ∷ rest)))

-- ---- units after a space

own_space : (f : Bool) (k : Factor) (token : Token) (context : Context) (rest : List FedToken) → start token context ≡ starts.Space → unit f k rest ≡ unit f k (fed token context ∷ rest)
unfolding unit
own_space f k token context rest is = rw is refl

space_by_start : {A : Type 0} (f : Bool) (k : A → Factor) (v : A) (token : Token) (context : Context) (rest : List FedToken) (s : Start) → start token context ≡ s
    → optional_space v (fed token context ∷ rest) >>= (λ w at left. unit f (k w) left) ≡ unit f (k v) (fed token context ∷ rest)
unfolding optional_space
space_by_start f k v token context rest starts.Space is = rw is (own_space f (k v) token context rest is)
space_by_start f k v token context rest starts.Plus is = rw is refl
space_by_start f k v token context rest starts.Minus is = rw is refl
space_by_start f k v token context rest starts.Digit is = rw is refl
space_by_start f k v token context rest starts.Octal is = rw is refl
space_by_start f k v token context rest starts.Hexadecimal is = rw is refl
space_by_start f k v token context rest starts.Backquote is = rw is refl
space_by_start f k v token context rest starts.Point is = rw is refl
space_by_start f k v token context rest (starts.Internal q) is = rw is refl
space_by_start f k v token context rest (starts.Register r) is = rw is refl
space_by_start f k v token context rest (starts.Refused kind) is = rw is refl
space_by_start f k v token context rest starts.Other is = rw is refl

-- An optional space before a unit is one of the unit's own.
space_before_unit : {A : Type 0} (f : Bool) (k : A → Factor) (v : A) (token : Token) (context : Context) (rest : List FedToken)
    → optional_space v (fed token context ∷ rest) >>= (λ w at left. unit f (k w) left) ≡ unit f (k v) (fed token context ∷ rest)
space_before_unit f k v token context rest = space_by_start f k v token context rest (start token context) refl

-- ---- digits before a decimal point

further_whole : (f : Bool) (n d m : ℕ) (a : Answer (List ℕ)) → m ≡ min (n * 10 + d) 4294967295
    → (a >>= λ ds context left. Got (d ∷ ds) context left) >>= whole_digits f n ≡ a >>= whole_digits f m
unfolding spelled
further_whole f n d m (Got ds context rest) is = rw (capped radices.Decimal (n * 10 + d) m ds context rest is) refl
further_whole f n d m (Needs form) is = refl
further_whole f n d m (Bad kind) is = refl

pub whole_some : (b : Manner) (n d m : ℕ) (token : Token) (context : Context) (rest : List FedToken) → digit radices.Decimal token ≡ Some d → m ≡ min (n * 10 + d) 4294967295
    → dimen_left (at b (pieces.Whole n)) (fed token context ∷ rest) ≡ dimen_left (at b (pieces.Whole m)) rest
unfolding dimen_left digits
whole_some b n d m token context rest is next = rw (is, further_whole b.infinite n d m (digits radices.Decimal rest) next) refl

pub whole_too_great : (b : Manner) (n : ℕ) (token : Token) (context : Context) (rest : List FedToken) → digit radices.Decimal token ≡ None → 2147483647 < n
    → dimen_left (at b (pieces.Whole n)) (fed token context ∷ rest) ≡ Bad NumberRange
unfolding dimen_left digits spelled
whole_too_great b n token context rest is great = rw (is, too_great n context (fed token context ∷ rest) great) refl

pub whole_point : (b : Manner) (n : ℕ) (ds : List ℕ) (token : Token) (context : Context) (rest : List FedToken) → digit radices.Decimal token ≡ None → n ≤ 2147483647 → start token context ≡ starts.Point
    → ds ≡ []
    → dimen_left (at b (pieces.Whole n)) (fed token context ∷ rest) ≡ dimen_left (at b (pieces.Fraction n ds)) rest
unfolding dimen_left digits spelled point fraction
whole_point b n ds token context rest is small here none = rw (is, fits n context (fed token context ∷ rest) small, here, none) refl

point_by_start : (f : Bool) (n : ℕ) (token : Token) (context : Context) (rest : List FedToken) (s : Start) → s ≢ starts.Point
    → point_from s f n (fed token context) rest ≡ unit f (factor n 0) (fed token context ∷ rest)
point_by_start f n token context rest starts.Point other = absurd (other refl)
point_by_start f n token context rest starts.Space other = space_before_unit f (λ w. factor w 0) n token context rest
point_by_start f n token context rest starts.Plus other = space_before_unit f (λ w. factor w 0) n token context rest
point_by_start f n token context rest starts.Minus other = space_before_unit f (λ w. factor w 0) n token context rest
point_by_start f n token context rest starts.Digit other = space_before_unit f (λ w. factor w 0) n token context rest
point_by_start f n token context rest starts.Octal other = space_before_unit f (λ w. factor w 0) n token context rest
point_by_start f n token context rest starts.Hexadecimal other = space_before_unit f (λ w. factor w 0) n token context rest
point_by_start f n token context rest starts.Backquote other = space_before_unit f (λ w. factor w 0) n token context rest
point_by_start f n token context rest (starts.Internal q) other = space_before_unit f (λ w. factor w 0) n token context rest
point_by_start f n token context rest (starts.Register r) other = space_before_unit f (λ w. factor w 0) n token context rest
point_by_start f n token context rest (starts.Refused kind) other = space_before_unit f (λ w. factor w 0) n token context rest
point_by_start f n token context rest starts.Other other = space_before_unit f (λ w. factor w 0) n token context rest

pub whole_unit_follows : (b : Manner) (n : ℕ) (token : Token) (context : Context) (rest : List FedToken) → digit radices.Decimal token ≡ None → n ≤ 2147483647 → start token context ≢ starts.Point
    → dimen_left (at b (pieces.Whole n)) (fed token context ∷ rest) ≡ dimen_left (at b (pieces.Unit (factor n 0))) (fed token context ∷ rest)
unfolding dimen_left digits spelled point
whole_unit_follows b n token context rest is small other = rw (is, fits n context (fed token context ∷ rest) small, point_by_start b.infinite n token context rest (start token context) other) refl

pub ruleset wholes = (whole_some, whole_too_great, whole_point)

-- ---- digits after a decimal point

take_front : (n : ℕ) (xs ys : List ℕ) → take n (take n xs ++ ys) ≡ take n (xs ++ ys)
take_front zero xs ys = refl
take_front (suc n) [] ys = refl
take_front (suc n) (x ∷ xs) ys = ap (λ zs. x ∷ zs) (take_front n xs ys)

-- only the first 17 digits count
seventeen : (ds es : List ℕ) (d : ℕ) → decimal (take 17 (ds ++ d ∷ []) ++ es) ≡ decimal (ds ++ d ∷ es)
seventeen ds es d = rw (take_front 17 (ds ++ d ∷ []) es, append_assoc ds (d ∷ []) es) refl

further_fraction : (f : Bool) (n : ℕ) (ds : List ℕ) (d : ℕ) (a : Answer (List ℕ))
    → (a >>= λ es context left. Got (d ∷ es) context left) >>= more_fraction f n ds ≡ a >>= more_fraction f n (take 17 (ds ++ d ∷ []))
further_fraction f n ds d (Got es context rest) = rw (seventeen ds es d) refl
further_fraction f n ds d (Needs form) = refl
further_fraction f n ds d (Bad kind) = refl

pub fraction_some : (b : Manner) (n : ℕ) (ds : List ℕ) (d : ℕ) (es : List ℕ) (token : Token) (context : Context) (rest : List FedToken) → digit radices.Decimal token ≡ Some d
    → es ≡ take 17 (ds ++ d ∷ [])
    → dimen_left (at b (pieces.Fraction n ds)) (fed token context ∷ rest) ≡ dimen_left (at b (pieces.Fraction n es)) rest
unfolding dimen_left digits
fraction_some b n ds d es token context rest is next = rw (is, next, further_fraction b.infinite n ds d (digits radices.Decimal rest)) refl

pub fraction_unit_follows : (b : Manner) (n : ℕ) (ds : List ℕ) (token : Token) (context : Context) (rest : List FedToken) → digit radices.Decimal token ≡ None
    → dimen_left (at b (pieces.Fraction n ds)) (fed token context ∷ rest) ≡ dimen_left (at b (pieces.Unit (factor n (decimal ds)))) (fed token context ∷ rest)
unfolding dimen_left digits
fraction_unit_follows b n ds token context rest is = rw (is, append-nil ds, space_before_unit b.infinite (λ f. factor n f) (decimal ds) token context rest) refl

pub ruleset fractions = (fraction_some, fraction_some)

-- ---- units

pub unit_space : (b : Manner) (k : Factor) (token : Token) (context : Context) (rest : List FedToken) → start token context ≡ starts.Space
    → dimen_left (at b (pieces.Unit k)) (fed token context ∷ rest) ≡ dimen_left (at b (pieces.Unit k)) rest
unfolding dimen_left unit
unit_space b k token context rest is = rw is refl

pub unit_internal : (b : Manner) (k : Factor) (q : Quantity) (v : Amount) (token : Token) (context : Context) (rest : List FedToken) → start token context ≡ starts.Internal q
    → finished b orders.Normal (times k (integer_of q)) context rest ≡ Got v context rest
    → dimen_left (at b (pieces.Unit k)) (fed token context ∷ rest) ≡ Got v context rest
unfolding dimen_left unit finished
unit_internal b k q v token context rest is done = rw is done

pub unit_internal_bad : (b : Manner) (k : Factor) (q : Quantity) (kind : ScanKind) (token : Token) (context : Context) (rest : List FedToken) → start token context ≡ starts.Internal q
    → finished b orders.Normal (times k (integer_of q)) context rest ≡ Bad kind
    → dimen_left (at b (pieces.Unit k)) (fed token context ∷ rest) ≡ Bad kind
unfolding dimen_left unit finished
unit_internal_bad b k q kind token context rest is done = rw is done

pub unit_register : (b : Manner) (k : Factor) (r : Register) (i : Integer) (token : Token) (context : Context) (rest : List FedToken) → start token context ≡ starts.Register r
    → ((list : List FedToken) → integer_left i list ≡ integer list)
    → dimen_left (at b (pieces.Unit k)) (fed token context ∷ rest) ≡ dimen_left (at b (pieces.UnitRegister k r i)) rest
unfolding dimen_left unit
unit_register b k r i token context rest is fresh = rw (is, fresh rest) refl

unit_by_start : (f : Bool) (k : Factor) (x : FedToken) (rest : List FedToken) (further : Answer Amount) (s : Start) → is_named s ≡ true → unit_from s f k x rest further ≡ named f k (x ∷ rest)
unit_by_start f k x rest further starts.Plus is = refl
unit_by_start f k x rest further starts.Minus is = refl
unit_by_start f k x rest further starts.Digit is = refl
unit_by_start f k x rest further starts.Octal is = refl
unit_by_start f k x rest further starts.Hexadecimal is = refl
unit_by_start f k x rest further starts.Backquote is = refl
unit_by_start f k x rest further starts.Point is = refl
unit_by_start f k x rest further starts.Other is = refl
unit_by_start f k x rest further starts.Space is = absurd (false_is_not_true is)
unit_by_start f k x rest further (starts.Internal q) is = absurd (false_is_not_true is)
unit_by_start f k x rest further (starts.Register r) is = absurd (false_is_not_true is)
unit_by_start f k x rest further (starts.Refused kind) is = absurd (false_is_not_true is)

dark : (s : Start) → is_named s ≡ true → is_space_start s ≡ false
dark starts.Plus is = refl
dark starts.Minus is = refl
dark starts.Digit is = refl
dark starts.Octal is = refl
dark starts.Hexadecimal is = refl
dark starts.Backquote is = refl
dark starts.Point is = refl
dark starts.Other is = refl
dark starts.Space is = absurd (false_is_not_true is)
dark (starts.Internal q) is = absurd (false_is_not_true is)
dark (starts.Register r) is = absurd (false_is_not_true is)
dark (starts.Refused kind) is = absurd (false_is_not_true is)

by_name : (b : Manner) (k : Factor) (token : Token) (context : Context) (rest : List FedToken) → is_named (start token context) ≡ true
    → dimen_left (at b (pieces.Unit k)) (fed token context ∷ rest) ≡ (named b.infinite k (fed token context ∷ rest) >>= with_sign b.negative)
unfolding dimen_left unit
by_name b k token context rest is = rw (unit_by_start b.infinite k (fed token context) rest (unit b.infinite k rest) (start token context) is) refl

is_dark : (token : Token) (context : Context) → is_named (start token context) ≡ true → is_space token context ≡ false
is_dark token context is = dark (start token context) is

finite_whole : (k : Factor) (a : ℕ) (u : Unit) (m : Measure) (token : Token) (context : Context) (rest : List FedToken) → is_space token context ≡ false
    → letter token ≡ Some a → first_of a ≡ firsts.Whole u → of_measure m ≡ measured k u context
    → finite k (fed token context ∷ rest) ≡ optional_space (of_measure m) rest >>= dimen_range orders.Normal
finite_whole k a u m token context rest is here begins same = rw (first_letter a token context rest is here, begins, same) refl

finite_begins : (k : Factor) (a : ℕ) (token : Token) (context : Context) (rest : List FedToken) → is_space token context ≡ false
    → letter token ≡ Some a → first_of a ≡ firsts.Begins
    → finite k (fed token context ∷ rest) ≡ second a rest >>= so_much k
finite_begins k a token context rest is here begins = rw (first_letter a token context rest is here, begins) refl

finite_nothing : (k : Factor) (a : ℕ) (token : Token) (context : Context) (rest : List FedToken) → is_space token context ≡ false
    → letter token ≡ Some a → first_of a ≡ firsts.Nothing
    → finite k (fed token context ∷ rest) ≡ Bad NoUnit
finite_nothing k a token context rest is here begins = rw (first_letter a token context rest is here, begins) refl

finite_none : (k : Factor) (token : Token) (context : Context) (rest : List FedToken) → is_space token context ≡ false → letter token ≡ None
    → finite k (fed token context ∷ rest) ≡ Bad NoUnit
finite_none k token context rest is here = rw (first_none token context rest is here) refl

-- Where a name doesn't begin with f, it is none of an infinite order.
not_fil : (f : Bool) (k : Factor) (token : Token) (context : Context) (rest : List FedToken) → is_space token context ≡ false → is_letter 102 (letter token) ≡ false
    → named f k (fed token context ∷ rest) ≡ finite k (fed token context ∷ rest)
unfolding keyword letters
not_fil true k token context rest is other = rw (is, other) refl
not_fil false k token context rest is other = refl

never_infinite : (k : Factor) (list : List FedToken) → named false k list ≡ finite k list
never_infinite k list = refl

finite_name : (b : Manner) (k : Factor) (token : Token) (context : Context) (rest : List FedToken) → is_named (start token context) ≡ true
    → (b.infinite && is_letter 102 (letter token)) ≡ false
    → dimen_left (at b (pieces.Unit k)) (fed token context ∷ rest) ≡ (finite k (fed token context ∷ rest) >>= with_sign b.negative)
finite_name b k token context rest is none = by_name b k token context rest is ∙ ap (λ a. a >>= with_sign b.negative) (by_flag b.infinite none)
  where
    by_flag : (f : Bool) → (f && is_letter 102 (letter token)) ≡ false → named f k (fed token context ∷ rest) ≡ finite k (fed token context ∷ rest)
    by_flag true none = not_fil true k token context rest (is_dark token context is) none
    by_flag false none = refl

pub name_whole : (b : Manner) (k : Factor) (a : ℕ) (u : Unit) (m : Measure) (token : Token) (context : Context) (rest : List FedToken) → is_named (start token context) ≡ true
    → (b.infinite && is_letter 102 (letter token)) ≡ false
    → letter token ≡ Some a → first_of a ≡ firsts.Whole u → of_measure m ≡ measured k u context
    → dimen_left (at b (pieces.Unit k)) (fed token context ∷ rest) ≡ dimen_left (at b (pieces.Space m)) rest
unfolding dimen_left
name_whole b k a u m token context rest is none here begins same =
    finite_name b k token context rest is none ∙ rw (finite_whole k a u m token context rest (is_dark token context is) here begins same) refl

pub name_begins : (b : Manner) (k : Factor) (a : ℕ) (token : Token) (context : Context) (rest : List FedToken) → is_named (start token context) ≡ true
    → (b.infinite && is_letter 102 (letter token)) ≡ false
    → letter token ≡ Some a → first_of a ≡ firsts.Begins
    → dimen_left (at b (pieces.Unit k)) (fed token context ∷ rest) ≡ dimen_left (at b (pieces.Letter k a)) rest
unfolding dimen_left
name_begins b k a token context rest is none here begins =
    finite_name b k token context rest is none ∙ rw (finite_begins k a token context rest (is_dark token context is) here begins) refl

pub name_nothing : (b : Manner) (k : Factor) (a : ℕ) (token : Token) (context : Context) (rest : List FedToken) → is_named (start token context) ≡ true
    → (b.infinite && is_letter 102 (letter token)) ≡ false
    → letter token ≡ Some a → first_of a ≡ firsts.Nothing
    → dimen_left (at b (pieces.Unit k)) (fed token context ∷ rest) ≡ Bad NoUnit
name_nothing b k a token context rest is none here begins =
    finite_name b k token context rest is none ∙ rw (finite_nothing k a token context rest (is_dark token context is) here begins) refl

pub name_none : (b : Manner) (k : Factor) (token : Token) (context : Context) (rest : List FedToken) → is_named (start token context) ≡ true
    → (b.infinite && is_letter 102 (letter token)) ≡ false
    → letter token ≡ None
    → dimen_left (at b (pieces.Unit k)) (fed token context ∷ rest) ≡ Bad NoUnit
name_none b k token context rest is none here =
    finite_name b k token context rest is none ∙ rw (finite_none k token context rest (is_dark token context is) here) refl

pub ruleset named_steps = (name_whole, name_begins, name_nothing, name_none)

pub unit_refused : (b : Manner) (k : Factor) (kind : ScanKind) (token : Token) (context : Context) (rest : List FedToken) → start token context ≡ starts.Refused kind
    → dimen_left (at b (pieces.Unit k)) (fed token context ∷ rest) ≡ Bad kind
unfolding dimen_left unit
unit_refused b k kind token context rest is = rw is refl

pub ruleset units = (unit_refused, unit_space, unit_register)

-- ---- the letters of a unit

pub letter_some : (b : Manner) (k : Factor) (a c : ℕ) (u : Unit) (m : Measure) (token : Token) (context : Context) (rest : List FedToken) → letter token ≡ Some c → second_of a c ≡ Some u
    → of_measure m ≡ measured k u context
    → dimen_left (at b (pieces.Letter k a)) (fed token context ∷ rest) ≡ dimen_left (at b (pieces.Space m)) rest
unfolding dimen_left second
letter_some b k a c u m token context rest is here same = rw (is, here, same) refl

pub letter_other : (b : Manner) (k : Factor) (a c : ℕ) (token : Token) (context : Context) (rest : List FedToken) → letter token ≡ Some c → second_of a c ≡ None
    → dimen_left (at b (pieces.Letter k a)) (fed token context ∷ rest) ≡ Bad NoUnit
unfolding dimen_left second
letter_other b k a c token context rest is here = rw (is, here) refl

pub letter_none : (b : Manner) (k : Factor) (a : ℕ) (token : Token) (context : Context) (rest : List FedToken) → letter token ≡ None
    → dimen_left (at b (pieces.Letter k a)) (fed token context ∷ rest) ≡ Bad NoUnit
unfolding dimen_left second
letter_none b k a token context rest is = rw is refl

pub ruleset second_letters = (letter_some, letter_other, letter_none)

-- ---- infinite orders

some_is : (o p : Infinity) → Some o ≡ Some p → o ≡ p
some_is o p is = cc

none_is_not_some : (p : Infinity) → None ≡ Some p → ⊥
none_is_not_some p is = cc

-- a letter in every environment, and so no space
letter_is_dark : (token : Token) (context : Context) → is_space token context ≡ false → is_letter 102 (letter token) ≡ true → (later : Context) → is_space token later ≡ false
letter_is_dark token context dark is later = by_letter (letter token) refl is
  where
    by_letter : (o : Option ℕ) → letter token ≡ o → is_letter 102 o ≡ true → is_space token later ≡ false
    by_letter (Some a) here is = dark_always token context a here dark later
    by_letter None here is = absurd (false_is_not_true is)

nothing_of_f : (a : ℕ) → (a == 102) ≡ true → first_of a ≡ firsts.Nothing
nothing_of_f a is = elim (eqb_tells a 102) [
  | inl here ↦ subst (λ n. first_of n ≡ firsts.Nothing) (sym here.1) refl
  | inr other ↦ absurd (false_is_not_true (sym other.0 ∙ is))
]

f_is_no_unit : (k : Factor) (token : Token) (context : Context) (rest : List FedToken) → is_space token context ≡ false → is_letter 102 (letter token) ≡ true
    → finite k (fed token context ∷ rest) ≡ Bad NoUnit
f_is_no_unit k token context rest dark is = by_letter (letter token) refl is
  where
    by_letter : (o : Option ℕ) → letter token ≡ o → is_letter 102 o ≡ true → finite k (fed token context ∷ rest) ≡ Bad NoUnit
    by_letter (Some a) here is = finite_nothing k a token context rest dark here (nothing_of_f a is)
    by_letter None here is = absurd (false_is_not_true is)

-- Where `fil` breaks off after its f, no unit begins with that.
broken_off : (k : Factor) (token : Token) (a : Answer Bool) (context : Context) → is_space token context ≡ false → is_letter 102 (letter token) ≡ true
    → (a >>= or_left (fed token context)) >>= if_fil k ≡ a >>= fil_or_none k
broken_off k token (Got true at rest) context dark is = refl
broken_off k token (Got false at rest) context dark is = f_is_no_unit k token at rest (letter_is_dark token context dark is at) is
broken_off k token (Needs form) context dark is = refl
broken_off k token (Bad kind) context dark is = refl

pub fil_begins : (b : Manner) (k : Factor) (token : Token) (context : Context) (rest : List FedToken) → is_named (start token context) ≡ true
    → (b.infinite && is_letter 102 (letter token)) ≡ true
    → dimen_left (at b (pieces.Unit k)) (fed token context ∷ rest) ≡ dimen_left (at b (pieces.Fil k fils.I)) rest
unfolding dimen_left keyword letters
fil_begins b k token context rest is here =
    by_name b k token context rest is ∙ ap (λ a. a >>= with_sign b.negative) (by_flag b.infinite here)
  where
    dark_here : is_space token context ≡ false
    dark_here = is_dark token context is

    by_flag : (f : Bool) → (f && is_letter 102 (letter token)) ≡ true → named f k (fed token context ∷ rest) ≡ letters (fil_letters fils.I) rest >>= fil_or_none k
    by_flag true here = rw (dark_here, here) (broken_off k token (letters (fil_letters fils.I) rest) context dark_here here)
    by_flag false here = absurd (false_is_not_true here)

lost : (k : Factor) (x : FedToken) (a : Answer Bool) → (a >>= or_left x) >>= fil_or_none k ≡ a >>= fil_or_none k
lost k x (Got true context rest) = refl
lost k x (Got false context rest) = refl
lost k x (Needs form) = refl
lost k x (Bad kind) = refl

pub fil_i : (b : Manner) (k : Factor) (token : Token) (context : Context) (rest : List FedToken) → is_letter 105 (letter token) ≡ true
    → dimen_left (at b (pieces.Fil k fils.I)) (fed token context ∷ rest) ≡ dimen_left (at b (pieces.Fil k fils.L)) rest
unfolding dimen_left letters
fil_i b k token context rest is = rw (is, lost k (fed token context) (letters (fil_letters fils.L) rest)) refl

pub fil_l : (b : Manner) (k : Factor) (token : Token) (context : Context) (rest : List FedToken) → is_letter 108 (letter token) ≡ true
    → dimen_left (at b (pieces.Fil k fils.L)) (fed token context ∷ rest) ≡ dimen_left (at b (pieces.Infinite k infinities.Fil)) rest
unfolding dimen_left letters
fil_l b k token context rest is = rw is refl

pub fil_other : (b : Manner) (k : Factor) (l : FilLetter) (token : Token) (context : Context) (rest : List FedToken) → is_letter (fil_letter l) (letter token) ≡ false
    → dimen_left (at b (pieces.Fil k l)) (fed token context ∷ rest) ≡ Bad NoUnit
unfolding dimen_left letters
fil_other b k fils.I token context rest is = rw is refl
fil_other b k fils.L token context rest is = rw is refl

pub ruleset fil_steps = (fil_i, fil_l, fil_other)

pub infinite_space : (b : Manner) (k : Factor) (o : Infinity) (token : Token) (context : Context) (rest : List FedToken) → true ≡ is_space token context
    → dimen_left (at b (pieces.Infinite k o)) (fed token context ∷ rest) ≡ dimen_left (at b (pieces.Infinite k o)) rest
unfolding dimen_left more_ls keyword
infinite_space b k infinities.Fil token context rest is = rw (← is) refl
infinite_space b k infinities.Fill token context rest is = rw (← is) refl
infinite_space b k infinities.Filll token context rest is = rw (← is) refl

pub infinite_l : (b : Manner) (k : Factor) (o p : Infinity) (token : Token) (context : Context) (rest : List FedToken) → false ≡ is_space token context
    → is_letter 108 (letter token) ≡ true → next_order o ≡ Some p
    → dimen_left (at b (pieces.Infinite k o)) (fed token context ∷ rest) ≡ dimen_left (at b (pieces.Infinite k p)) rest
unfolding dimen_left more_ls keyword letters
infinite_l b k infinities.Fil p token context rest dark is next = rw (← dark, is, ← (some_is infinities.Fill p next)) refl
infinite_l b k infinities.Fill p token context rest dark is next = rw (← dark, is, ← (some_is infinities.Filll p next)) refl
infinite_l b k infinities.Filll p token context rest dark is next = absurd (none_is_not_some p next)

pub infinite_fourth : (b : Manner) (k : Factor) (o : Infinity) (token : Token) (context : Context) (rest : List FedToken) → false ≡ is_space token context
    → is_letter 108 (letter token) ≡ true → next_order o ≡ None
    → dimen_left (at b (pieces.Infinite k o)) (fed token context ∷ rest) ≡ Bad NoUnit
unfolding dimen_left more_ls keyword letters
infinite_fourth b k infinities.Fil token context rest dark is next = absurd (none_is_not_some infinities.Fill (sym next))
infinite_fourth b k infinities.Fill token context rest dark is next = absurd (none_is_not_some infinities.Filll (sym next))
infinite_fourth b k infinities.Filll token context rest dark is next = rw (← dark, is) refl

pub infinite_done : (b : Manner) (k : Factor) (o : Infinity) (v : Amount) (token : Token) (context : Context) (rest : List FedToken) → false ≡ is_space token context
    → is_letter 108 (letter token) ≡ false
    → finished b (order_of o) (measured k Point context) context (fed token context ∷ rest) ≡ Got v context (fed token context ∷ rest)
    → dimen_left (at b (pieces.Infinite k o)) (fed token context ∷ rest) ≡ Got v context (fed token context ∷ rest)
unfolding dimen_left more_ls keyword letters finished
infinite_done b k infinities.Fil v token context rest dark is done = rw (← dark, is) done
infinite_done b k infinities.Fill v token context rest dark is done = rw (← dark, is) done
infinite_done b k infinities.Filll v token context rest dark is done = rw (← dark, is) done

pub infinite_bad : (b : Manner) (k : Factor) (o : Infinity) (kind : ScanKind) (token : Token) (context : Context) (rest : List FedToken) → false ≡ is_space token context
    → is_letter 108 (letter token) ≡ false
    → finished b (order_of o) (measured k Point context) context (fed token context ∷ rest) ≡ Bad kind
    → dimen_left (at b (pieces.Infinite k o)) (fed token context ∷ rest) ≡ Bad kind
unfolding dimen_left more_ls keyword letters finished
infinite_bad b k infinities.Fil kind token context rest dark is done = rw (← dark, is) done
infinite_bad b k infinities.Fill kind token context rest dark is done = rw (← dark, is) done
infinite_bad b k infinities.Filll kind token context rest dark is done = rw (← dark, is) done

pub ruleset infinite_steps = (infinite_space, infinite_l, infinite_fourth)

-- ---- the space after a unit

pub space_done : (b : Manner) (m : Measure) (v : Amount) (taken : Bool) (token : Token) (context : Context) (rest : List FedToken) → taken ≡ is_space token context
    → ((left : List FedToken) → finished b orders.Normal (of_measure m) context left ≡ Got v context left)
    → dimen_left (at b (pieces.Space m)) (fed token context ∷ rest) ≡ whole v taken (fed token context) rest
unfolding dimen_left optional_space finished
space_done b m v true token context rest is done = rw (← is) (done rest)
space_done b m v false token context rest is done = rw (← is) (done (fed token context ∷ rest))

space_by_taken : (b : Manner) (m : Measure) (kind : ScanKind) (taken : Bool) (token : Token) (context : Context) (rest : List FedToken) → taken ≡ is_space token context
    → ((left : List FedToken) → finished b orders.Normal (of_measure m) context left ≡ Bad kind)
    → dimen_left (at b (pieces.Space m)) (fed token context ∷ rest) ≡ Bad kind
unfolding dimen_left optional_space finished
space_by_taken b m kind true token context rest is done = rw (← is) (done rest)
space_by_taken b m kind false token context rest is done = rw (← is) (done (fed token context ∷ rest))

pub space_bad : (b : Manner) (m : Measure) (kind : ScanKind) (token : Token) (context : Context) (rest : List FedToken)
    → ((left : List FedToken) → finished b orders.Normal (of_measure m) context left ≡ Bad kind)
    → dimen_left (at b (pieces.Space m)) (fed token context ∷ rest) ≡ Bad kind
space_bad b m kind token context rest done = space_by_taken b m kind (is_space token context) token context rest refl done

-- ---- registers

pub register_further : (b : Manner) (r : Register) (i j : Integer) (x : FedToken) (rest : List FedToken) → integer_left i (x ∷ rest) ≡ integer_left j rest
    → dimen_left (at b (pieces.Register r i)) (x ∷ rest) ≡ dimen_left (at b (pieces.Register r j)) rest
unfolding dimen_left
register_further b r i j x rest step = rw step refl

pub register_done : (b : Manner) (r : Register) (i : Integer) (n : ℤ) (taken : Bool) (q : Quantity) (token : Token) (context : Context) (rest : List FedToken)
    → integer_left i (fed token context ∷ rest) ≡ whole n taken (fed token context) rest
    → Ok q ≡ reading r n context.env
    → dimen_left (at b (pieces.Register r i)) (fed token context ∷ rest) ≡ quantity_left b q context taken (fed token context ∷ rest)
unfolding dimen_left quantity_left
register_done b r i n taken q token context rest step held = rw (step, read_ok r n q context (left_of taken (fed token context ∷ rest)) held) refl

pub register_range : (b : Manner) (r : Register) (i : Integer) (n : ℤ) (taken : Bool) (kind : ScanKind) (token : Token) (context : Context) (rest : List FedToken)
    → integer_left i (fed token context ∷ rest) ≡ whole n taken (fed token context) rest
    → Err kind ≡ reading r n context.env
    → dimen_left (at b (pieces.Register r i)) (fed token context ∷ rest) ≡ Bad kind
unfolding dimen_left
register_range b r i n taken kind token context rest step held = rw (step, read_err r n kind context (left_of taken (fed token context ∷ rest)) held) refl

pub register_bad : (b : Manner) (r : Register) (i : Integer) (kind : ScanKind) (x : FedToken) (rest : List FedToken) → integer_left i (x ∷ rest) ≡ Bad kind
    → dimen_left (at b (pieces.Register r i)) (x ∷ rest) ≡ Bad kind
unfolding dimen_left
register_bad b r i kind x rest step = rw step refl

pub unit_register_further : (b : Manner) (k : Factor) (r : Register) (i j : Integer) (x : FedToken) (rest : List FedToken) → integer_left i (x ∷ rest) ≡ integer_left j rest
    → dimen_left (at b (pieces.UnitRegister k r i)) (x ∷ rest) ≡ dimen_left (at b (pieces.UnitRegister k r j)) rest
unfolding dimen_left
unit_register_further b k r i j x rest step = rw step refl

pub unit_register_done : (b : Manner) (k : Factor) (r : Register) (i : Integer) (n : ℤ) (taken : Bool) (q : Quantity) (v : Amount) (token : Token) (context : Context) (rest : List FedToken)
    → integer_left i (fed token context ∷ rest) ≡ whole n taken (fed token context) rest
    → Ok q ≡ reading r n context.env
    → ((left : List FedToken) → finished b orders.Normal (times k (integer_of q)) context left ≡ Got v context left)
    → dimen_left (at b (pieces.UnitRegister k r i)) (fed token context ∷ rest) ≡ whole v taken (fed token context) rest
unfolding dimen_left finished
unit_register_done b k r i n taken q v token context rest step held done = rw (step, read_ok r n q context (left_of taken (fed token context ∷ rest)) held) (done (left_of taken (fed token context ∷ rest)))

pub unit_register_dimen_range : (b : Manner) (k : Factor) (r : Register) (i : Integer) (n : ℤ) (taken : Bool) (q : Quantity) (kind : ScanKind) (token : Token) (context : Context) (rest : List FedToken)
    → integer_left i (fed token context ∷ rest) ≡ whole n taken (fed token context) rest
    → Ok q ≡ reading r n context.env
    → ((left : List FedToken) → finished b orders.Normal (times k (integer_of q)) context left ≡ Bad kind)
    → dimen_left (at b (pieces.UnitRegister k r i)) (fed token context ∷ rest) ≡ Bad kind
unfolding dimen_left finished
unit_register_dimen_range b k r i n taken q kind token context rest step held done = rw (step, read_ok r n q context (left_of taken (fed token context ∷ rest)) held) (done (left_of taken (fed token context ∷ rest)))

pub unit_register_range : (b : Manner) (k : Factor) (r : Register) (i : Integer) (n : ℤ) (taken : Bool) (kind : ScanKind) (token : Token) (context : Context) (rest : List FedToken)
    → integer_left i (fed token context ∷ rest) ≡ whole n taken (fed token context) rest
    → Err kind ≡ reading r n context.env
    → dimen_left (at b (pieces.UnitRegister k r i)) (fed token context ∷ rest) ≡ Bad kind
unfolding dimen_left
unit_register_range b k r i n taken kind token context rest step held = rw (step, read_err r n kind context (left_of taken (fed token context ∷ rest)) held) refl

pub unit_register_bad : (b : Manner) (k : Factor) (r : Register) (i : Integer) (kind : ScanKind) (x : FedToken) (rest : List FedToken) → integer_left i (x ∷ rest) ≡ Bad kind
    → dimen_left (at b (pieces.UnitRegister k r i)) (x ∷ rest) ≡ Bad kind
unfolding dimen_left
unit_register_bad b k r i kind x rest step = rw step refl

-- ---- other constants

pub constant_further : (b : Manner) (c d : Constant) (x : FedToken) (rest : List FedToken) → constant_left c (x ∷ rest) ≡ constant_left d rest
    → dimen_left (at b (pieces.Constant c)) (x ∷ rest) ≡ dimen_left (at b (pieces.Constant d)) rest
unfolding dimen_left
constant_further b c d x rest step = rw step refl

pub constant_done : (b : Manner) (c : Constant) (n : ℕ) (taken : Bool) (x : FedToken) (rest : List FedToken) → constant_left c (x ∷ rest) ≡ whole n taken x rest
    → dimen_left (at b (pieces.Constant c)) (x ∷ rest) ≡ dimen_left (at b (pieces.Unit (factor n 0))) (left_of taken (x ∷ rest))
unfolding dimen_left
constant_done b c n taken x rest step = rw step refl

pub constant_bad : (b : Manner) (c : Constant) (kind : ScanKind) (x : FedToken) (rest : List FedToken) → constant_left c (x ∷ rest) ≡ Bad kind
    → dimen_left (at b (pieces.Constant c)) (x ∷ rest) ≡ Bad kind
unfolding dimen_left
constant_bad b c kind x rest step = rw step refl

-- ---- a dimension at this piece

pub at_piece : (d : Dimen) (p : Piece) (list : List FedToken) → d.piece ≡ p → dimen_left d list ≡ dimen_left (at d.manner p) list
unfolding dimen_left
at_piece d p list is = rw is refl

-- what follows a piece follows a dimension at this piece
pub piece_follows : (d : Dimen) (p : Piece) (x : FedToken) (result : Result (Step Dimen CodeAmount) ScanFault) → d.piece ≡ p
    → Follows amount_of dimen_left x (dimen_left (at d.manner p)) result → Follows amount_of dimen_left x (dimen_left d) result
piece_follows d p x result is follows = same_follows amount_of dimen_left x (dimen_left (at d.manner p)) (dimen_left d) result (λ rest. at_piece d p (x ∷ rest) is) follows
