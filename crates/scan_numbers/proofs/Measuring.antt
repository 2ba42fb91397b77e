-- What dimensions leave, and that they are within the greatest dimension.
use Rattle.std.proofs.Common.{◌≡◌, ◌∙◌, ℕ, ℤ, Bool, true, false, List, [], ◌∷◌, Result, Ok, Err, refl, arith}
use Rattle.std.specs.Prelude.{if◌then◌else◌, codes, nat_le, unsigned_abs, pos, negsuc}
use Rattle.std.proofs.lemmas.Bool.{leb-true}
use Rattle.std.proofs.lemmas.Int.{ints}
use Rattle.ts_geometry.specs.Numbers.{IsWithin, max_dimen, decimal}
use Rattle.ts_geometry.specs.declared.glue.Order.{Order}
use Rattle.ts_geometry.specs.declared.glue.Order.TheVariants as orders
use Rattle.scan_numbers.specs.declared.fault.ScanKind.TheVariants.{DimenRange}
use Rattle.scan_numbers.specs.declared.measure.Unit.{Unit as MeasureUnit}
use Rattle.scan_numbers.specs.declared.measure.Unit.TheVariants.{Point}
use Rattle.scan_numbers.specs.declared.measure.Factor.{Factor}
use Rattle.scan_numbers.specs.declared.dimen.Infinity.{Infinity}
use Rattle.scan_numbers.specs.declared.dimen.Infinity.TheVariants as infinities
use Rattle.scan_numbers.specs.declared.quantity.Quantity.{Quantity}
use Rattle.scan_numbers.specs.declared.quantity.Quantity.TheVariants as quantities
use Rattle.scan_numbers.specs.declared.quantity.Register.{Register}
use Rattle.scan_numbers.specs.declared.start.Radix.TheVariants as radices
use Rattle.scan_numbers.specs.declared.start.Start.{Start}
use Rattle.scan_numbers.specs.declared.start.Start.TheVariants as starts
use Rattle.scan_numbers.specs.Contexts.{Context}
use Rattle.scan_numbers.specs.Tokens.{FedToken, start, is_space}
use Rattle.scan_numbers.specs.Quantities.{integer_of, is_negative}
use Rattle.scan_numbers.specs.Amounts.{Amount, amount}
use Rattle.scan_numbers.specs.Answers.{Answer, Got, Needs, Bad, ◌>>=◌}
use Rattle.scan_numbers.specs.Integers.{optional_space, digits, spelled, in_range, constant, character_constant, register, integer, signed}
use Rattle.scan_numbers.specs.Keywords.{keyword}
use Rattle.scan_numbers.specs.Dimensions.{one_of, unit_names, measured, times, dimen_range, so_much, order_of, so_infinite, if_fourth, if_third, if_second, more_ls, finite, if_fil, named, as_unit, unit_from, unit, factor, whole_unit, fraction_unit, fraction, point_from, point, whole_digits, decimal_unit, with_sign, from_quantity, dimen_from, dimen}
use Rattle.scan_numbers.proofs.Leaving.{Gives, All, IsSmall, itself, after, both, either, space_gives, digits_give, range_gives, constant_gives, character_gives, register_gives, integer_gives, keyword_gives}

-- ---- how much

within_size : (d : ℤ) → nat_le (unsigned_abs d) 1073741823 ≡ true → IsWithin max_dimen d
within_size (pos n) is = let le = leb-true n 1073741823 is in (omega (arith, ints), omega (arith, ints, le))
within_size (negsuc n) is = let le = leb-true (unsigned_abs (negsuc n)) 1073741823 is in (omega (arith, ints, le), omega (arith, ints))

within_signed : (b : Bool) (d : ℤ) → IsWithin max_dimen d → IsWithin max_dimen (signed b d)
within_signed true d within = (omega (arith, ints, within), omega (arith, ints, within))
within_signed false d within = within

tested : (b : Bool) (a : Amount) (context : Context) (rest : List FedToken) → (b ≡ true → IsSmall a context)
    → Gives IsSmall rest (if b then Got a context rest else Bad DimenRange)
tested true a context rest small = (small refl, itself rest)
tested false a context rest small = tt

range_small : (order : Order) (d : ℤ) (context : Context) (rest : List FedToken) → Gives IsSmall rest (dimen_range order d context rest)
unfolding dimen_range
range_small order d context rest = tested (nat_le (unsigned_abs d) 1073741823) (amount d order) context rest (within_size d)

pub signed_gives : (b : Bool) (list : List FedToken) (answer : Answer Amount) → Gives IsSmall list answer → Gives IsSmall list (answer >>= with_sign b)
signed_gives b list answer gives = both IsSmall IsSmall list answer (with_sign b) gives (λ a context rest small. (within_signed b a.size small, itself rest))

-- ---- units

so_much_gives : (k : Factor) (u : MeasureUnit) (context : Context) (rest : List FedToken) → Gives IsSmall rest (so_much k u context rest)
so_much_gives k u context rest =
    both All IsSmall rest (optional_space (measured k u context) rest) (dimen_range orders.Normal)
    (space_gives All (measured k u context) rest (λ c. tt)) (λ d c left found. range_small orders.Normal d c left)

one_gives : (names : List (List ℕ × MeasureUnit)) (list : List FedToken) → Gives All list (one_of names list)
unfolding one_of
one_gives [] list = tt
one_gives (name ∷ names) list =
    both All All list (keyword name.0 list) _ (keyword_gives name.0 list)
    (λ there c left found. either All there left (Got name.1 c left) (one_of names left) (tt, itself left) (one_gives names left))

so_infinite_gives : (order : Infinity) (k : Factor) (context : Context) (rest : List FedToken) → Gives IsSmall rest (so_infinite order k context rest)
so_infinite_gives order k context rest = range_small (order_of order) (measured k Point context) context rest

fourth_gives : (k : Factor) (b : Bool) (context : Context) (rest : List FedToken) → Gives IsSmall rest (if_fourth k b context rest)
fourth_gives k true context rest = tt
fourth_gives k false context rest = so_infinite_gives infinities.Filll k context rest

third_gives : (k : Factor) (b : Bool) (context : Context) (rest : List FedToken) → Gives IsSmall rest (if_third k b context rest)
third_gives k true context rest = both All IsSmall rest (keyword (codes "l") rest) (if_fourth k) (keyword_gives (codes "l") rest) (λ b c left found. fourth_gives k b c left)
third_gives k false context rest = so_infinite_gives infinities.Fill k context rest

second_gives : (k : Factor) (b : Bool) (context : Context) (rest : List FedToken) → Gives IsSmall rest (if_second k b context rest)
second_gives k true context rest = both All IsSmall rest (keyword (codes "l") rest) (if_third k) (keyword_gives (codes "l") rest) (λ b c left found. third_gives k b c left)
second_gives k false context rest = so_infinite_gives infinities.Fil k context rest

fil_gives : (k : Factor) (list : List FedToken) → Gives IsSmall list (more_ls infinities.Fil k list)
unfolding more_ls
fil_gives k list = both All IsSmall list (keyword (codes "l") list) (if_second k) (keyword_gives (codes "l") list) (λ b c left found. second_gives k b c left)

finite_gives : (k : Factor) (list : List FedToken) → Gives IsSmall list (finite k list)
finite_gives k list = both All IsSmall list (one_of unit_names list) (so_much k) (one_gives unit_names list) (λ u c left found. so_much_gives k u c left)

if_fil_gives : (k : Factor) (b : Bool) (context : Context) (rest : List FedToken) → Gives IsSmall rest (if_fil k b context rest)
if_fil_gives k true context rest = fil_gives k rest
if_fil_gives k false context rest = finite_gives k rest

named_gives : (infinite : Bool) (k : Factor) (list : List FedToken) → Gives IsSmall list (named infinite k list)
named_gives true k list = both All IsSmall list (keyword (codes "fil") list) (if_fil k) (keyword_gives (codes "fil") list) (λ b c left found. if_fil_gives k b c left)
named_gives false k list = finite_gives k list

as_unit_gives : (k : Factor) (q : Quantity) (context : Context) (rest : List FedToken) → Gives IsSmall rest (as_unit k q context rest)
as_unit_gives k q context rest = range_small orders.Normal (times k (integer_of q)) context rest

-- an integer, the register of that number, and what follows
pub register_then : {B : Type 0} (Found : B → Context → Type 0) (x : FedToken) (rest : List FedToken) (r : Register) (part : Quantity → Context → List FedToken → Answer B)
    → ((q : Quantity) (context : Context) (left : List FedToken) → Gives Found left (part q context left))
    → Gives Found (x ∷ rest) (integer rest >>= register r >>= part)
register_then Found x rest r part parts =
    after Found x rest (integer rest >>= register r >>= part)
    (both All Found rest (integer rest >>= register r) part
    (both All All rest (integer rest) (register r) (integer_gives rest) (λ n c left found. register_gives r n c left))
    (λ q c left found. parts q c left))

unit_from_gives : (s : Start) (infinite : Bool) (k : Factor) (x : FedToken) (rest : List FedToken) (further : Answer Amount) → Gives IsSmall rest further
    → Gives IsSmall (x ∷ rest) (unit_from s infinite k x rest further)
unit_from_gives starts.Space infinite k x rest further gives = after IsSmall x rest further gives
unit_from_gives (starts.Internal q) infinite k x rest further gives = after IsSmall x rest (as_unit k q x.context rest) (as_unit_gives k q x.context rest)
unit_from_gives (starts.Register r) infinite k x rest further gives = register_then IsSmall x rest r (as_unit k) (as_unit_gives k)
unit_from_gives (starts.Refused kind) infinite k x rest further gives = tt
unit_from_gives starts.Plus infinite k x rest further gives = named_gives infinite k (x ∷ rest)
unit_from_gives starts.Minus infinite k x rest further gives = named_gives infinite k (x ∷ rest)
unit_from_gives starts.Digit infinite k x rest further gives = named_gives infinite k (x ∷ rest)
unit_from_gives starts.Octal infinite k x rest further gives = named_gives infinite k (x ∷ rest)
unit_from_gives starts.Hexadecimal infinite k x rest further gives = named_gives infinite k (x ∷ rest)
unit_from_gives starts.Backquote infinite k x rest further gives = named_gives infinite k (x ∷ rest)
unit_from_gives starts.Point infinite k x rest further gives = named_gives infinite k (x ∷ rest)
unit_from_gives starts.Other infinite k x rest further gives = named_gives infinite k (x ∷ rest)

unit_gives : (infinite : Bool) (k : Factor) (list : List FedToken) → Gives IsSmall list (unit infinite k list)
unfolding unit
unit_gives infinite k [] = tt
unit_gives infinite k (x ∷ rest) = unit_from_gives (start x.token x.context) infinite k x rest (unit infinite k rest) (unit_gives infinite k rest)

-- ---- factors

whole_gives : (infinite : Bool) (list : List FedToken) (answer : Answer ℕ) → Gives All list answer → Gives IsSmall list (answer >>= whole_unit infinite)
whole_gives infinite list answer gives = both All IsSmall list answer (whole_unit infinite) gives (λ n c left found. unit_gives infinite (factor n 0) left)

fraction_unit_gives : (infinite : Bool) (n : ℕ) (ds : List ℕ) (context : Context) (rest : List FedToken) → Gives IsSmall rest (fraction_unit infinite n ds context rest)
fraction_unit_gives infinite n ds context rest =
    both All IsSmall rest (optional_space (decimal ds) rest) _ (space_gives All (decimal ds) rest (λ c. tt)) (λ f c left found. unit_gives infinite (factor n f) left)

fraction_gives : (infinite : Bool) (n : ℕ) (list : List FedToken) → Gives IsSmall list (fraction infinite n list)
unfolding fraction
fraction_gives infinite n list =
    both All IsSmall list (digits radices.Decimal list) (fraction_unit infinite n) (digits_give radices.Decimal list) (λ ds c left found. fraction_unit_gives infinite n ds c left)

no_point_gives : (infinite : Bool) (n : ℕ) (list : List FedToken) → Gives IsSmall list (optional_space n list >>= whole_unit infinite)
no_point_gives infinite n list = whole_gives infinite list (optional_space n list) (space_gives All n list (λ c. tt))

point_from_gives : (s : Start) (infinite : Bool) (n : ℕ) (x : FedToken) (rest : List FedToken) → Gives IsSmall (x ∷ rest) (point_from s infinite n x rest)
point_from_gives starts.Point infinite n x rest = after IsSmall x rest (fraction infinite n rest) (fraction_gives infinite n rest)
point_from_gives starts.Space infinite n x rest = no_point_gives infinite n (x ∷ rest)
point_from_gives starts.Plus infinite n x rest = no_point_gives infinite n (x ∷ rest)
point_from_gives starts.Minus infinite n x rest = no_point_gives infinite n (x ∷ rest)
point_from_gives starts.Digit infinite n x rest = no_point_gives infinite n (x ∷ rest)
point_from_gives starts.Octal infinite n x rest = no_point_gives infinite n (x ∷ rest)
point_from_gives starts.Hexadecimal infinite n x rest = no_point_gives infinite n (x ∷ rest)
point_from_gives starts.Backquote infinite n x rest = no_point_gives infinite n (x ∷ rest)
point_from_gives (starts.Internal q) infinite n x rest = no_point_gives infinite n (x ∷ rest)
point_from_gives (starts.Register r) infinite n x rest = no_point_gives infinite n (x ∷ rest)
point_from_gives (starts.Refused kind) infinite n x rest = no_point_gives infinite n (x ∷ rest)
point_from_gives starts.Other infinite n x rest = no_point_gives infinite n (x ∷ rest)

point_gives : (infinite : Bool) (n : ℕ) (context : Context) (list : List FedToken) → Gives IsSmall list (point infinite n context list)
unfolding point
point_gives infinite n context [] = tt
point_gives infinite n context (x ∷ rest) = point_from_gives (start x.token x.context) infinite n x rest

whole_digits_gives : (infinite : Bool) (ds : List ℕ) (context : Context) (rest : List FedToken) → Gives IsSmall rest (whole_digits infinite 0 ds context rest)
whole_digits_gives infinite ds context rest =
    both All IsSmall rest (in_range (spelled radices.Decimal 0 ds) context rest) (point infinite) (range_gives (spelled radices.Decimal 0 ds) context rest)
    (λ n c left found. point_gives infinite n c left)

decimal_gives : (infinite : Bool) (list : List FedToken) → Gives IsSmall list (decimal_unit infinite list)
unfolding decimal_unit
decimal_gives infinite list =
    both All IsSmall list (digits radices.Decimal list) (whole_digits infinite 0) (digits_give radices.Decimal list) (λ ds c left found. whole_digits_gives infinite ds c left)

-- ---- dimensions

pub quantity_gives : (infinite : Bool) (q : Quantity) (context : Context) (rest : List FedToken) → Gives IsSmall rest (from_quantity infinite q context rest)
quantity_gives infinite (quantities.Dimen d) context rest = range_small orders.Normal d context rest
quantity_gives infinite (quantities.Glue g) context rest = range_small orders.Normal g.width context rest
quantity_gives infinite (quantities.Integer n) context rest =
    signed_gives (is_negative n) rest (unit infinite (factor (unsigned_abs n) 0) rest) (unit_gives infinite (factor (unsigned_abs n) 0) rest)

dimen_from_gives : (s : Start) (infinite : Bool) (x : FedToken) (rest : List FedToken) (further : Answer Amount) → Gives IsSmall rest further
    → Gives IsSmall (x ∷ rest) (dimen_from s infinite x rest further)
dimen_from_gives starts.Space infinite x rest further gives = after IsSmall x rest further gives
dimen_from_gives starts.Plus infinite x rest further gives = after IsSmall x rest further gives
dimen_from_gives starts.Minus infinite x rest further gives = signed_gives true (x ∷ rest) further (after IsSmall x rest further gives)
dimen_from_gives starts.Digit infinite x rest further gives = decimal_gives infinite (x ∷ rest)
dimen_from_gives starts.Point infinite x rest further gives = after IsSmall x rest (fraction infinite 0 rest) (fraction_gives infinite 0 rest)
dimen_from_gives starts.Octal infinite x rest further gives = whole_gives infinite (x ∷ rest) (constant radices.Octal rest) (after All x rest (constant radices.Octal rest) (constant_gives radices.Octal rest))
dimen_from_gives starts.Hexadecimal infinite x rest further gives =
    whole_gives infinite (x ∷ rest) (constant radices.Hexadecimal rest) (after All x rest (constant radices.Hexadecimal rest) (constant_gives radices.Hexadecimal rest))
dimen_from_gives starts.Backquote infinite x rest further gives = whole_gives infinite (x ∷ rest) (character_constant rest) (after All x rest (character_constant rest) (character_gives rest))
dimen_from_gives (starts.Internal q) infinite x rest further gives = after IsSmall x rest (from_quantity infinite q x.context rest) (quantity_gives infinite q x.context rest)
dimen_from_gives (starts.Register r) infinite x rest further gives = register_then IsSmall x rest r (from_quantity infinite) (quantity_gives infinite)
dimen_from_gives (starts.Refused kind) infinite x rest further gives = tt
dimen_from_gives starts.Other infinite x rest further gives = tt

pub dimen_gives : (infinite : Bool) (list : List FedToken) → Gives IsSmall list (dimen infinite list)
unfolding dimen
dimen_gives infinite [] = tt
dimen_gives infinite (x ∷ rest) = dimen_from_gives (start x.token x.context) infinite x rest (dimen infinite rest) (dimen_gives infinite rest)
