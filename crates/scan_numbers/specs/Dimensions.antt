-- Dimensions (The TeXbook, chapter 24, ⟨dimen⟩), in scaled points.
use Rattle.std.specs.Prelude.{ℕ, ◌+◌, ◌*◌, ◌/◌, ◌%◌, Bool, true, false, ℤ, pos, unsigned_abs, nat_le, List, [], ◌∷◌, if◌then◌else◌, codes}
use Rattle.ts_geometry.specs.Numbers.{decimal}
use Rattle.scan_numbers.specs.Contexts.{Context}
use Rattle.scan_numbers.specs.declared.fault.ScanKind.TheVariants.{NoNumber, NoUnit, DimenRange}
use Rattle.scan_numbers.specs.declared.measure.Unit.{Unit}
use Rattle.scan_numbers.specs.declared.measure.Unit.TheVariants.{Point, Pica, Inch, BigPoint, Centimeter, Millimeter, Didot, Cicero, Scaled, Quarter, Em, Ex, Zw, Zh}
use Rattle.scan_numbers.specs.declared.measure.FontUnit.TheVariants as fonts
use Rattle.scan_numbers.specs.Fonts.{font_unit}
use Rattle.ts_geometry.specs.declared.glue.Order.{Order}
use Rattle.ts_geometry.specs.declared.glue.Order.TheVariants as orders
use Rattle.scan_numbers.specs.declared.dimen.Infinity.{Infinity}
use Rattle.scan_numbers.specs.declared.dimen.Infinity.TheVariants as infinities
use Rattle.scan_numbers.specs.Amounts.{Amount, amount}
use Rattle.scan_numbers.specs.declared.measure.Factor.{Factor}
use Rattle.scan_numbers.specs.declared.measure.Measure.{Measure}
use Rattle.scan_numbers.specs.declared.quantity.Quantity.{Quantity}
use Rattle.scan_numbers.specs.declared.quantity.Quantity.TheVariants as quantities
use Rattle.scan_numbers.specs.declared.start.Start.{Start}
use Rattle.scan_numbers.specs.declared.start.Start.TheVariants as starts
use Rattle.scan_numbers.specs.declared.start.Radix.TheVariants as radices
use Rattle.scan_numbers.specs.Tokens.{FedToken, start}
use Rattle.scan_numbers.specs.Quantities.{integer_of, is_negative}
use Rattle.scan_numbers.specs.Answers.{Answer, Got, Needs, Bad, Expanded, ◌>>=◌}
use Rattle.scan_numbers.specs.Integers.{digits, spelled, in_range, constant, character_constant, optional_space, register, integer, signed}
use Rattle.scan_numbers.specs.Keywords.{keyword}

-- ---- units

-- the names of the units
unfoldable pub unit_names : List (List ℕ × Unit)
unit_names =
    (101 ∷ 109 ∷ [], Em) ∷ (101 ∷ 120 ∷ [], Ex) ∷ (122 ∷ 119 ∷ [], Zw) ∷ (122 ∷ 104 ∷ [], Zh)
    ∷ (105 ∷ 110 ∷ [], Inch) ∷ (112 ∷ 116 ∷ [], Point) ∷ (112 ∷ 99 ∷ [], Pica)
    ∷ (99 ∷ 109 ∷ [], Centimeter) ∷ (109 ∷ 109 ∷ [], Millimeter) ∷ (98 ∷ 112 ∷ [], BigPoint)
    ∷ (100 ∷ 100 ∷ [], Didot) ∷ (99 ∷ 99 ∷ [], Cicero) ∷ (115 ∷ 112 ∷ [], Scaled)
    ∷ (113 ∷ [], Quarter) ∷ (104 ∷ [], Quarter) ∷ []

-- the first of these words that is there
unfoldable pub one_of : List (List ℕ × Unit) → List FedToken → Answer Unit
one_of [] list = Bad NoUnit
one_of (name ∷ names) list = keyword name.0 list >>= λ there context rest. if there then Got name.1 context rest else one_of names rest

-- n and f / 65536 times a / b points
abbrev pub points : ℕ → ℕ → Factor → ℕ
points a b k = 65536 * ((k.whole * a) / b) + (a * k.fraction + 65536 * ((k.whole * a) % b)) / b

-- as much of a dimension v, the part of the fraction cut towards zero
abbrev pub times : Factor → ℤ → ℤ
times k v = signed (is_negative v) (pos (k.whole * unsigned_abs v + (unsigned_abs v * k.fraction) / 65536))

abbrev pub of_measure : Measure → ℤ
of_measure m = signed m.negative (pos m.size)

-- so much of a unit, where the fonts are those of the environment
unfoldable pub measured : Factor → Unit → Context → ℤ
measured k Point context = pos (65536 * k.whole + k.fraction)
measured k Scaled context = pos k.whole
measured k Inch context = pos (points 7227 100 k)
measured k Pica context = pos (points 12 1 k)
measured k Centimeter context = pos (points 7227 254 k)
measured k Millimeter context = pos (points 7227 2540 k)
measured k BigPoint context = pos (points 7227 7200 k)
measured k Didot context = pos (points 1238 1157 k)
measured k Cicero context = pos (points 14856 1157 k)
measured k Quarter context = pos (points 7227 10160 k)
measured k Em context = times k (font_unit fonts.Em context.env)
measured k Ex context = times k (font_unit fonts.Ex context.env)
measured k Zw context = times k (font_unit fonts.Zw context.env)
measured k Zh context = times k (font_unit fonts.Zh context.env)

-- the greatest dimension is 2^30 - 1, and so is the greatest amount of any order
unfoldable pub dimen_range : Order → ℤ → Context → List FedToken → Answer Amount
dimen_range order d context rest = if nat_le (unsigned_abs d) 1073741823 then Got (amount d order) context rest else Bad DimenRange

-- so much of a unit, and one optional space
abbrev pub so_much : Factor → Unit → Context → List FedToken → Answer Amount
so_much k u context rest = optional_space (measured k u context) rest >>= dimen_range orders.Normal

-- ---- units of infinite orders

abbrev pub order_of : Infinity → Order
order_of infinities.Fil = orders.Fil
order_of infinities.Fill = orders.Fill
order_of infinities.Filll = orders.Filll

-- So much of an infinite order; the spaces after it were lost while a further `l` was looked for.
abbrev pub so_infinite : Infinity → Factor → Context → List FedToken → Answer Amount
so_infinite order k context rest = dimen_range (order_of order) (measured k Point context) context rest

abbrev pub if_fourth : Factor → Bool → Context → List FedToken → Answer Amount
if_fourth k true context rest = Bad NoUnit
if_fourth k false context rest = so_infinite infinities.Filll k context rest

abbrev pub if_third : Factor → Bool → Context → List FedToken → Answer Amount
if_third k true context rest = keyword (codes "l") rest >>= if_fourth k
if_third k false context rest = so_infinite infinities.Fill k context rest

abbrev pub if_second : Factor → Bool → Context → List FedToken → Answer Amount
if_second k true context rest = keyword (codes "l") rest >>= if_third k
if_second k false context rest = so_infinite infinities.Fil k context rest

-- what follows the letters of this order: a further `l`, which may stand after spaces
unfoldable pub more_ls : Infinity → Factor → List FedToken → Answer Amount
more_ls infinities.Fil k list = keyword (codes "l") list >>= if_second k
more_ls infinities.Fill k list = keyword (codes "l") list >>= if_third k
more_ls infinities.Filll k list = keyword (codes "l") list >>= if_fourth k

-- a unit by its name, without those of infinite orders
abbrev pub finite : Factor → List FedToken → Answer Amount
finite k list = one_of unit_names list >>= so_much k

abbrev pub if_fil : Factor → Bool → Context → List FedToken → Answer Amount
if_fil k true context rest = more_ls infinities.Fil k rest
if_fil k false context rest = finite k rest

-- a unit by its name, where infinite orders may come or mayn't
abbrev pub named : Bool → Factor → List FedToken → Answer Amount
named true k list = keyword (codes "fil") list >>= if_fil k
named false k list = finite k list

abbrev pub as_unit : Factor → Quantity → Context → List FedToken → Answer Amount
as_unit k q context rest = dimen_range orders.Normal (times k (integer_of q)) context rest

abbrev pub unit_from : Start → Bool → Factor → FedToken → List FedToken → Answer Amount → Answer Amount
unit_from starts.Space infinite k x rest further = further
unit_from (starts.Internal q) infinite k x rest further = as_unit k q x.context rest
unit_from (starts.Register r) infinite k x rest further = integer rest >>= register r >>= as_unit k
unit_from (starts.Refused kind) infinite k x rest further = Bad kind
unit_from _ infinite k x rest further = named infinite k (x ∷ rest)

-- optional spaces and a unit: an internal quantity or a name
unfoldable pub unit : Bool → Factor → List FedToken → Answer Amount
unit infinite k [] = Needs Expanded
unit infinite k (x ∷ rest) = unit_from (start x.token x.context) infinite k x rest (unit infinite k rest)

-- ---- factors

abbrev pub factor : ℕ → ℕ → Factor
factor n f = record { whole = n; fraction = f }

-- a whole factor and its unit
abbrev pub whole_unit : Bool → ℕ → Context → List FedToken → Answer Amount
whole_unit infinite n context rest = unit infinite (factor n 0) rest

-- the digits after a decimal point, one optional space and the unit
abbrev pub fraction_unit : Bool → ℕ → List ℕ → Context → List FedToken → Answer Amount
fraction_unit infinite n ds context rest = optional_space (decimal ds) rest >>= λ f at left. unit infinite (factor n f) left

unfoldable pub fraction : Bool → ℕ → List FedToken → Answer Amount
fraction infinite n list = digits radices.Decimal list >>= fraction_unit infinite n

-- what follows the digits before a decimal point: the point, or one optional space and the unit
abbrev pub point_from : Start → Bool → ℕ → FedToken → List FedToken → Answer Amount
point_from starts.Point infinite n x rest = fraction infinite n rest
point_from _ infinite n x rest = optional_space n (x ∷ rest) >>= whole_unit infinite

unfoldable pub point : Bool → ℕ → Context → List FedToken → Answer Amount
point infinite n context [] = Needs Expanded
point infinite n context (x ∷ rest) = point_from (start x.token x.context) infinite n x rest

abbrev pub whole_digits : Bool → ℕ → List ℕ → Context → List FedToken → Answer Amount
whole_digits infinite n ds context rest = in_range (spelled radices.Decimal n ds) context rest >>= point infinite

-- a decimal constant and its unit
unfoldable pub decimal_unit : Bool → List FedToken → Answer Amount
decimal_unit infinite list = digits radices.Decimal list >>= whole_digits infinite 0

-- ---- dimensions

abbrev pub with_sign : Bool → Amount → Context → List FedToken → Answer Amount
with_sign sign a context rest = Got (amount (signed sign a.size) a.order) context rest

-- An internal dimension is whole, and so is the width of a glue; an internal integer is a factor.
abbrev pub from_quantity : Bool → Quantity → Context → List FedToken → Answer Amount
from_quantity infinite (quantities.Dimen d) context rest = dimen_range orders.Normal d context rest
from_quantity infinite (quantities.Glue g) context rest = dimen_range orders.Normal g.width context rest
from_quantity infinite (quantities.Integer n) context rest = unit infinite (factor (unsigned_abs n) 0) rest >>= with_sign (is_negative n)

abbrev pub dimen_from : Start → Bool → FedToken → List FedToken → Answer Amount → Answer Amount
dimen_from starts.Space infinite x rest further = further
dimen_from starts.Plus infinite x rest further = further
dimen_from starts.Minus infinite x rest further = further >>= with_sign true
dimen_from starts.Digit infinite x rest further = decimal_unit infinite (x ∷ rest)
dimen_from starts.Point infinite x rest further = fraction infinite 0 rest
dimen_from starts.Octal infinite x rest further = constant radices.Octal rest >>= whole_unit infinite
dimen_from starts.Hexadecimal infinite x rest further = constant radices.Hexadecimal rest >>= whole_unit infinite
dimen_from starts.Backquote infinite x rest further = character_constant rest >>= whole_unit infinite
dimen_from (starts.Internal q) infinite x rest further = from_quantity infinite q x.context rest
dimen_from (starts.Register r) infinite x rest further = integer rest >>= register r >>= from_quantity infinite
dimen_from (starts.Refused kind) infinite x rest further = Bad kind
dimen_from starts.Other infinite x rest further = Bad NoNumber

-- a dimension, or an amount of any order where infinite orders may come
unfoldable pub dimen : Bool → List FedToken → Answer Amount
dimen infinite [] = Needs Expanded
dimen infinite (x ∷ rest) = dimen_from (start x.token x.context) infinite x rest (dimen infinite rest)

-- a dimension of no infinite order, after signs
abbrev pub dimen_signed : Bool → List FedToken → Answer Amount
dimen_signed sign list = dimen false list >>= with_sign sign
