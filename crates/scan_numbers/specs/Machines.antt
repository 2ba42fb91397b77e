-- What the machines stand for: the part of the grammar that is still to be read.
use Rattle.std.specs.Prelude.{◌≡◌, ℕ, Bool, true, false, ℤ, List, [], ◌∷◌, ◌++◌, ◌==◌, ◌||◌, not, if◌then◌else◌, codes, Option, Some, None, Result, Ok, Err}
use Rattle.scan_numbers.specs.declared.fault.ScanFault.{ScanFault}
use Rattle.scan_numbers.specs.declared.fault.ScanFault.TheVariants.{Kind, NoMemory}
use Rattle.scan_numbers.specs.declared.step.Step.{Step}
use Rattle.scan_numbers.specs.declared.step.Step.TheVariants.{Further, Done}
use Rattle.scan_numbers.specs.Contexts.{Context}
use Rattle.scan_numbers.specs.declared.start.Radix.{Radix}
use Rattle.scan_numbers.specs.declared.quantity.Quantity.{Quantity}
use Rattle.scan_numbers.specs.declared.quantity.Quantity.TheVariants as quantities
use Rattle.scan_numbers.specs.declared.start.Start.{Start}
use Rattle.scan_numbers.specs.declared.start.Start.TheVariants as starts
use Rattle.scan_numbers.specs.declared.constant.Constant.{Constant}
use Rattle.scan_numbers.specs.declared.constant.Constant.TheVariants as constants
use Rattle.scan_numbers.specs.declared.number.Number.{Number}
use Rattle.scan_numbers.specs.declared.integer.Integer.{Integer}
use Rattle.scan_numbers.specs.declared.integer.Open.{Open}
use Rattle.scan_numbers.specs.declared.integer.Part.{Part}
use Rattle.scan_numbers.specs.declared.integer.Part.TheVariants as parts
use Rattle.scan_numbers.specs.declared.fault.ScanKind.{ScanKind}
use Rattle.scan_numbers.specs.declared.fault.ScanKind.TheVariants.{NoUnit}
use Rattle.scan_numbers.specs.declared.start.Radix.TheVariants as radices
use Rattle.scan_numbers.specs.declared.measure.Factor.{Factor}
use Rattle.scan_numbers.specs.declared.measure.Unit.{Unit}
use Rattle.scan_numbers.specs.declared.measure.Unit.TheVariants.{Point, Pica, Inch, BigPoint, Centimeter, Millimeter, Didot, Cicero, Scaled, Quarter, Em, Ex, Zw, Zh}
use Rattle.scan_numbers.specs.declared.letters.First.{First}
use Rattle.scan_numbers.specs.declared.letters.First.TheVariants as firsts
use Rattle.scan_numbers.specs.declared.dimen.Dimen.{Dimen}
use Rattle.scan_numbers.specs.declared.dimen.Piece.{Piece}
use Rattle.scan_numbers.specs.declared.dimen.Piece.TheVariants as pieces
use Rattle.scan_numbers.specs.declared.dimen.Manner.{Manner}
use Rattle.scan_numbers.specs.declared.dimen.FilLetter.{FilLetter}
use Rattle.scan_numbers.specs.declared.dimen.FilLetter.TheVariants as fils
use Rattle.scan_numbers.specs.declared.amount.Amount.{Amount as CodeAmount}
use Rattle.scan_numbers.specs.Amounts.{Amount, amount}
use Rattle.ts_geometry.specs.declared.glue.Order.{Order}
use Rattle.ts_geometry.specs.declared.glue.Order.TheVariants as orders
use Rattle.scan_numbers.specs.Keywords.{letters}
use Rattle.scan_numbers.specs.Tokens.{FedToken, letter}
use Rattle.scan_numbers.specs.Quantities.{integer_of}
use Rattle.scan_numbers.specs.Answers.{Expanded, Raw, Answer, Got, Needs, Bad, ◌>>=◌}
use Rattle.scan_numbers.specs.Integers.{digits, in_range, spelled, optional_space, constant, character_constant, register, positive, integer, signed}
use Rattle.scan_numbers.specs.Dimensions.{whole_unit, fraction_unit, whole_digits, unit, from_quantity, as_unit, so_much, with_sign, dimen_range, dimen, of_measure, more_ls}
use Rattle.scan_numbers.specs.declared.dimen.Infinity.{Infinity}
use Rattle.scan_numbers.specs.declared.dimen.Infinity.TheVariants as infinities

-- the tokens left where the first one was taken, or wasn't
abbrev pub left_of : Bool → List FedToken → List FedToken
left_of true [] = []
left_of true (x ∷ rest) = rest
left_of false list = list

-- what a part gives that is whole, and that took its last token or left it
abbrev pub whole : {V : Type 0} → V → Bool → FedToken → List FedToken → Answer V
whole value taken x rest = Got value x.context (left_of taken (x ∷ rest))

-- A step of a machine: with the token x and any further ones, what was still to be read gives what the outcome says, with its value seen by view.
abbrev pub Follows : {S V W : Type 0} → (V → W) → (S → List FedToken → Answer W) → FedToken → (List FedToken → Answer W) → Result (Step S V) ScanFault → Type 0
Follows view left x before (Ok (Further state)) = (rest : List FedToken) → before (x ∷ rest) ≡ left state rest
Follows view left x before (Ok (Done value taken)) = (rest : List FedToken) → before (x ∷ rest) ≡ whole (view value) taken x rest
Follows view left x before (Err (Kind kind)) = (rest : List FedToken) → before (x ∷ rest) ≡ Bad kind
Follows view left x before (Err NoMemory) = Prim.Unit {0}

-- A further token is needed, and in which form.
abbrev pub FormIs : {V : Type 0} → Bool → (List FedToken → Answer V) → Type 0
FormIs true left = left [] ≡ Needs Raw
FormIs false left = left [] ≡ Needs Expanded

-- the number that digits spell, after those that spell n
unfoldable pub more_digits : Radix → ℕ → List ℕ → Context → List FedToken → Answer ℕ
more_digits radix n ds context rest = in_range (spelled radix n ds) context rest

-- what is still to be read of a constant
unfoldable pub constant_left : Constant → List FedToken → Answer ℕ
constant_left (constants.First radix) list = constant radix list
constant_left (constants.Digits radix n) list = digits radix list >>= more_digits radix n >>= λ n context rest. optional_space n rest
constant_left constants.Character list = character_constant list
constant_left (constants.Space n) list = optional_space n list

-- ---- integers

abbrev pub same : ℕ → ℕ
same n = n

abbrev pub same_quantity : Quantity → Quantity
same_quantity q = q

abbrev pub value_of : Number → ℤ
value_of n = n.value

-- what comes of a number whose register is open, where `next` takes the integer that the register holds
unfoldable pub into : Open → (ℤ → Context → List FedToken → Answer ℤ) → ℤ → Context → List FedToken → Answer ℤ
into o next n context rest = register o.register n context rest >>= λ q context left. next (signed o.negative (integer_of q)) context left

-- what comes of a number inside of open registers, the outermost first
unfoldable pub outward : List Open → (ℤ → Context → List FedToken → Answer ℤ) → ℤ → Context → List FedToken → Answer ℤ
outward [] next = next
outward (o ∷ os) next = outward os (into o next)

abbrev pub whole_integer : ℤ → Context → List FedToken → Answer ℤ
whole_integer n context rest = Got n context rest

abbrev pub part_left : Part → List FedToken → Answer ℤ
part_left parts.Signs list = integer list
part_left (parts.Constant c) list = constant_left c list >>= positive

-- what is still to be read of an integer
unfoldable pub integer_left : Integer → List FedToken → Answer ℤ
integer_left i list = part_left i.part list >>= λ n context rest. outward i.open.items whole_integer (signed i.negative n) context rest

-- What is read without a further token.
abbrev pub Reads : {V W : Type 0} → (V → W) → Context → (List FedToken → Answer W) → Result V ScanKind → Type 0
Reads view context given (Ok v) = (rest : List FedToken) → given rest ≡ Got (view v) context rest
Reads view context given (Err kind) = (rest : List FedToken) → given rest ≡ Bad kind

-- ---- dimensions

abbrev pub first_of : ℕ → First
first_of a =
    if (a == 113) || (a == 104) then firsts.Whole Quarter
    else (if a == 101 then firsts.Begins
    else (if a == 122 then firsts.Begins
    else (if a == 105 then firsts.Begins
    else (if a == 112 then firsts.Begins
    else (if a == 99 then firsts.Begins
    else (if a == 109 then firsts.Begins
    else (if a == 98 then firsts.Begins
    else (if a == 100 then firsts.Begins
    else (if a == 115 then firsts.Begins
    else firsts.Nothing)))))))))

abbrev pub one_way : ℕ → ℕ → Unit → Option Unit
one_way b c u = if b == c then Some u else None

abbrev pub two_ways : ℕ → ℕ → Unit → ℕ → Unit → Option Unit
two_ways b c u d v = if b == c then Some u else (if b == d then Some v else None)

-- the unit of two letters
abbrev pub second_of : ℕ → ℕ → Option Unit
second_of a b =
    if a == 101 then two_ways b 109 Em 120 Ex
    else (if a == 122 then two_ways b 119 Zw 104 Zh
    else (if a == 105 then one_way b 110 Inch
    else (if a == 112 then two_ways b 116 Point 99 Pica
    else (if a == 99 then two_ways b 109 Centimeter 99 Cicero
    else (if a == 109 then one_way b 109 Millimeter
    else (if a == 98 then one_way b 112 BigPoint
    else (if a == 100 then one_way b 100 Didot
    else (if a == 115 then one_way b 112 Scaled
    else None))))))))

abbrev pub second_letter : ℕ → Option ℕ → Option Unit
second_letter a (Some b) = second_of a b
second_letter a None = None

abbrev pub found : Option Unit → FedToken → List FedToken → Answer Unit
found (Some u) x rest = Got u x.context rest
found None x rest = Bad NoUnit

-- a unit of which the first letter was read
unfoldable pub second : ℕ → List FedToken → Answer Unit
second a [] = Needs Expanded
second a (x ∷ rest) = found (second_letter a (letter x.token)) x rest

abbrev pub more_fraction : Bool → ℕ → List ℕ → List ℕ → Context → List FedToken → Answer Amount
more_fraction infinite n ds es context rest = fraction_unit infinite n (ds ++ es) context rest

abbrev pub at : Manner → Piece → Dimen
at manner piece = record { manner = manner; piece = piece }

-- one more sign
abbrev pub turned_manner : Manner → Manner
turned_manner m = record m { negative = not m.negative }

abbrev pub fil_letter : FilLetter → ℕ
fil_letter fils.I = 105
fil_letter fils.L = 108

-- what is still to be read of `fil`, of which the first letter was read
abbrev pub fil_letters : FilLetter → List ℕ
fil_letters fils.I = codes "il"
fil_letters fils.L = codes "l"

abbrev pub fil_or_none : Factor → Bool → Context → List FedToken → Answer Amount
fil_or_none k true context rest = more_ls infinities.Fil k rest
fil_or_none k false context rest = Bad NoUnit

abbrev pub piece_left : Bool → Piece → List FedToken → Answer Amount
piece_left infinite pieces.Signs list = dimen infinite list
piece_left infinite (pieces.Register r i) list = integer_left i list >>= register r >>= from_quantity infinite
piece_left infinite (pieces.Whole n) list = digits radices.Decimal list >>= whole_digits infinite n
piece_left infinite (pieces.Constant c) list = constant_left c list >>= whole_unit infinite
piece_left infinite (pieces.Fraction n ds) list = digits radices.Decimal list >>= more_fraction infinite n ds
piece_left infinite (pieces.Unit k) list = unit infinite k list
piece_left infinite (pieces.UnitRegister k r i) list = integer_left i list >>= register r >>= as_unit k
piece_left infinite (pieces.Letter k a) list = second a list >>= so_much k
piece_left infinite (pieces.Fil k l) list = letters (fil_letters l) list >>= fil_or_none k
piece_left infinite (pieces.Infinite k o) list = more_ls o k list
piece_left infinite (pieces.Space m) list = optional_space (of_measure m) list >>= dimen_range orders.Normal

-- what is still to be read of a dimension
unfoldable pub dimen_left : Dimen → List FedToken → Answer Amount
dimen_left d list = piece_left d.manner.infinite d.piece list >>= with_sign d.manner.negative

-- a dimension that is whole, with its sign
unfoldable pub finished : Manner → Order → ℤ → Context → List FedToken → Answer Amount
finished manner order d context rest = dimen_range order d context rest >>= with_sign manner.negative

-- what is still to be read after an internal quantity that took its token or left it, where signs are before it
unfoldable pub quantity_left : Manner → Quantity → Context → Bool → List FedToken → Answer Amount
quantity_left manner q context taken list = from_quantity manner.infinite q context (left_of taken list) >>= with_sign manner.negative

abbrev pub next_order : Infinity → Option Infinity
next_order infinities.Fil = Some infinities.Fill
next_order infinities.Fill = Some infinities.Filll
next_order infinities.Filll = None

-- the amount that is read
abbrev pub amount_of : CodeAmount → Amount
amount_of a = amount a.size.value a.order

-- what is no factor
abbrev pub is_whole : Quantity → Bool
is_whole (quantities.Integer n) = false
is_whole (quantities.Dimen d) = true
is_whole (quantities.Glue g) = true

-- what begins no internal quantity, and is no space
abbrev pub is_named : Start → Bool
is_named starts.Space = false
is_named (starts.Internal q) = false
is_named (starts.Register r) = false
is_named (starts.Refused kind) = false
is_named _ = true
