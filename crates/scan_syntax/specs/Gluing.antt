-- What is still to be read of a glue.
use Rattle.std.specs.Prelude.{◌≡◌, Bool, true, false, List, ◌++◌, Result, Ok, Err}
use Rattle.scan_syntax.specs.declared.want.Value.{Value}
use Rattle.scan_syntax.specs.Values.{glue_value, size_value}
use Rattle.scan_syntax.specs.BoxSizes.{box_size, if_to, if_spread, size_to, size_spread}
use Rattle.scan_numbers.specs.Contexts.{Context}
use Rattle.scan_numbers.specs.declared.fault.ScanFault.{ScanFault}
use Rattle.scan_numbers.specs.declared.fault.ScanFault.TheVariants.{Kind, NoMemory}
use Rattle.scan_syntax.specs.declared.gluing.Late.{Late}
use Rattle.scan_syntax.specs.declared.gluing.Late.TheVariants as lates
use Rattle.scan_syntax.specs.declared.gluing.Gluing.{Gluing}
use Rattle.scan_syntax.specs.declared.gluing.Gluing.TheVariants as gluings
use Rattle.scan_syntax.specs.declared.gluing.GlueMove.{GlueMove}
use Rattle.scan_syntax.specs.declared.gluing.GlueMove.TheVariants.{On, Done}
use Rattle.scan_numbers.specs.Tokens.{FedToken, put_back}
use Rattle.scan_numbers.specs.Answers.{Answer, Got, Bad, ◌>>=◌}
use Rattle.scan_numbers.specs.Machines.{integer_left, dimen_left, left_of, amount_of}
use Rattle.scan_numbers.specs.Integers.{register}
use Rattle.scan_numbers.specs.Amounts.{Amount}
use Rattle.scan_numbers.specs.declared.quantity.Quantity.{Quantity}
use Rattle.scan_numbers.specs.declared.quantity.Quantity.TheVariants as quantities
use Rattle.scan_numbers.specs.declared.start.Start.{Start}
use Rattle.scan_numbers.specs.declared.start.Start.TheVariants as starts
use Rattle.scan_syntax.specs.Attempts.{keyword_left}
use Rattle.scan_syntax.specs.Glues.{whole_glue, if_minus, if_plus, shrink, stretch, glue, glue_signed, quantity_glue}

-- a glue, or the size of a box, as the value of a scan
abbrev pub glue_scanned : List FedToken → Answer Value
glue_scanned list = glue list >>= glue_value

abbrev pub size_scanned : List FedToken → Answer Value
size_scanned list = box_size list >>= size_value

unfoldable pub late_left : Late → List FedToken → Answer Value
late_left (lates.Minus w s k) list = keyword_left k list >>= if_minus w.value (amount_of s) >>= glue_value
late_left (lates.Shrink w s d) list = dimen_left d list >>= whole_glue w.value (amount_of s) >>= glue_value
late_left (lates.Spread k) list = keyword_left k list >>= if_spread >>= size_value
late_left (lates.SpreadSize d) list = dimen_left d list >>= size_spread >>= size_value

unfoldable pub glue_left : Gluing → List FedToken → Answer Value
glue_left (gluings.Signs b) list = glue_signed b list >>= glue_value
glue_left (gluings.Register b r i) list = integer_left i list >>= register r >>= quantity_glue b >>= glue_value
glue_left (gluings.Width d) list = dimen_left d list >>= stretch >>= glue_value
glue_left (gluings.Plus w k) list = keyword_left k list >>= if_plus w.value >>= glue_value
glue_left (gluings.Stretch w d) list = dimen_left d list >>= shrink w.value >>= glue_value
glue_left (gluings.To k) list = keyword_left k list >>= if_to >>= size_value
glue_left (gluings.ToSize d) list = dimen_left d list >>= size_to >>= size_value
glue_left (gluings.Late l) list = late_left l list

-- what is still to be read after an internal quantity that took its token or left it, where signs are before it
unfoldable pub quantity_glue_left : Bool → Quantity → Context → Bool → List FedToken → Answer Value
quantity_glue_left sign q context taken list = quantity_glue sign q context (left_of taken list) >>= glue_value

-- what is still to be read of a glue, of whose width so much is
unfoldable pub then_stretch : (List FedToken → Answer Amount) → List FedToken → Answer Value
then_stretch width list = width list >>= stretch >>= glue_value

-- what is no glue
abbrev pub is_number : Quantity → Bool
is_number (quantities.Integer n) = true
is_number (quantities.Dimen d) = true
is_number (quantities.Glue g) = false

-- what begins a width that is no internal quantity, or nothing
abbrev pub begins_width : Start → Bool
begins_width starts.Space = false
begins_width starts.Plus = false
begins_width starts.Minus = false
begins_width (starts.Internal q) = false
begins_width (starts.Register r) = false
begins_width _ = true

abbrev pub GlueMoves : {S : Type 0} → (S → List FedToken → Answer Value) → Context → List FedToken → (List FedToken → Answer Value) → Result (GlueMove S) ScanFault → Type 0
GlueMoves left context given before (Ok (On state)) = (rest : List FedToken) → before (given ++ rest) ≡ left state rest
GlueMoves left context given before (Ok (Done found back)) = (rest : List FedToken) → before (given ++ rest) ≡ Got found.value context (put_back context back.items ++ rest)
GlueMoves left context given before (Err (Kind kind)) = (rest : List FedToken) → before (given ++ rest) ≡ Bad kind
GlueMoves left context given before (Err NoMemory) = Unit {0}
