-- Integers (The TeXbook, chapter 24, ⟨number⟩).
use Rattle.std.specs.Prelude.{ℕ, ◌+◌, ◌*◌, Bool, true, false, ℤ, pos, neg_ℤ, nat_le, List, [], ◌∷◌, if◌then◌else◌, Option, Some, None, Result, Ok, Err}
use Rattle.scan_numbers.specs.Contexts.{Context}
use Rattle.scan_numbers.specs.declared.fault.ScanKind.TheVariants.{NoNumber, NumberRange}
use Rattle.scan_numbers.specs.declared.fault.ScanKind.{ScanKind}
use Rattle.scan_numbers.specs.declared.quantity.Register.{Register}
use Rattle.scan_numbers.specs.declared.quantity.Quantity.{Quantity}
use Rattle.scan_numbers.specs.declared.start.Start.{Start}
use Rattle.scan_numbers.specs.declared.start.Start.TheVariants as starts
use Rattle.scan_numbers.specs.declared.start.Radix.{Radix}
use Rattle.scan_numbers.specs.declared.start.Radix.TheVariants as radices
use Rattle.scan_numbers.specs.Tokens.{FedToken, start, digit, base, character, is_space}
use Rattle.scan_numbers.specs.Quantities.{integer_of, reading}
use Rattle.scan_numbers.specs.Answers.{Answer, Got, Needs, Bad, Expanded, Raw, ◌>>=◌}

-- ---- constants

-- what a value is followed by: one optional space
unfoldable pub optional_space : {A : Type 0} → A → List FedToken → Answer A
optional_space n [] = Needs Expanded
optional_space n (x ∷ rest) = if is_space x.token x.context then Got n x.context rest else Got n x.context (x ∷ rest)

-- a digit before further ones, or the token that ends them
abbrev pub digit_before : Option ℕ → FedToken → List FedToken → Answer (List ℕ) → Answer (List ℕ)
digit_before (Some d) x rest further = further >>= λ ds context left. Got (d ∷ ds) context left
digit_before None x rest further = Got [] x.context (x ∷ rest)

-- all digits that follow
unfoldable pub digits : Radix → List FedToken → Answer (List ℕ)
digits radix [] = Needs Expanded
digits radix (x ∷ rest) = digit_before (digit radix x.token) x rest (digits radix rest)

-- the number that digits spell, after those that spell n
unfoldable pub spelled : Radix → ℕ → List ℕ → ℕ
spelled radix n [] = n
spelled radix n (d ∷ ds) = spelled radix (n * base radix + d) ds

-- the greatest integer is 2^31 - 1
unfoldable pub in_range : ℕ → Context → List FedToken → Answer ℕ
in_range n context rest = if nat_le n 2147483647 then Got n context rest else Bad NumberRange

unfoldable pub some_digits : Radix → List ℕ → Context → List FedToken → Answer ℕ
some_digits radix [] context rest = Bad NoNumber
some_digits radix (d ∷ ds) context rest = in_range (spelled radix 0 (d ∷ ds)) context rest

-- digits and one optional space
unfoldable pub constant : Radix → List FedToken → Answer ℕ
constant radix list = digits radix list >>= some_digits radix >>= λ n context rest. optional_space n rest

abbrev pub code_then_space : Option ℕ → List FedToken → Answer ℕ
code_then_space (Some code) rest = optional_space code rest
code_then_space None rest = Bad NoNumber

-- the character after a backquote, and one optional space
unfoldable pub character_constant : List FedToken → Answer ℕ
character_constant [] = Needs Raw
character_constant (x ∷ rest) = code_then_space (character x.token x.context) rest

-- ---- registers

abbrev pub given : {A : Type 0} → Result A ScanKind → Context → List FedToken → Answer A
given (Ok a) context rest = Got a context rest
given (Err kind) context rest = Bad kind

-- what the register of this number holds in the environment of the token that completed the number
unfoldable pub register : Register → ℤ → Context → List FedToken → Answer Quantity
register r n context rest = given (reading r n context.env) context rest

-- ---- integers

abbrev pub positive : ℕ → Context → List FedToken → Answer ℤ
positive n context rest = Got (pos n) context rest

abbrev pub negative : ℤ → Context → List FedToken → Answer ℤ
negative n context rest = Got (neg_ℤ n) context rest

abbrev pub coerced : Quantity → Context → List FedToken → Answer ℤ
coerced q context rest = Got (integer_of q) context rest

-- what begins with this token, where `further` is the integer that is after it
abbrev pub integer_from : Start → FedToken → List FedToken → Answer ℤ → Answer ℤ
integer_from starts.Space x rest further = further
integer_from starts.Plus x rest further = further
integer_from starts.Minus x rest further = further >>= negative
integer_from starts.Digit x rest further = constant radices.Decimal (x ∷ rest) >>= positive
integer_from starts.Octal x rest further = constant radices.Octal rest >>= positive
integer_from starts.Hexadecimal x rest further = constant radices.Hexadecimal rest >>= positive
integer_from starts.Backquote x rest further = character_constant rest >>= positive
integer_from starts.Point x rest further = Bad NoNumber
integer_from (starts.Internal q) x rest further = coerced q x.context rest
integer_from (starts.Register r) x rest further = further >>= register r >>= coerced
integer_from (starts.Refused kind) x rest further = Bad kind
integer_from starts.Other x rest further = Bad NoNumber

unfoldable pub integer : List FedToken → Answer ℤ
integer [] = Needs Expanded
integer (x ∷ rest) = integer_from (start x.token x.context) x rest (integer rest)

-- a number after its signs
abbrev pub signed : Bool → ℤ → ℤ
signed true n = neg_ℤ n
signed false n = n
