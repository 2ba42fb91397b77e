-- What \number, \romannumeral, \the, \jis, \euc, \sjis and \kuten make of what they scan (The TeXbook, chapter 20; pTeX).
use Rattle.std.specs.Prelude.{ℕ, ℤ, pos, negsuc, nat_lt, if◌then◌else◌, List, [], Option, Some, None, Result, Ok, Err}
use Rattle.jis_codes.specs.Kuten.{Kuten}
use Rattle.jis_codes.specs.Spellings.{Coding, jis, euc, shift_jis, kuten}
use Rattle.jis_codes.specs.Numbers.{number_of, cell_of}
use Rattle.tok_lists.specs.declared.token.Token.{Token}
use Rattle.mouth.specs.Reading.{Reading}
use Rattle.scan_numbers.specs.declared.fault.ScanKind.{ScanKind}
use Rattle.scan_numbers.specs.declared.fault.ScanKind.TheVariants.{CodeRange}
use Rattle.scan_syntax.specs.declared.want.Want.{Want}
use Rattle.scan_syntax.specs.declared.want.Want.TheVariants as wants
use Rattle.scan_syntax.specs.declared.want.Value.{Value}
use Rattle.scan_syntax.specs.declared.want.Value.TheVariants as values
use Rattle.print_values.specs.Printing.{printed_number, printed_roman, printed_dimension, printed_glue}
use Rattle.expander.specs.declared.action.CharNumber.{CharNumber}
use Rattle.expander.specs.declared.action.CharNumber.TheVariants as numbers
use Rattle.expander.specs.declared.action.Printing.{Printing}
use Rattle.expander.specs.declared.action.Printing.TheVariants as printings
use Rattle.expander.specs.declared.fault.StepFault.TheVariants as faults
use Rattle.expander.specs.Faults.{stopped}
use Rattle.expander.specs.Worlds.{Outcome, put}

-- what is scanned
abbrev pub want_of : Printing → Want
want_of printings.Number = wants.Integer
want_of printings.RomanNumeral = wants.Integer
want_of printings.The = wants.Internal
want_of (printings.Code kind) = wants.Integer

-- the integer that was found, where one was scanned
abbrev pub integer_in : Value → ℤ
integer_in (values.Integer n) = n
integer_in _ = pos 0

-- ---- the codes of Japanese characters

abbrev pub coding_of : CharNumber → Coding
coding_of numbers.Jis = jis
coding_of numbers.Euc = euc
coding_of numbers.Sjis = shift_jis
coding_of numbers.Kuten = kuten

-- the cell of a number in a coding; a number of more than 16 bits has none
abbrev pub japanese_at : Coding → ℤ → Option Kuten
japanese_at coding (pos n) = if nat_lt n 65536 then cell_of coding n else None
japanese_at coding (negsuc n) = None

-- its internal code in decimal digits
abbrev pub code_shown : Option Kuten → Result (List Token) ScanKind
code_shown (Some k) = Ok (printed_number (pos (number_of euc k)))
code_shown None = Err CodeRange

-- ---- values

-- What \the gives: a list of tokens as it is, and any other value printed.
abbrev pub value_shown : Value → List Token
value_shown (values.Integer n) = printed_number n
value_shown (values.Dimen d) = printed_dimension d.0
value_shown (values.Glue g) = printed_glue g
value_shown (values.Toks list) = list
value_shown _ = []

abbrev pub shown : Printing → Value → Result (List Token) ScanKind
shown printings.Number value = Ok (printed_number (integer_in value))
shown printings.RomanNumeral value = Ok (printed_roman (integer_in value))
shown printings.The value = Ok (value_shown value)
shown (printings.Code kind) value = code_shown (japanese_at (coding_of kind) (integer_in value))

abbrev pub shown_put : Result (List Token) ScanKind → Reading → Outcome Reading
shown_put (Ok list) r = put list r
shown_put (Err kind) r = Err (stopped (faults.Scan kind) r)
