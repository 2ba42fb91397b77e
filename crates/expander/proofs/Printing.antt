-- What is printed of a value can be put in front.
use Rattle.std.proofs.Common.{◌≡◌, ℕ, List, [], Option, Some, None, Result, Ok, Err, subst, refl}
use Rattle.std.specs.Prelude.{int_lt, pos, unsigned_abs, if◌then◌else◌, Bool, true, false, IfOk}
use Rattle.ts_base.specs.Agreement.{Cause, Determined, Counted, Free, with_fault, AgreesFault}
use Rattle.mouth.specs.Reading.{Reading, at_place, place_of}
use Rattle.jis_codes.specs.Kuten.{Kuten}
use Rattle.tok_lists.specs.declared.spelling.Spelling.{Spelling}
use Rattle.tok_lists.specs.declared.token.Token.{Token}
use Rattle.print_values.specs.Texts.{roman, dimension, glue}
use Rattle.print_values.specs.Printing.{printed}
use Rattle.print_values.proofs.Plain.{texts_are_plain}
use Rattle.std.specs.Fmt.{signed_decimal}
use Rattle.scan_numbers.specs.declared.fault.ScanKind.{ScanKind}
use Rattle.scan_syntax.specs.declared.want.Value.{Value}
use Rattle.scan_syntax.specs.declared.want.Value.TheVariants as values
use Rattle.expander.specs.declared.action.Printing.{Printing}
use Rattle.expander.specs.declared.action.Printing.TheVariants as printings
use Rattle.expander.specs.declared.fault.StepFault.{StepFault}
use Rattle.expander.specs.declared.fault.StepFault.TheVariants as faults
use Rattle.expander.specs.Holding.{IsPlainList, IsListed}
use Rattle.expander.specs.Numbers.{integer_in, coding_of, japanese_at, code_shown, value_shown, shown, shown_put}

text_plain : (names : List Spelling) (text : List ℕ) → IsPlainList names (printed text)
text_plain names text = let both = texts_are_plain names text in (both.0, both.1)

code_plain : (names : List Spelling) (cell : Option Kuten) → IfOk (code_shown cell) (IsPlainList names)
code_plain names (Some k) = text_plain names _
code_plain names None = tt

pub value_plain : (names : List Spelling) (value : Value) → IsListed (IsPlainList names) value → IsPlainList names (value_shown value)
value_plain names (values.Integer n) listed = text_plain names (signed_decimal n)
value_plain names (values.Dimen d) listed = text_plain names (dimension d.0)
value_plain names (values.Glue g) listed = text_plain names (glue g)
value_plain names (values.Toks list) listed = listed
value_plain names values.Equals listed = (tt, tt)
value_plain names (values.BoxSize size) listed = (tt, tt)
value_plain names (values.Keyword there) listed = (tt, tt)
value_plain names (values.FileName name) listed = (tt, tt)

roman_plain : (names : List Spelling) (b : Bool) (text : List ℕ) → IsPlainList names (if b then printed text else [])
roman_plain names true text = text_plain names text
roman_plain names false text = (tt, tt)

shown_plain : (names : List Spelling) (printing : Printing) (value : Value) → IsListed (IsPlainList names) value → IfOk (shown printing value) (IsPlainList names)
shown_plain names printings.Number value listed = text_plain names (signed_decimal (integer_in value))
shown_plain names printings.RomanNumeral value listed = roman_plain names (int_lt (pos 0) (integer_in value)) (roman (unsigned_abs (integer_in value)))
shown_plain names printings.The value listed = value_plain names value listed
shown_plain names (printings.Code kind) value listed = code_plain names (japanese_at (coding_of kind) (integer_in value))

given_plain : (names : List Spelling) (given : Result (List Token) ScanKind) (list : List Token) → IfOk given (IsPlainList names) → with_fault (λ kind. faults.Scan kind) given ≡ Ok list → IsPlainList names list
given_plain names (Ok shown_list) list plain is = let same : shown_list ≡ list = cc in subst (IsPlainList names) same plain
given_plain names (Err kind) list plain is = absurd cc

pub put_plain : (names : List Spelling) (printing : Printing) (value : Value) (list : List Token) → IsListed (IsPlainList names) value
    → with_fault (λ kind. faults.Scan kind) (shown printing value) ≡ Ok list → IsPlainList names list
put_plain names printing value list listed is = given_plain names (shown printing value) list (shown_plain names printing value listed) is

-- What isn't printed isn't put.
pub shown_refused : (cause : Cause) (e : StepFault) (given : Result (List Token) ScanKind) (r : Reading) → AgreesFault cause e (with_fault (λ kind. faults.Scan kind) given)
    → AgreesFault cause (at_place (place_of r) e) (shown_put given r)
shown_refused Determined e (Ok list) r is = absurd cc
shown_refused Determined e (Err kind) r is = let same : faults.Scan kind ≡ e = cc in rw same refl
shown_refused Counted e given r is = tt
shown_refused Free e given r is = tt
