-- Tests of numbers: \ifnum, \ifdim, \ifodd, \ifcase, \ifvoid, \ifhbox and \ifvbox (The TeXbook, chapter 20; TeX: The
-- Program, sections 503 to 505 and 509).
use Rattle.std.specs.Prelude.{ℕ, zero, suc, ◌==◌, ◌%◌, ◌-◌, ℤ, pos, negsuc, int_lt, unsigned_abs, Bool, true, false, not, if◌then◌else◌, Option, Some, None, Result, Ok, Err}
use Rattle.std.specs.Ordering.{int_eq}
use Rattle.ts_base.specs.Agreement.{◌>>=◌, with_fault}
use Rattle.tok_lists.specs.declared.token.Token.{Token}
use Rattle.tok_lists.specs.declared.token.Token.TheVariants as tokens
use Rattle.box_tree.specs.Trees.{BoxTree, kind_of}
use Rattle.box_tree.specs.declared.node.BoxKind.{BoxKind}
use Rattle.box_tree.specs.declared.node.BoxKind.TheVariants.{Horizontal, Vertical}
use Rattle.env_groups.specs.Environments.{Nest, box_at}
use Rattle.mouth.specs.declared.allowed.Allowed.TheVariants as allowed
use Rattle.mouth.specs.Reading.{Reading}
use Rattle.mouth.specs.Changes.{changed}
use Rattle.mouth.specs.Sizes.{size}
use Rattle.raw_texts.specs.declared.skipping.Until.TheVariants as until
use Rattle.raw_texts.specs.declared.skipping.Ended.{Ended}
use Rattle.raw_texts.specs.declared.skipping.Ended.TheVariants as ended
use Rattle.raw_texts.specs.Skipping.{skipped}
use Rattle.scan_numbers.specs.declared.fault.ScanKind.{ScanKind}
use Rattle.scan_numbers.specs.declared.fault.ScanKind.TheVariants.{RegisterRange}
use Rattle.scan_syntax.specs.declared.want.Value.{Value}
use Rattle.scan_syntax.specs.declared.want.Value.TheVariants as values
use Rattle.expander.specs.declared.action.BoxTest.{BoxTest}
use Rattle.expander.specs.declared.action.BoxTest.TheVariants as boxes
use Rattle.expander.specs.declared.action.NumberTest.{NumberTest}
use Rattle.expander.specs.declared.action.NumberTest.TheVariants as tests
use Rattle.expander.specs.declared.action.Relation.{Relation}
use Rattle.expander.specs.declared.action.Relation.TheVariants.{Less, Equal, Greater}
use Rattle.expander.specs.declared.fault.StepFault.TheVariants as faults
use Rattle.expander.specs.Faults.{of_text, stopped}
use Rattle.expander.specs.Worlds.{Outcome}
use Rattle.expander.specs.Conditionals.{after_false, passed_over, inner_count, decided}

-- ---- relations

-- A relation is a character < = or > of category 12.
abbrev pub relation_of : Token → Option Relation
relation_of (tokens.Char code cat) =
    if cat == 12 then (if code == 60 then Some Less else (if code == 61 then Some Equal else (if code == 62 then Some Greater else None)))
    else None
relation_of _ = None

abbrev pub holds : Relation → ℤ → ℤ → Bool
holds Less a b = int_lt a b
holds Equal a b = int_eq a b
holds Greater a b = int_lt b a

-- the integer, or the dimension in scaled points, that was found, where one was scanned
abbrev pub amount_in : Value → ℤ
amount_in (values.Integer n) = n
amount_in (values.Dimen d) = d.0
amount_in _ = pos 0

-- ---- numbers and boxes

abbrev pub is_odd : ℤ → Bool
is_odd n = (unsigned_abs n % 2) == 1

-- the box of a register
abbrev pub box_in : Nest → ℤ → Result (Option BoxTree) ScanKind
box_in nest (pos n) = with_fault (λ _. RegisterRange) (box_at nest n)
box_in nest (negsuc n) = Err RegisterRange

abbrev pub is_horizontal : BoxKind → Bool
is_horizontal Horizontal = true
is_horizontal Vertical = false

abbrev pub box_answer : BoxTest → Option BoxTree → Bool
box_answer boxes.Void None = true
box_answer boxes.Void (Some b) = false
box_answer boxes.HBox None = false
box_answer boxes.HBox (Some b) = is_horizontal (kind_of b)
box_answer boxes.VBox None = false
box_answer boxes.VBox (Some b) = not (is_horizontal (kind_of b))

abbrev pub register_answer : Nest → BoxTest → ℤ → Result Bool ScanKind
register_answer nest test n = box_in nest n >>= λ b. Ok (box_answer test b)

-- ---- \ifcase

abbrev pub is_or : Ended → Bool
is_or ended.Or = true
is_or ended.Else = false
is_or ended.Fi = false

-- how many cases stand before that of a number; there is none of a number below 0
abbrev pub case_number : ℤ → Option ℕ
case_number (pos n) = Some n
case_number (negsuc n) = None

abbrev pub is_first : Option ℕ → Bool
is_first (Some n) = n == 0
is_first None = false

-- where one case more was skipped
abbrev pub fewer : Option ℕ → Option ℕ
fewer (Some n) = Some (n - 1)
fewer None = None

-- Skipped text ended: at an \or the next case begins.
abbrev pub case_met : (Reading → Outcome Reading) → ℕ → Ended → Reading → Outcome Reading
case_met next number ended.Or r = next r
case_met next number end r = Ok (after_false number end r)

-- So many cases are skipped, and where there are fewer, all up to the \else or \fi.
unfoldable pub case_after : Nest → ℕ → ℕ → Reading → Outcome Reading
case_after nest number zero r = Ok (changed number allowed.Or r)
case_after nest number (suc n) r =
    with_fault of_text (skipped nest until.Or r) >>= λ e. case_met (case_after nest number n) number e.0 e.1

-- where there is no such case, more than there is to read
abbrev pub cases_before : Option ℕ → Reading → ℕ
cases_before (Some n) r = n
cases_before None r = suc (size r)

-- The conditionals that are open in that of a number are passed over before any case is.
abbrev pub case_chosen : Nest → ℕ → Option ℕ → Reading → Outcome Reading
case_chosen nest number cases r =
    if is_first cases then Ok (changed number allowed.Or r)
    else (passed_over nest (inner_count number r) r >>= λ r. case_after nest number (cases_before cases r) r)

-- ---- all of them

-- The test of the conditional of a number, of the integer that was scanned for it.
abbrev pub number_tested : Nest → ℕ → NumberTest → ℤ → Reading → Outcome Reading
number_tested nest number tests.Odd n r = decided nest number (is_odd n) r
number_tested nest number tests.Case n r = case_chosen nest number (case_number n) r
number_tested nest number (tests.Register test) n r =
    with_fault (λ kind. stopped (faults.Scan kind) r) (register_answer nest test n) >>= λ yes. decided nest number yes r
