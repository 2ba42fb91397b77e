-- One level of the expansion: each step, over what the calls that it makes give.
use Rattle.std.specs.Prelude.{ℕ, ℤ, if◌then◌else◌, List, [], ◌∷◌, ◌++◌, length, Option, Some, None, Ok, Err}
use Rattle.ts_base.specs.Agreement.{◌>>=◌, with_fault}
use Rattle.jis_codes.specs.declared.Char.{Char}
use Rattle.tok_lists.specs.declared.token.Token.{Token}
use Rattle.mouth.specs.Reading.{Reading}
use Rattle.mouth.specs.Changes.{begun, ended, opened}
use Rattle.mouth.specs.Tokens.{plain}
use Rattle.scan_numbers.specs.declared.fault.ScanKind.TheVariants.{NoNumber}
use Rattle.scan_numbers.specs.Contexts.{around as in_context}
use Rattle.scan_numbers.specs.Tokens.{FedToken, is_space}
use Rattle.scan_numbers.specs.Answers.{Form, Expanded, Raw, Answer, Got, Needs, Bad}
use Rattle.scan_syntax.specs.declared.want.Want.{Want}
use Rattle.scan_syntax.specs.declared.want.Want.TheVariants as wants
use Rattle.scan_syntax.specs.declared.want.Value.{Value}
use Rattle.scan_syntax.specs.Scans.{grammar}
use Rattle.expander.specs.declared.action.Printing.{Printing}
use Rattle.expander.specs.declared.action.NumberTest.{NumberTest}
use Rattle.expander.specs.declared.action.Relation.{Relation}
use Rattle.expander.specs.declared.action.Aspect.{Aspect}
use Rattle.expander.specs.declared.action.Further.{Further}
use Rattle.expander.specs.declared.action.Further.TheVariants as furthers
use Rattle.expander.specs.declared.action.Front.{Front}
use Rattle.expander.specs.declared.action.Front.TheVariants as fronts
use Rattle.expander.specs.declared.action.Action.{Action}
use Rattle.expander.specs.declared.action.Action.TheVariants as actions
use Rattle.expander.specs.declared.fault.StepFault.TheVariants as faults
use Rattle.expander.specs.Faults.{stopped, of_mouth}
use Rattle.expander.specs.Worlds.{World, world, Outcome, token_from, plain_from, put, in_world}
use Rattle.expander.specs.Actions.{expands, front_of}
use Rattle.expander.specs.Conditionals.{decided}
use Rattle.expander.specs.Plain.{called, acted}
use Rattle.expander.specs.Scanning.{fed_in, left_over, given_back}
use Rattle.expander.specs.Numbers.{want_of, integer_in, shown, shown_put}
use Rattle.expander.specs.Choices.{relation_of, holds, amount_in, number_tested}
use Rattle.expander.specs.Faces.{face_of, are_alike}
use Rattle.expander.specs.Naming.{char_of, ends_name, name_put}
use Rattle.expander.specs.Inputs.{name_in, file_opened}

-- what can be asked: the next unexpandable token, also past spaces, the characters of a name of which these were read, one
-- expansion of a token that was taken, and a scan that was fed these tokens
pub data Call : Type 0 where
  Next : Call
  PastSpaces : Call
  Chars : List Char → Call
  Expand : Token → Call
  Scan : Want → List FedToken → Call

-- what is given
abbrev pub Given : Call → Type 0
Given Next = Token × World
Given PastSpaces = Token × World
Given (Chars before) = List Char × World
Given (Expand token) = World
Given (Scan want before) = Value × World

abbrev pub Calls : Type 0
Calls = (call : Call) → World → Outcome (Given call)

-- ---- the next unexpandable token

-- Tokens at the front are expanded until one isn't expandable.
abbrev pub next_on : Calls → World → Token × Reading → Outcome (Token × World)
next_on f w t = if expands w.nest t.0 then (f (Expand t.0) (world t.1 w.nest) >>= f Next) else Ok (t.0, world t.1 w.nest)

unfoldable pub next_step : Calls → World → Outcome (Token × World)
next_step f w = token_from w.nest w.at >>= next_on f w

-- Spaces are taken, explicit and implicit ones.
abbrev pub past_on : Calls → Token × World → Outcome (Token × World)
past_on f t = if is_space t.0 (in_context t.1.nest t.1.at.names) then f PastSpaces t.1 else Ok t

unfoldable pub past_step : Calls → World → Outcome (Token × World)
past_step f w = f Next w >>= past_on f

-- The characters of a name go up to what means \endcsname.
abbrev pub chars_with : Calls → List Char → Option Char → Token → World → Outcome (List Char × World)
chars_with f before (Some c) token w = f (Chars (before ++ c ∷ [])) w
chars_with f before None token w = if ends_name w.nest token then Ok (before, w) else Err (stopped faults.CsnameEnd w.at)

abbrev pub chars_on : Calls → List Char → Token × World → Outcome (List Char × World)
chars_on f before t = chars_with f before (char_of t.0) t.0 t.1

unfoldable pub chars_step : Calls → List Char → World → Outcome (List Char × World)
chars_step f before w = f Next w >>= chars_on f before

-- ---- one expansion

-- The second token is expanded once where it is expandable, and else put back.
abbrev pub second : Calls → World → Token × Reading → Outcome World
second f w t =
    if expands w.nest t.0 then f (Expand t.0) (world t.1 w.nest)
    else in_world w (put (plain t.0 ∷ []) t.1)

abbrev pub expand_next : Calls → World → Outcome World
expand_next f w = token_from w.nest w.at >>= second f w

-- The token after the next one is expanded once, and the next one is put before what that gives.
abbrev pub expand_after : Calls → World → Outcome World
expand_after f w =
    plain_from w.nest w.at >>= λ a. expand_next f (world a.1 w.nest) >>= λ v. in_world v (put (a.0 ∷ []) v.at)

-- An expansion that expands further tokens: its unit is spent first.
abbrev pub around : (World → Outcome World) → World → Outcome World
around work w =
    with_fault of_mouth (begun w.at) >>= λ at. work (world at w.nest) >>= λ v. Ok (world (ended v.at) v.nest)

-- A value is scanned, and what it is printed as is put in front.
abbrev pub print_scanned : Calls → Printing → World → Outcome World
print_scanned f printing w = f (Scan (want_of printing) []) w >>= λ v. in_world v.1 (shown_put (shown printing v.0) v.1.at)

-- A conditional opens, and an integer is scanned, which decides it.
abbrev pub test_scanned : Calls → NumberTest → World → Outcome World
test_scanned f test w =
    f (Scan wants.Integer []) (world (opened w.at) w.nest)
    >>= λ a. in_world a.1 (number_tested a.1.nest (length w.at.conditionals) test (integer_in a.0) a.1.at)

abbrev pub related : Option Relation → World → Outcome (Relation × World)
related (Some relation) w = Ok (relation, w)
related None w = Err (stopped (faults.Scan NoNumber) w.at)

-- the relation after spaces
abbrev pub relation_read : Calls → World → Outcome (Relation × World)
relation_read f w = f PastSpaces w >>= λ t. related (relation_of t.0) t.1

-- A relation and a second value decide the conditional of a number.
abbrev pub compare_with : Calls → Want → ℕ → ℤ → World → Outcome World
compare_with f want number first w =
    relation_read f w >>= λ r. f (Scan want []) r.1
    >>= λ b. in_world b.1 (decided b.1.nest number (holds r.0 first (amount_in b.0)) b.1.at)

-- A conditional opens, and two values with a relation between them decide it.
abbrev pub compare_scanned : Calls → Want → World → Outcome World
compare_scanned f want w =
    f (Scan want []) (world (opened w.at) w.nest)
    >>= λ a. compare_with f want (length w.at.conditionals) (amount_in a.0) a.1

-- A conditional opens, and the next two unexpandable tokens decide it.
abbrev pub compare_tokens : Calls → Aspect → World → Outcome World
compare_tokens f aspect w =
    f Next (world (opened w.at) w.nest) >>= λ a. f Next a.1
    >>= λ b. in_world b.1 (decided b.1.nest (length w.at.conditionals)
    (are_alike aspect (face_of a.1.nest a.1.at.names a.0) (face_of b.1.nest b.1.at.names b.0)) b.1.at)

-- The characters up to an \endcsname make a name, which is put in front.
abbrev pub make_name : Calls → World → Outcome World
make_name f w = f (Chars []) w >>= λ c. name_put c.0 c.1

-- The name of a file is scanned, and the file opened.
abbrev pub input : Calls → World → Outcome World
input f w = f (Scan wants.FileName []) w >>= λ v. in_world v.1 (file_opened (name_in v.0) v.1.at)

abbrev pub goes_further : Calls → Further → World → Outcome World
goes_further f furthers.ExpandAfter w = expand_after f w
goes_further f (furthers.Prints printing) w = print_scanned f printing w
goes_further f (furthers.Tests test) w = test_scanned f test w
goes_further f furthers.IfNum w = compare_scanned f wants.Integer w
goes_further f furthers.IfDim w = compare_scanned f wants.Dimen w
goes_further f (furthers.Compares aspect) w = compare_tokens f aspect w
goes_further f furthers.CsName w = make_name f w
goes_further f furthers.Input w = input f w

abbrev pub acts : Calls → Token → Action → World → Outcome World
acts f token actions.Unexpandable w = Ok w
acts f token (actions.Further further) w = around (goes_further f further) w
acts f token action w = in_world w (acted w.nest token action w.at)

-- An undefined name is a fault, and takes no unit.
abbrev pub expand_as : Calls → Token → Front → World → Outcome World
expand_as f token fronts.Undefined w = Err (stopped faults.Undefined w.at)
expand_as f token (fronts.Call definition) w = in_world w (called w.nest definition w.at)
expand_as f token (fronts.Acts action) w = acts f token action w

unfoldable pub expand_step : Calls → Token → World → Outcome World
expand_step f token w = expand_as f token (front_of w.nest token) w

-- ---- scans

-- what is fed to a scan, in the form in which it wants it
abbrev pub wanted : Calls → Form → World → Outcome (Token × World)
wanted f Expanded w = f Next w
wanted f Raw w = plain_from w.nest w.at >>= λ t. Ok (t.0, world t.1 w.nest)

-- What the grammar says of the tokens so far: a further one is fed, or the value is there and what is left is put back.
abbrev pub scan_on : Calls → Want → List FedToken → Answer Value → World → Outcome (Value × World)
scan_on f want before (Got value context rest) w = given_back value (left_over rest) w.nest w.at
scan_on f want before (Bad kind) w = Err (stopped (faults.Scan kind) w.at)
scan_on f want before (Needs form) w = wanted f form w >>= λ t. f (Scan want (before ++ fed_in t.1 t.0 ∷ [])) t.1

unfoldable pub scan_step : Calls → Want → List FedToken → World → Outcome (Value × World)
scan_step f want before w = scan_on f want before (grammar want before) w

abbrev pub step : Calls → Calls
step f Next w = next_step f w
step f PastSpaces w = past_step f w
step f (Chars before) w = chars_step f before w
step f (Expand token) w = expand_step f token w
step f (Scan want before) w = scan_step f want before w
