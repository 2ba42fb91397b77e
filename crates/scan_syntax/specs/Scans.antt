-- What a scan stands for, and what it answers.
use Rattle.std.specs.Prelude.{◌≡◌, false, List, [], ◌∷◌, ◌++◌, Result, Ok, Err}
use Rattle.scan_numbers.specs.Contexts.{Context}
use Rattle.scan_syntax.specs.declared.want.Want.{Want}
use Rattle.scan_syntax.specs.declared.want.Want.TheVariants as wants
use Rattle.scan_syntax.specs.declared.want.Value.{Value}
use Rattle.scan_syntax.specs.declared.want.Fed.{Fed}
use Rattle.scan_syntax.specs.declared.want.Fed.TheVariants as feds
use Rattle.scan_numbers.specs.declared.fault.ScanFault.{ScanFault}
use Rattle.scan_numbers.specs.declared.fault.ScanFault.TheVariants.{Kind, NoMemory}
use Rattle.scan_numbers.specs.Tokens.{FedToken, put_back}
use Rattle.scan_numbers.specs.Answers.{Form, Expanded, Raw, Answer, Got, Needs, Bad, ◌>>=◌}
use Rattle.scan_numbers.specs.Integers.{integer}
use Rattle.scan_numbers.specs.Dimensions.{dimen}
use Rattle.scan_syntax.specs.Values.{integer_value, dimen_value, glue_value, keyword_value, file_value, size_value}
use Rattle.scan_syntax.specs.BoxSizes.{box_size}
use Rattle.scan_syntax.specs.Internals.{internal}
use Rattle.scan_syntax.specs.Relations.{equals}
use Rattle.scan_syntax.specs.FileNames.{file_name}
use Rattle.scan_syntax.specs.Glues.{glue}
use Rattle.scan_numbers.specs.Keywords.{keyword}
use Rattle.scan_syntax.specs.Words.{word_letters}

-- what each kind of scan says of a list of tokens
unfoldable pub grammar : Want → List FedToken → Answer Value
grammar wants.Integer list = integer list >>= integer_value
grammar wants.Dimen list = dimen false list >>= dimen_value
grammar wants.Glue list = glue list >>= glue_value
grammar wants.Internal list = internal list
grammar wants.Equals list = equals list
grammar wants.BoxSize list = box_size list >>= size_value
grammar wants.FileName list = file_name list >>= file_value
grammar (wants.Keyword word) list = keyword (word_letters word) list >>= keyword_value

-- A scan is seen by what it still reads: by what the grammar says of what still follows. It stands for a list of tokens where that is
-- what is still to be read after them.
abbrev pub Stands : Want → List FedToken → (List FedToken → Answer Value) → Type 0
Stands want before scan = (more : List FedToken) → grammar want (before ++ more) ≡ scan more

-- What is answered to the last token of a list is what the grammar says of the list.
abbrev pub Says : Context → Result Fed ScanFault → Answer Value → Type 0
Says context (Ok feds.Expanded) answer = answer ≡ Needs Expanded
Says context (Ok feds.Raw) answer = answer ≡ Needs Raw
Says context (Ok (feds.Done value back)) answer = answer ≡ Got value context (put_back context back)
Says context (Err (Kind kind)) answer = answer ≡ Bad kind
Says context (Err NoMemory) answer = Unit {0}

-- A step of a scan, from what was still to be read to what is.
abbrev pub Steps : (List FedToken → Answer Value) → FedToken → Result Fed ScanFault → (List FedToken → Answer Value) → Type 0
Steps old x (Ok feds.Expanded) new = ((rest : List FedToken) → old (x ∷ rest) ≡ new rest) × (new [] ≡ Needs Expanded)
Steps old x (Ok feds.Raw) new = ((rest : List FedToken) → old (x ∷ rest) ≡ new rest) × (new [] ≡ Needs Raw)
Steps old x (Ok (feds.Done value back)) new = (rest : List FedToken) → old (x ∷ rest) ≡ Got value x.context (put_back x.context back ++ rest)
Steps old x (Err (Kind kind)) new = (rest : List FedToken) → old (x ∷ rest) ≡ Bad kind
Steps old x (Err NoMemory) new = Unit {0}

-- Where a further token is needed, the scan stands for the list with this token.
abbrev pub StandsOn : Want → List FedToken → Result Fed ScanFault → (List FedToken → Answer Value) → Type 0
StandsOn want fed_so_far (Ok feds.Expanded) new = Stands want fed_so_far new
StandsOn want fed_so_far (Ok feds.Raw) new = Stands want fed_so_far new
StandsOn want fed_so_far _ new = Unit {0}

-- A further token is needed.
abbrev pub IsOpen : (List FedToken → Answer Value) → Type 0
IsOpen scan = (form : Form) × (scan [] ≡ Needs form)
