-- Turns of the loop that feeds a scan.
use Rattle.std.proofs.Common.{◌≡◌, ◌≤◌, ◌<◌, ◌+◌, ◌∙◌, Bool, true, false, List, [], ◌∷◌, ◌++◌, length, map, append-nil, Result, Ok, Err, refl, sym, ap, subst, arith, length-append}
use Rattle.ts_base.specs.Agreement.{Cause, Determined, Counted, Free, AgreesFault}
use Rattle.tok_lists.specs.declared.spelling.Spelling.{Spelling}
use Rattle.tok_lists.specs.declared.token.Token.{Token}
use Rattle.tok_lists.specs.Names.{Grew}
use Rattle.tok_lists.proofs.Growing.{held_still}
use Rattle.mouth.specs.Keeping.{IsToken}
use Rattle.mouth.specs.Sizes.{size}
use Rattle.scan_syntax.specs.Laws.{IsHeldIn}
use Rattle.scan_syntax.proofs.Finding.{last_left, no_longer, list_held}
use Rattle.scan_syntax.specs.declared.want.Value.TheVariants as values
use Rattle.expander.specs.Holding.{IsPlainList, IsListed, AreFit}
use Rattle.expander.proofs.Fitting.{toks_fit}
use Rattle.env_groups.specs.Environments.{Nest}
use Rattle.mouth.specs.Reading.{Reading, Stop}
use Rattle.scan_numbers.specs.declared.fault.ScanKind.{ScanKind}
use Rattle.scan_numbers.specs.Contexts.{Context, around}
use Rattle.scan_numbers.specs.Tokens.{FedToken, fed, put_back}
use Rattle.scan_numbers.specs.Answers.{Answer, Got, Needs, Bad, Expanded}
use Rattle.scan_numbers.specs.Integers.{integer}
use Rattle.scan_numbers.specs.Keywords.{keyword}
use Rattle.scan_numbers.specs.Dimensions.{dimen}
use Rattle.scan_syntax.specs.declared.want.Want.{Want}
use Rattle.scan_syntax.specs.declared.want.Want.TheVariants as wants
use Rattle.scan_syntax.specs.declared.want.Value.{Value}
use Rattle.scan_syntax.specs.Glues.{glue_signed}
use Rattle.scan_syntax.specs.BoxSizes.{box_size}
use Rattle.scan_syntax.specs.Internals.{internal}
use Rattle.scan_syntax.specs.Relations.{equals}
use Rattle.scan_syntax.specs.FileNames.{file_name}
use Rattle.scan_syntax.specs.Scans.{grammar, Stands, IsOpen}
use Rattle.expander.specs.declared.fault.StepFault.{StepFault}
use Rattle.expander.specs.declared.fault.StepFault.TheVariants as faults
use Rattle.expander.specs.Faults.{stopped}
use Rattle.expander.specs.Worlds.{World, world, Outcome}
use Rattle.expander.specs.Scanning.{fed_in, form_of, left_over, given_back}
use Rattle.expander.specs.Steps.{Scan, wanted, scan_on, scan_step}
use Rattle.expander.specs.Expansion.{run}
use Rattle.expander.proofs.Scanning.{scan_is}

-- what the loop keeps: the scan stands for the tokens that were fed, and from there the loop goes on; names hold these tokens,
-- and each left less to be read
pub record Turned (told : Type 0) (want : Want) (raw : Bool) (scan : List FedToken → Answer Value) (start now : World) : Type 0 where
  pub before : List FedToken
  pub stands : Stands want before scan
  pub needs : grammar want before ≡ Needs (form_of raw)
  pub same : told → run (Scan want []) start ≡ run (Scan want before) now
  pub known : IsPlainList now.at.names (left_over before)
  pub fewer : size now.at + length before ≤ size start.at

first_needs : (want : Want) → grammar want [] ≡ Needs Expanded
unfolding grammar integer dimen glue_signed internal equals box_size file_name keyword
first_needs wants.Integer = refl
first_needs wants.Dimen = refl
first_needs wants.Glue = refl
first_needs wants.Internal = refl
first_needs wants.Equals = refl
first_needs wants.BoxSize = refl
first_needs wants.FileName = refl
first_needs (wants.Keyword word) = refl

pub turned_first : (told : Type 0) (want : Want) (scan : List FedToken → Answer Value) (w : World) → Stands want [] scan → Turned told want false scan w w
turned_first told want scan w stands = record { before = []; stands = stands; needs = first_needs want; same = λ _. refl; known = (tt, tt); fewer = omega arith }

pub turned_open : (told : Type 0) (want : Want) (raw : Bool) (scan : List FedToken → Answer Value) (start now : World) → Turned told want raw scan start now → IsOpen scan
turned_open told want raw scan start now turned = (form_of raw, sym (turned.stands []) ∙ ap (grammar want) (append-nil turned.before) ∙ turned.needs)

-- One token more is of those that names hold.
known_more : (old new : List Spelling) (before : List FedToken) (x : FedToken) → Grew old new → IsPlainList old (left_over before) → IsToken new x.token → IsPlainList new (left_over (before ++ x ∷ []))
known_more old new [] x grew plain token = ((token.1, tt), (token.0, tt))
known_more old new (y ∷ before) x grew plain token =
    let more = known_more old new before x grew (plain.0.1, plain.1.1) token in
    ((plain.0.0, more.0), (held_still old new y.token grew plain.1.0, more.1))

last_plain : (names : List Spelling) (front whole last : List Token) → front ++ last ≡ whole → IsPlainList names whole → IsPlainList names last
last_plain names [] whole last same plain = subst (IsPlainList names) (sym same) plain
last_plain names (t ∷ front) [] last same plain = absurd cc
last_plain names (t ∷ front) (u ∷ whole) last same plain =
    let rest : front ++ last ≡ whole = cc in
    last_plain names front whole last rest (plain.0.1, plain.1.1)

-- A list that the environment holds is of names that are held.
listed_in : (names : List Spelling) (nest : Nest) (value : Value) → AreFit names nest → IsHeldIn nest value → IsListed (IsPlainList names) value
listed_in names nest (values.Toks list) fit held = toks_fit names nest held.0 list fit held.1
listed_in names nest (values.Integer n) fit held = tt
listed_in names nest (values.Dimen d) fit held = tt
listed_in names nest (values.Glue g) fit held = tt
listed_in names nest values.Equals fit held = tt
listed_in names nest (values.BoxSize size) fit held = tt
listed_in names nest (values.Keyword there) fit held = tt
listed_in names nest (values.FileName name) fit held = tt

-- A token that was wanted is fed.
one_more : (told : Type 0) (want : Want) (raw : Bool) (scan : List FedToken → Answer Value) (start w v : World) (t : Token) (turned : Turned told want raw scan start w)
    → (told → wanted run (form_of raw) w ≡ Ok (t, v)) → told → run (Scan want []) start ≡ run (Scan want (turned.before ++ fed_in v t ∷ [])) v
unfolding scan_step
one_more told want raw scan start w v t turned takes is_told =
    turned.same is_told ∙ scan_is want turned.before w ∙ rw (turned.needs, takes is_told) refl

pub turned_on : (told : Type 0) (want : Want) (raw more : Bool) (old new : List FedToken → Answer Value) (start w v : World) (t : Token) → Turned told want raw old start w
    → (told → wanted run (form_of raw) w ≡ Ok (t, v))
    → ((a : Want) (before : List FedToken) → Stands a before old → Stands a (before ++ fed_in v t ∷ []) new)
    → ((a : Want) (before : List FedToken) → Stands a before old → grammar a (before ++ fed_in v t ∷ []) ≡ Needs (form_of more))
    → Grew w.at.names v.at.names → IsToken v.at.names t → size v.at < size w.at
    → Turned told want more new start v
turned_on told want raw more old new start w v t turned takes stands exact grew token less = record {
  before = turned.before ++ fed_in v t ∷ [];
  stands = stands want turned.before turned.stands;
  needs = exact want turned.before turned.stands;
  same = one_more told want raw old start w v t turned takes;
  known = known_more w.at.names v.at.names turned.before (fed_in v t) grew turned.known token;
  fewer = omega (arith, turned.fewer, less, length-append turned.before (fed_in v t ∷ []));
}

put_length : (c : Context) (back : List Token) → length (put_back c back) ≡ length back
put_length c [] = refl
put_length c (t ∷ back) = omega (arith, put_length c back)

back_again : (c : Context) (back : List Token) → left_over (put_back c back) ≡ back
back_again c [] = refl
back_again c (t ∷ back) = ap (λ ts. t ∷ ts) (back_again c back)

-- What is put back is of names that are held.
pub back_known : (told : Type 0) (want : Want) (raw : Bool) (old : List FedToken → Answer Value) (start w v : World) (t : Token) (value : Value) (back : List Token) (turned : Turned told want raw old start w)
    → ((a : Want) (before : List FedToken) → Stands a before old → grammar a (before ++ fed_in v t ∷ []) ≡ Got value (around v.nest v.at.names) (put_back (around v.nest v.at.names) back))
    → Grew w.at.names v.at.names → IsToken v.at.names t → IsPlainList v.at.names back
back_known told want raw old start w v t value back turned exact grew token =
    let c = around v.nest v.at.names in
    let whole = turned.before ++ fed_in v t ∷ [] in
    let last = last_left want whole (put_back c back) value c (exact want turned.before turned.stands) in
    subst (IsPlainList v.at.names) (back_again c back)
    (last_plain v.at.names last.0 (left_over whole) (left_over (put_back c back)) last.1 (known_more w.at.names v.at.names turned.before (fed_in v t) grew turned.known token))

-- A list that is found is of such names.
pub found_listed : (told : Type 0) (want : Want) (raw : Bool) (old : List FedToken → Answer Value) (start w v : World) (t : Token) (value : Value) (back : List Token) (turned : Turned told want raw old start w)
    → ((a : Want) (before : List FedToken) → Stands a before old → grammar a (before ++ fed_in v t ∷ []) ≡ Got value (around v.nest v.at.names) (put_back (around v.nest v.at.names) back))
    → AreFit v.at.names v.nest → IsListed (IsPlainList v.at.names) value
found_listed told want raw old start w v t value back turned exact fit =
    let c = around v.nest v.at.names in
    listed_in v.at.names v.nest value fit (list_held want (turned.before ++ fed_in v t ∷ []) (put_back c back) value c (exact want turned.before turned.stands))

-- What is put back is no more than what was taken.
pub back_fewer : (told : Type 0) (want : Want) (raw : Bool) (old : List FedToken → Answer Value) (start w v : World) (t : Token) (value : Value) (back : List Token) (turned : Turned told want raw old start w)
    → ((a : Want) (before : List FedToken) → Stands a before old → grammar a (before ++ fed_in v t ∷ []) ≡ Got value (around v.nest v.at.names) (put_back (around v.nest v.at.names) back))
    → size v.at < size w.at → size v.at + length back ≤ size start.at
back_fewer told want raw old start w v t value back turned exact less =
    let c = around v.nest v.at.names in
    let whole = turned.before ++ fed_in v t ∷ [] in
    let few = no_longer want whole (put_back c back) value c (exact want turned.before turned.stands) in
    omega (arith, turned.fewer, less, few, length-append turned.before (fed_in v t ∷ []), put_length c back)

-- The value is there.
pub turned_done : (told : Type 0) (want : Want) (raw : Bool) (old : List FedToken → Answer Value) (start w v : World) (t : Token) (value : Value) (back : List Token) → Turned told want raw old start w
    → (told → wanted run (form_of raw) w ≡ Ok (t, v))
    → ((a : Want) (before : List FedToken) → Stands a before old → grammar a (before ++ fed_in v t ∷ []) ≡ Got value (around v.nest v.at.names) (put_back (around v.nest v.at.names) back))
    → told → run (Scan want []) start ≡ given_back value back v.nest v.at
unfolding scan_step
turned_done told want raw old start w v t value back turned takes exact is_told =
    let c = around v.nest v.at.names in
    one_more told want raw old start w v t turned takes is_told ∙ scan_is want (turned.before ++ fed_in v t ∷ []) v
    ∙ rw (exact want turned.before turned.stands) (ap (λ list. given_back value list v.nest v.at) (back_again c back))

-- The tokens are refused.
pub turned_bad : (told : Type 0) (want : Want) (raw : Bool) (old : List FedToken → Answer Value) (start w v : World) (t : Token) (kind : ScanKind) → Turned told want raw old start w
    → (told → wanted run (form_of raw) w ≡ Ok (t, v))
    → ((a : Want) (before : List FedToken) → Stands a before old → grammar a (before ++ fed_in v t ∷ []) ≡ Bad kind)
    → told → run (Scan want []) start ≡ Err (stopped (faults.Scan kind) v.at)
unfolding scan_step
turned_bad told want raw old start w v t kind turned takes exact is_told =
    one_more told want raw old start w v t turned takes is_told ∙ scan_is want (turned.before ++ fed_in v t ∷ []) v
    ∙ rw (exact want turned.before turned.stands) refl

-- No token is taken.
pub turned_refused : (told : Type 0) (cause : Cause) (want : Want) (raw : Bool) (old : List FedToken → Answer Value) (start w : World) (e : Stop StepFault) → Turned told want raw old start w
    → told → AgreesFault cause e (wanted run (form_of raw) w) → AgreesFault cause e (run (Scan want []) start)
unfolding scan_step
turned_refused told Determined want raw old start w e turned is_told agrees = turned.same is_told ∙ scan_is want turned.before w ∙ rw (turned.needs, agrees) refl
turned_refused told Counted want raw old start w e turned is_told agrees = tt
turned_refused told Free want raw old start w e turned is_told agrees = tt
