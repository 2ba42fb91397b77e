-- What reading without expansion makes of how much may still be read.
use Rattle.std.proofs.Common.{◌≡◌, ◌≤◌, ◌<◌, ◌+◌, ℕ, zero, suc, Bool, List, [], ◌∷◌, Result, Ok, refl, arith, length-append}
use Rattle.std.specs.Prelude.{IfOk, not, ◌&&◌, nat_le, length, Option, Some, None}
use Rattle.ts_base.specs.Agreement.{with_fault}
use Rattle.ts_outside.specs.Reading.{bytes_of}
use Rattle.input_codings.specs.declared.coding.Coding.{Coding}
use Rattle.tok_lists.specs.declared.spelling.Spelling.{Spelling}
use Rattle.tok_lists.specs.Names.{numbered, with_name}
use Rattle.tok_lists.specs.Pending.{put_before}
use Rattle.std.proofs.lemmas.Result.{IfOk-at_ok}
use Rattle.kcat_eyes.specs.Sights.{ahead}
use Rattle.mouth.specs.Opening.{first_file, with_file}
use Rattle.tok_lists.specs.declared.token.Token.{Token}
use Rattle.env_groups.specs.declared.meaning.MacroDef.{MacroDef}
use Rattle.env_groups.specs.Environments.{Nest, codes_of}
use Rattle.mouth.specs.declared.allowed.Allowed.{Allowed}
use Rattle.mouth.specs.Reading.{Reading, Stop, stop, of_names, of_pending, of_open, with_names}
use Rattle.mouth.specs.Tokens.{next, plain, next_plain}
use Rattle.mouth.specs.Changes.{with_list, named, begun, ended, ending, opened, changed, closed, entered, left}
use Rattle.mouth.specs.Sizes.{file_size, unread, size}
use Rattle.mouth.proofs.Falls.{token_size, list_size, begun_size}
use Rattle.raw_texts.specs.declared.fault.MacroFault.{MacroFault}
use Rattle.raw_texts.specs.declared.machine.Progress.{Progress}
use Rattle.raw_texts.specs.declared.machine.Progress.TheVariants.{On, Done}
use Rattle.raw_texts.specs.declared.passing.Past.{Past}
use Rattle.raw_texts.specs.declared.passing.Past.TheVariants.{Spaces, Blanks}
use Rattle.raw_texts.specs.declared.skipping.Until.{Until}
use Rattle.raw_texts.specs.declared.token.Brace.{Brace}
use Rattle.raw_texts.specs.declared.token.Brace.TheVariants.{Begin, End, Neither}
use Rattle.raw_texts.specs.Faults.{of_mouth as raw_fault}
use Rattle.raw_texts.specs.Braced.{braced}
use Rattle.raw_texts.specs.Groups.{group}
use Rattle.raw_texts.specs.Kinds.{brace_of, is_par}
use Rattle.raw_texts.specs.Meanings.{meaning_of, means_category}
use Rattle.raw_texts.specs.Passing.{past}
use Rattle.raw_texts.specs.Runs.{Step, token_from as raw_token, fed, goes_on, run_within, run, run_inside}
use Rattle.raw_texts.specs.Skipping.{skipped}
use Rattle.macros.specs.Undelimited.{undelimited, begun as argument_begun}
use Rattle.macros.specs.Delimited.{delimited}
use Rattle.macros.specs.Headings.{heading}
use Rattle.macros.specs.Definitions.{defined}
use Rattle.macros.specs.Calls.{met, parts, argument_of, arguments_of, call}
use Rattle.expander.proofs.Outcomes.{if_given, if_weaker, if_bind, if_then, if_fault, if_either}

-- ---- changes

pub ended_size : (r : Reading) → size (ended r) ≡ size r
unfolding size unread
ended_size r = refl

pub ending_size : (r : Reading) → size (ending r) ≡ size r
unfolding size unread
ending_size r = refl

pub opened_size : (r : Reading) → size (opened r) ≡ size r
unfolding size unread
opened_size r = refl

pub changed_size : (number : ℕ) (allowed : Allowed) (r : Reading) → size (changed number allowed r) ≡ size r
unfolding size unread
changed_size number allowed r = refl

pub closed_size : (r : Reading) → size (closed r) ≡ size r
unfolding size unread
closed_size r = refl

pub entered_size : (r : Reading) → size (entered r) ≡ size r
unfolding size unread
entered_size r = refl

pub left_size : (r : Reading) → size (left r) ≡ size r
unfolding size unread
left_size r = refl

pub begun_falls : (r : Reading) → IfOk (begun r) (λ v. size v + 100000000000 ≡ size r)
begun_falls r = if_given (begun r) _ (λ v is. begun_size r v is)

pub list_grows : (list : List Token) (r : Reading) → IfOk (with_list list r) (λ v. size v ≤ size r + 1000000)
list_grows list r = if_given (with_list list r) _ (λ v is. list_size list r v is)

pending_adds : (list pending : List Token) → IfOk (put_before list pending) (λ p. length p ≡ length list + length pending)
pending_adds list pending = if_either (nat_le (length list + length pending) 1000000) _ _ _ (length-append list pending) tt

pub with_adds : (list : List Token) (r : Reading) → IfOk (with_list list r) (λ v. size v ≡ size r + length list)
unfolding size unread
with_adds list r = if_bind (with_fault (λ f. stop (of_pending f) r) (put_before list r.innermost.pending)) _ (λ p. length p ≡ length list + length r.innermost.pending) _
    (if_fault (λ f. stop (of_pending f) r) (put_before list r.innermost.pending) _ (pending_adds list r.innermost.pending)) (λ p same. omega (arith, same))

pub list_adds : (list : List Token) (r v : Reading) → with_list list r ≡ Ok v → size v ≡ size r + length list
list_adds list r v is = IfOk-at_ok (λ (u : Reading). size u ≡ size r + length list) is (with_adds list r)

names_size : (names : List Spelling) (r : Reading) → size (with_names r names) ≡ size r
unfolding size unread
names_size names r = refl

pub named_falls : (spelling : Spelling) (r : Reading) → IfOk (named spelling r) (λ n. size n.1 ≤ size r)
named_falls spelling r = if_then (with_fault (λ f. stop (of_names f) r) (numbered r.names spelling)) _ _ (λ n. omega (arith, names_size (with_name r.names spelling) r))

first_size : (coding : Coding) (name : List ℕ) (bytes : Option (List ℕ)) → IfOk (first_file coding name bytes) (λ file. file_size file ≤ 65536000000)
unfolding ahead
first_size coding name None = tt
first_size coding name (Some bytes) = omega arith

pub file_grows : (name : List ℕ) (r : Reading) → IfOk (with_file name r) (λ v. size v ≤ size r + 65536000000)
unfolding size unread
file_grows name r = if_either (nat_le 15 (1 + length r.below)) _ _ _ tt
    (if_bind (with_fault (λ f. stop (of_open f) r) (first_file r.coding name (bytes_of r.held name))) _ (λ file. file_size file ≤ 65536000000) _
    (if_fault (λ f. stop (of_open f) r) (first_file r.coding name (bytes_of r.held name)) _ (first_size r.coding name (bytes_of r.held name))) (λ file few. omega (arith, few)))

-- ---- tokens

pub next_falls : (nest : Nest) (r : Reading) → IfOk (next (codes_of nest) r) (λ t. size t.1 < size r)
next_falls nest r = if_given (next (codes_of nest) r) _ (λ t is. token_size (codes_of nest) r t.0 t.1 is)

pub plain_falls : (nest : Nest) (r : Reading) → IfOk (next_plain (codes_of nest) r) (λ t. size t.1 < size r)
plain_falls nest r = if_bind (next (codes_of nest) r) (λ t. Ok (plain t.0, t.1)) (λ t. size t.1 < size r) _ (next_falls nest r) (λ t less. less)

-- ---- runs of machines

IsLess : {S : Type 0} → ℕ → S × Reading → Type 0
IsLess n p = size p.1 < n

goes_less : {S : Type 0} (n : ℕ) (progress : Progress) (x : S × Reading) (more : Result (S × Reading) (Stop MacroFault)) → IsLess n x → IfOk more (IsLess n) → IfOk (goes_on progress x more) (IsLess n)
goes_less n Done x more less further = less
goes_less n On x more less further = further

within_falls : {S : Type 0} (n : ℕ) (nest : Nest) (step : Nest → Step S) (s : S) (r : Reading) → IfOk (run_within n nest step s r) (IsLess (size r))
unfolding run_within IsLess
within_falls zero nest step s r = if_then (raw_token nest r) _ _ (λ t. tt)
within_falls (suc n) nest step s r =
    if_bind (raw_token nest r) _ (λ t. size t.1 < size r) _ (if_fault raw_fault (next_plain (codes_of nest) r) _ (plain_falls nest r)) (λ t less.
    if_then (fed (step nest) s t) _ _ (λ p. goes_less (size r) p.0 (p.1, t.1) (run_within n nest step p.1 t.1) less
    (if_weaker (run_within n nest step p.1 t.1) (λ q. size q.1 < size t.1) _ (within_falls n nest step p.1 t.1) (λ q fewer. omega (arith, less, fewer)))))

pub run_falls : {S : Type 0} (nest : Nest) (step : Nest → Step S) (s : S) (r : Reading) → IfOk (run nest step s r) (λ p. size p.1 < size r)
unfolding run IsLess
run_falls nest step s r = within_falls (unread r) nest step s r

pub inside_falls : {S : Type 0} (nest : Nest) (step : Nest → Step S) (s : S) (r : Reading) → IfOk (run_inside nest step s r) (λ p. size p.1 < size r)
inside_falls nest step s r = if_bind (run nest step s (entered r)) (λ p. Ok (p.0, left p.1)) (λ p. size p.1 < size (entered r)) _ (run_falls nest step s (entered r))
    (λ p less. omega (arith, less, entered_size r, left_size p.1))

pub skipped_falls : (nest : Nest) (until : Until) (r : Reading) → IfOk (skipped nest until r) (λ e. size e.1 < size r)
unfolding skipped
skipped_falls nest until r = if_bind (run_inside nest _ _ r) _ (λ p. size p.1 < size r) _ (inside_falls nest _ _ r) (λ p less. less)

-- ---- macro calls

past_falls : (nest : Nest) (what : Past) (r : Reading) → IfOk (past nest what r) (λ t. size t.1 < size r)
unfolding past
past_falls nest what r = if_bind (run nest _ _ r) _ (λ p. size p.1 < size r) _ (run_falls nest _ _ r) (λ p less. less)

group_falls : (nest : Nest) (long : Bool) (r : Reading) → IfOk (group nest long r) (λ g. size g.1 < size r)
unfolding group
group_falls nest long r = if_bind (run nest _ _ r) _ (λ p. size p.1 < size r) _ (run_falls nest _ _ r) (λ p less. less)

begins : (nest : Nest) (long : Bool) (brace : Brace) (token : Token) (r : Reading) → IfOk (argument_begun nest long brace token r) (λ a. size a.1 ≤ size r)
begins nest long Begin token r = if_weaker (group nest long r) (λ g. size g.1 < size r) _ (group_falls nest long r) (λ g less. omega (arith, less))
begins nest long End token r = tt
begins nest long Neither token r = if_either (is_par token && not long) _ _ _ tt (omega arith)

undelimited_falls : (nest : Nest) (long : Bool) (r : Reading) → IfOk (undelimited nest long r) (λ a. size a.1 ≤ size r)
unfolding undelimited
undelimited_falls nest long r = if_bind (past nest Spaces r) _ (λ t. size t.1 < size r) _ (past_falls nest Spaces r) (λ t less.
    if_weaker (argument_begun nest long (brace_of t.0) t.0 t.1) (λ a. size a.1 ≤ size t.1) _ (begins nest long (brace_of t.0) t.0 t.1) (λ a fewer. omega (arith, less, fewer)))

delimited_falls : (nest : Nest) (long : Bool) (delimiter : List Token) (r : Reading) → IfOk (delimited nest long delimiter r) (λ a. size a.1 ≤ size r)
unfolding delimited
delimited_falls nest long delimiter r = if_bind (run nest _ _ r) _ (λ p. size p.1 < size r) _ (run_falls nest _ _ r) (λ p less. omega (arith, less))

argument_falls : (nest : Nest) (long : Bool) (delimiter : List Token) (r : Reading) → IfOk (argument_of nest long delimiter r) (λ a. size a.1 ≤ size r)
argument_falls nest long [] r = undelimited_falls nest long r
argument_falls nest long (token ∷ delimiter) r = delimited_falls nest long (token ∷ delimiter) r

arguments_fall : (nest : Nest) (long : Bool) (delimiters : List (List Token)) (r : Reading) → IfOk (arguments_of nest long delimiters r) (λ a. size a.1 ≤ size r)
arguments_fall nest long [] r = omega arith
arguments_fall nest long (delimiter ∷ delimiters) r = if_bind (argument_of nest long delimiter r) _ (λ a. size a.1 ≤ size r) _ (argument_falls nest long delimiter r) (λ a few.
    if_bind (arguments_of nest long delimiters a.1) _ (λ b. size b.1 ≤ size a.1) _ (arguments_fall nest long delimiters a.1) (λ b fewer. omega (arith, few, fewer)))

met_falls : (nest : Nest) (prefix : List Token) (r : Reading) → IfOk (met nest prefix r) (λ v. size v ≤ size r)
met_falls nest [] r = omega arith
met_falls nest (token ∷ prefix) r = if_bind (run nest _ _ r) _ (λ p. size p.1 < size r) _ (run_falls nest _ _ r) (λ p less. omega (arith, less))

pub call_falls : (nest : Nest) (definition : MacroDef) (r : Reading) → IfOk (call nest definition r) (λ a. size a.1 ≤ size r)
unfolding call
call_falls nest definition r = if_bind (met nest (parts definition.params).prefix (entered r)) _ (λ v. size v ≤ size (entered r)) _ (met_falls nest (parts definition.params).prefix (entered r)) (λ v few.
    if_bind (arguments_of nest definition.long (parts definition.params).delimiters v) _ (λ a. size a.1 ≤ size v) _ (arguments_fall nest definition.long (parts definition.params).delimiters v)
    (λ a fewer. omega (arith, few, fewer, entered_size r, left_size a.1)))

-- ---- definitions and lists

pub heading_falls : (nest : Nest) (r : Reading) → IfOk (heading nest r) (λ h. size h.1 < size r)
unfolding heading
heading_falls nest r = run_falls nest _ _ r

pub defined_falls : (nest : Nest) (r : Reading) → IfOk (defined nest r) (λ d. size d.1 < size r)
unfolding defined
defined_falls nest r = if_bind (heading nest (entered r)) _ (λ h. size h.1 < size (entered r)) _ (heading_falls nest (entered r)) (λ h less.
    if_bind (run nest _ _ h.1) _ (λ b. size b.1 < size h.1) _ (run_falls nest _ _ h.1) (λ b fewer. omega (arith, less, fewer, entered_size r, left_size b.1)))

pub braced_falls : (nest : Nest) (r : Reading) → IfOk (braced nest r) (λ b. size b.1 < size r)
unfolding braced
braced_falls nest r = if_bind (past nest Blanks r) _ (λ t. size t.1 < size r) _ (past_falls nest Blanks r) (λ t less.
    if_either (means_category 1 (meaning_of nest t.0)) _ _ _
    (if_bind (run_inside nest _ _ t.1) _ (λ p. size p.1 < size t.1) _ (inside_falls nest _ _ t.1) (λ p fewer. omega (arith, less, fewer))) tt)
