-- What an expansion leaves is no more than what stood after its token, and the next unexpandable token leaves less: so no call
-- is ever asked of too much.
use Rattle.std.proofs.Common.{◌≡◌, ◌≤◌, ◌<◌, ◌+◌, ℕ, zero, suc, Bool, true, false, List, [], ◌∷◌, ◌++◌, length, Option, Some, None, Result, Ok, Err, arith, ap, ◌∙◌, refl, length-append}
use Rattle.std.specs.Prelude.{IfOk, if◌then◌else◌, nat_lt, ℤ}
use Rattle.ts_base.specs.Agreement.{◌>>=◌, with_fault}
use Rattle.jis_codes.specs.declared.Char.{Char}
use Rattle.tok_lists.specs.declared.token.Token.{Token}
use Rattle.tok_lists.specs.declared.token.Token.TheVariants as tokens
use Rattle.env_groups.specs.declared.meaning.MacroDef.{MacroDef}
use Rattle.env_groups.specs.Environments.{Nest, codes_of}
use Rattle.mouth.specs.declared.allowed.Allowed.{Allowed}
use Rattle.mouth.specs.declared.allowed.Allowed.TheVariants as allowed
use Rattle.mouth.specs.Reading.{Reading}
use Rattle.mouth.specs.Tokens.{next, plain, next_plain}
use Rattle.mouth.specs.Changes.{with_list, with_call, named, begun, opened, closed}
use Rattle.mouth.specs.Opening.{with_file}
use Rattle.mouth.specs.Sizes.{size}
use Rattle.raw_texts.specs.declared.limb.Limb.{Limb}
use Rattle.raw_texts.specs.declared.limb.Limb.TheVariants as limbs
use Rattle.raw_texts.specs.declared.skipping.Until.{Until}
use Rattle.raw_texts.specs.declared.skipping.Until.TheVariants as until
use Rattle.raw_texts.specs.declared.skipping.Ended.{Ended}
use Rattle.raw_texts.specs.declared.skipping.Ended.TheVariants as ended_by
use Rattle.raw_texts.specs.Skipping.{skipped}
use Rattle.macros.specs.Calls.{call}
use Rattle.scan_numbers.specs.declared.fault.ScanKind.{ScanKind}
use Rattle.scan_numbers.specs.Contexts.{around as in_context}
use Rattle.scan_numbers.specs.Tokens.{FedToken, is_space}
use Rattle.scan_numbers.specs.Answers.{Form, Expanded, Raw, Answer, Got, Needs, Bad}
use Rattle.scan_syntax.specs.declared.want.Want.{Want}
use Rattle.scan_syntax.specs.declared.want.Want.TheVariants as wants
use Rattle.scan_syntax.specs.declared.want.Value.{Value}
use Rattle.scan_syntax.specs.Scans.{grammar}
use Rattle.scan_syntax.proofs.Finding.{no_longer}
use Rattle.expander.specs.declared.action.Printing.{Printing}
use Rattle.expander.specs.declared.action.Front.{Front}
use Rattle.expander.specs.declared.action.Front.TheVariants as fronts
use Rattle.expander.specs.declared.action.Action.{Action}
use Rattle.expander.specs.declared.action.Action.TheVariants as actions
use Rattle.expander.specs.declared.action.Question.{Question}
use Rattle.expander.specs.declared.action.NumberTest.{NumberTest}
use Rattle.expander.specs.declared.action.NumberTest.TheVariants as tests
use Rattle.expander.specs.declared.action.Relation.{Relation}
use Rattle.expander.specs.declared.action.Aspect.{Aspect}
use Rattle.expander.specs.declared.action.Further.{Further}
use Rattle.expander.specs.declared.action.Further.TheVariants as furthers
use Rattle.expander.specs.declared.fault.StepFault.TheVariants as faults
use Rattle.expander.specs.Faults.{of_text, of_mouth, stopped, extra_conditional}
use Rattle.expander.specs.Worlds.{World, world, Outcome, token_from, plain_from, put, in_expansion, in_world}
use Rattle.expander.specs.Actions.{expands, front_of}
use Rattle.expander.specs.Conditionals.{relax, innermost, allows, branch_ended, limb_where, after_false, passed_over, inner_count, decided}
use Rattle.expander.specs.Questions.{answer, asked}
use Rattle.expander.specs.Comparisons.{mean_same, if_x}
use Rattle.expander.specs.Plain.{body_put, called, kept, spelt, work, acted}
use Rattle.expander.specs.Scanning.{fed_in, left_over}
use Rattle.expander.specs.Numbers.{want_of, integer_in, shown, shown_put}
use Rattle.expander.specs.Choices.{is_odd, register_answer, relation_of, holds, amount_in, case_number, is_first, case_met, case_after, cases_before, case_chosen, number_tested}
use Rattle.expander.specs.Faces.{face_of, are_alike}
use Rattle.expander.specs.Naming.{char_of, ends_name, spelling_of, name_put}
use Rattle.expander.specs.Inputs.{name_in, source_name, file_opened}
use Rattle.expander.specs.Steps.{Call, Next, PastSpaces, Chars, Expand, Scan, Given, Calls, wanted, scan_on, scan_step, next_on, next_step, past_on, past_step, second, expand_next, expand_after, print_scanned, test_scanned, related, relation_read, compare_scanned, chars_with, chars_on, chars_step, compare_tokens, make_name, input, goes_further, around, acts, expand_as, expand_step, step}
use Rattle.expander.specs.Expansion.{rank, gives_up, below, calls_at, run}
use Rattle.std.proofs.lemmas.Result.{IfOk-at_ok}
use Rattle.expander.proofs.Equations.{run_is, below_run}
use Rattle.expander.proofs.Falling.{bind_same, token_less}
use Rattle.expander.proofs.Outcomes.{if_weaker, if_bind, if_then, if_fault, if_either}
use Rattle.expander.proofs.Texts.{ended_size, ending_size, opened_size, changed_size, closed_size, named_falls, file_grows, begun_falls, list_grows, with_adds, next_falls, plain_falls, skipped_falls, call_falls}

-- ---- what leaves the environment alone

pub token_falls : (nest : Nest) (r : Reading) → IfOk (token_from nest r) (λ t. size t.1 < size r)
token_falls nest r = if_fault of_mouth (next (codes_of nest) r) _ (next_falls nest r)

pub plain_token_falls : (nest : Nest) (r : Reading) → IfOk (plain_from nest r) (λ t. size t.1 < size r)
plain_token_falls nest r = if_fault of_mouth (next_plain (codes_of nest) r) _ (plain_falls nest r)

pub put_adds : (list : List Token) (r : Reading) → IfOk (put list r) (λ v. size v ≡ size r + length list)
put_adds list r = if_fault of_mouth (with_list list r) _ (with_adds list r)

pub put_grows : (list : List Token) (r : Reading) → IfOk (put list r) (λ v. size v ≤ size r + 1000000)
put_grows list r = if_fault of_mouth (with_list list r) _ (list_grows list r)

pub skipping_falls : (nest : Nest) (to : Until) (r : Reading) → IfOk (with_fault of_text (skipped nest to r)) (λ e. size e.1 < size r)
skipping_falls nest to r = if_fault of_text (skipped nest to r) _ (skipped_falls nest to r)

-- A unit weighs more than a file and a full list.
pub expansion_falls : (does : Reading → Outcome Reading) (r : Reading) → ((x : Reading) → IfOk (does x) (λ v. size v ≤ size x + 100000000000)) → IfOk (in_expansion does r) (λ v. size v ≤ size r)
expansion_falls does r grows = if_bind (with_fault of_mouth (begun r)) _ (λ x. size x + 100000000000 ≡ size r) _ (if_fault of_mouth (begun r) _ (begun_falls r)) (λ x less.
    if_bind (does x) _ (λ v. size v ≤ size x + 100000000000) _ (grows x) (λ v few. omega (arith, less, few, ended_size v)))

pub called_falls : (nest : Nest) (definition : MacroDef) (r : Reading) → IfOk (called nest definition r) (λ v. size v ≤ size r)
unfolding called
called_falls nest definition r = expansion_falls (body_put nest definition) r (λ x.
    if_bind (with_fault of_text (call nest definition x)) _ (λ a. size a.1 ≤ size x) _ (if_fault of_text (call nest definition x) _ (call_falls nest definition x)) (λ a few.
    if_weaker (with_fault of_mouth (with_call a.0 definition.body a.1)) (λ v. size v ≤ size a.1 + 1000000) _
    (if_fault of_mouth (with_call a.0 definition.body a.1) _ (list_grows _ a.1)) (λ v more. omega (arith, few, more))))

-- ---- conditionals

false_size : (number : ℕ) (end : Ended) (r : Reading) → size (after_false number end r) ≡ size r
false_size number ended_by.Fi r = closed_size r
false_size number ended_by.Else r = changed_size number allowed.Fi r
false_size number ended_by.Or r = changed_size number allowed.Fi r

branch_skipped : (nest : Nest) (r : Reading) → IfOk (with_fault of_text (skipped nest until.Fi r) >>= λ e. Ok (closed e.1)) (λ v. size v ≤ size r)
branch_skipped nest r = if_bind (with_fault of_text (skipped nest until.Fi r)) _ (λ e. size e.1 < size r) _ (skipping_falls nest until.Fi r)
    (λ e less. omega (arith, less, closed_size e.1))

branch_falls : (nest : Nest) (limb : Limb) (r : Reading) → IfOk (branch_ended nest limb r) (λ v. size v ≤ size r)
branch_falls nest limbs.Fi r = omega (arith, closed_size r)
branch_falls nest limbs.If r = branch_skipped nest r
branch_falls nest limbs.Or r = branch_skipped nest r
branch_falls nest limbs.Else r = branch_skipped nest r
branch_falls nest limbs.Other r = branch_skipped nest r

over_falls : (nest : Nest) (n : ℕ) (r : Reading) → IfOk (passed_over nest n r) (λ v. size v ≤ size r)
unfolding passed_over
over_falls nest zero r = omega arith
over_falls nest (suc n) r = if_bind (branch_ended nest limbs.Else r) _ (λ v. size v ≤ size r) _ (branch_falls nest limbs.Else r) (λ v few.
    if_weaker (passed_over nest n v) (λ u. size u ≤ size v) _ (over_falls nest n v) (λ u fewer. omega (arith, few, fewer)))

pub decided_falls : (nest : Nest) (number : ℕ) (yes : Bool) (r : Reading) → IfOk (decided nest number yes r) (λ v. size v ≤ size r)
decided_falls nest number true r = omega (arith, changed_size number allowed.Else r)
decided_falls nest number false r = if_bind (passed_over nest (inner_count number r) r) _ (λ v. size v ≤ size r) _ (over_falls nest (inner_count number r) r) (λ v few.
    if_bind (with_fault of_text (skipped nest until.Else v)) _ (λ e. size e.1 < size v) _ (skipping_falls nest until.Else v) (λ e less. omega (arith, few, less, false_size number e.0 e.1)))

allowed_falls : (nest : Nest) (limb : Limb) (b : Bool) (r : Reading) → IfOk (if b then branch_ended nest limb r else Err (extra_conditional r)) (λ v. size v ≤ size r + 1000000)
allowed_falls nest limb true r = if_weaker (branch_ended nest limb r) (λ v. size v ≤ size r) _ (branch_falls nest limb r) (λ v few. omega (arith, few))
allowed_falls nest limb false r = tt

limb_grows : (nest : Nest) (token : Token) (limb : Limb) (present : Option Allowed) (r : Reading) → IfOk (limb_where nest token limb present r) (λ v. size v ≤ size r + 1000000)
limb_grows nest token limb None r = tt
limb_grows nest token limb (Some allowed.Test) r = put_grows (tokens.Kept (record { 0 = relax }) ∷ token ∷ []) r
limb_grows nest token limb (Some allowed.Or) r = allowed_falls nest limb (allows allowed.Or limb) r
limb_grows nest token limb (Some allowed.Else) r = allowed_falls nest limb (allows allowed.Else limb) r
limb_grows nest token limb (Some allowed.Fi) r = allowed_falls nest limb (allows allowed.Fi limb) r

-- ---- tests of numbers

met_falls : (next : Reading → Outcome Reading) (number : ℕ) (end : Ended) (r : Reading) → IfOk (next r) (λ v. size v ≤ size r) → IfOk (case_met next number end r) (λ v. size v ≤ size r)
met_falls next number ended_by.Or r falls = falls
met_falls next number ended_by.Else r falls = omega (arith, false_size number ended_by.Else r)
met_falls next number ended_by.Fi r falls = omega (arith, false_size number ended_by.Fi r)

case_falls : (nest : Nest) (number n : ℕ) (r : Reading) → IfOk (case_after nest number n r) (λ v. size v ≤ size r)
unfolding case_after
case_falls nest number zero r = omega (arith, changed_size number allowed.Or r)
case_falls nest number (suc n) r = if_bind (with_fault of_text (skipped nest until.Or r)) _ (λ e. size e.1 < size r) _ (skipping_falls nest until.Or r) (λ e less.
    if_weaker (case_met (case_after nest number n) number e.0 e.1) (λ v. size v ≤ size e.1) _
    (met_falls (case_after nest number n) number e.0 e.1 (case_falls nest number n e.1)) (λ v few. omega (arith, less, few)))

chosen_falls : (nest : Nest) (number : ℕ) (cases : Option ℕ) (r : Reading) → IfOk (case_chosen nest number cases r) (λ v. size v ≤ size r)
chosen_falls nest number cases r = if_either (is_first cases) _ _ _ (omega (arith, changed_size number allowed.Or r))
    (if_bind (passed_over nest (inner_count number r) r) _ (λ v. size v ≤ size r) _ (over_falls nest (inner_count number r) r) (λ v few.
    if_weaker (case_after nest number (cases_before cases v) v) (λ u. size u ≤ size v) _ (case_falls nest number (cases_before cases v) v) (λ u fewer. omega (arith, few, fewer))))

pub tested_falls : (nest : Nest) (number : ℕ) (test : NumberTest) (n : ℤ) (r : Reading) → IfOk (number_tested nest number test n r) (λ v. size v ≤ size r)
tested_falls nest number tests.Odd n r = decided_falls nest number (is_odd n) r
tested_falls nest number tests.Case n r = chosen_falls nest number (case_number n) r
tested_falls nest number (tests.Register test) n r =
    if_then (with_fault (λ kind. stopped (faults.Scan kind) r) (register_answer nest test n)) _ _ (λ yes. decided_falls nest number yes r)

-- ---- expansions that expand no further token

Grows : Outcome Reading → ℕ → Type 0
Grows a n = IfOk a (λ v. size v ≤ n + 100000000000)

few_grow : (a : Outcome Reading) (n : ℕ) → IfOk a (λ v. size v ≤ n + 1000000) → Grows a n
unfolding Grows
few_grow a n grows = if_weaker a (λ v. size v ≤ n + 1000000) _ grows (λ v few. omega (arith, few))

none_grow : (a : Outcome Reading) (n : ℕ) → IfOk a (λ v. size v ≤ n) → Grows a n
unfolding Grows
none_grow a n grows = if_weaker a (λ v. size v ≤ n) _ grows (λ v few. omega (arith, few))

-- a token is taken, and a list put in its place
pub replaced_grows : (nest : Nest) (r : Reading) (list : Token × Reading → List Token) → IfOk (plain_from nest r >>= λ t. put (list t) t.1) (λ v. size v ≤ size r + 1000000)
replaced_grows nest r list = if_bind (plain_from nest r) _ (λ t. size t.1 < size r) _ (plain_token_falls nest r) (λ t less.
    if_weaker (put (list t) t.1) (λ v. size v ≤ size t.1 + 1000000) _ (put_grows (list t) t.1) (λ v more. omega (arith, less, more)))

asked_falls : (nest : Nest) (question : Question) (r : Reading) → IfOk (asked nest question r) (λ v. size v ≤ size r)
asked_falls nest question r = if_weaker (decided nest (length r.conditionals) (answer nest.situation question) (opened r)) (λ v. size v ≤ size (opened r)) _
    (decided_falls nest (length r.conditionals) (answer nest.situation question) (opened r)) (λ v few. omega (arith, few, opened_size r))

if_x_falls : (nest : Nest) (r : Reading) → IfOk (if_x nest r) (λ v. size v ≤ size r)
if_x_falls nest r = if_bind (plain_from nest (opened r)) _ (λ a. size a.1 < size (opened r)) _ (plain_token_falls nest (opened r)) (λ a less.
    if_bind (plain_from nest a.1) _ (λ b. size b.1 < size a.1) _ (plain_token_falls nest a.1) (λ b fewer.
    if_weaker (decided nest (length r.conditionals) (mean_same nest a.0 b.0) b.1) (λ v. size v ≤ size b.1) _
    (decided_falls nest (length r.conditionals) (mean_same nest a.0 b.0) b.1) (λ v few. omega (arith, less, fewer, few, opened_size r))))

work_grows : (nest : Nest) (token : Token) (action : Action) (r : Reading) → Grows (work nest token action r) (size r)
unfolding Grows
work_grows nest token actions.NoExpand r = few_grow _ (size r) (replaced_grows nest r (λ t. kept nest t.0 ∷ []))
work_grows nest token actions.String r = few_grow _ (size r) (replaced_grows nest r (λ t. spelt t.1.names t.0))
work_grows nest token actions.EndInput r = omega (arith, ending_size r)
work_grows nest token (actions.Ends limb) r = few_grow _ (size r) (limb_grows nest token limb (innermost r.conditionals) r)
work_grows nest token (actions.Asks question) r = none_grow _ (size r) (asked_falls nest question r)
work_grows nest token actions.IfX r = none_grow _ (size r) (if_x_falls nest r)
work_grows nest token (actions.Further further) r = omega arith
work_grows nest token actions.Unexpandable r = omega arith

pub acted_falls : (nest : Nest) (token : Token) (action : Action) (r : Reading) → IfOk (acted nest token action r) (λ v. size v ≤ size r)
unfolding acted Grows
acted_falls nest token action r = expansion_falls (work nest token action) r (work_grows nest token action)

shown_grows : (a : Result (List Token) ScanKind) (r : Reading) → IfOk (shown_put a r) (λ v. size v ≤ size r + 1000000)
shown_grows (Ok list) r = put_grows list r
shown_grows (Err kind) r = tt

pub left_length : (list : List FedToken) → length (left_over list) ≡ length list
left_length [] = refl
left_length (x ∷ list) = omega (arith, left_length list)

-- ---- steps

-- how much a call leaves at most
abbrev pub Leaves : (call : Call) → World → Given call → Type 0
Leaves Next w t = size t.1.at < size w.at
Leaves PastSpaces w t = size t.1.at < size w.at
Leaves (Chars before) w c = size c.1.at < size w.at
Leaves (Expand token) w v = size v.at ≤ size w.at
Leaves (Scan want before) w y = size y.1.at ≤ size w.at + length before

pub opening_grows : (name : List ℕ) (r : Reading) → IfOk (file_opened name r) (λ v. size v ≤ size r + 65536000000)
opening_grows name r = if_then (with_fault (λ kind. stopped (faults.Scan kind) r) (source_name name)) _ _ (λ n. if_fault of_mouth (with_file n r) _ (file_grows n r))

pub name_grows : (list : List Char) (w : World) → IfOk (name_put list w) (λ v. size v.at ≤ size w.at + 1000000)
name_grows list w = if_bind (with_fault of_mouth (named (spelling_of list) w.at)) _ (λ n. size n.1 ≤ size w.at) _ (if_fault of_mouth (named (spelling_of list) w.at) _ (named_falls (spelling_of list) w.at)) (λ n few.
    if_bind (put (tokens.Name (record { 0 = n.0 }) ∷ []) n.1) _ (λ v. size v ≤ size n.1 + 1000000) _ (put_grows (tokens.Name (record { 0 = n.0 }) ∷ []) n.1) (λ v more. omega (arith, few, more)))

-- All calls leave so much.
abbrev pub AllFall : Calls → Type 0
AllFall f = (call : Call) (w : World) → IfOk (f call w) (Leaves call w)

pub in_world_falls : (n : ℕ) (w : World) (a : Outcome Reading) → IfOk a (λ v. size v ≤ n) → IfOk (in_world w a) (λ v. size v.at ≤ n)
in_world_falls n w a falls = if_bind a _ (λ v. size v ≤ n) _ falls (λ v few. few)

-- An expansion that expands further tokens spends a unit, which weighs more than a file and a full list.
pub around_falls : (does : World → Outcome World) (w : World) → ((x : World) → IfOk (does x) (λ v. size v.at ≤ size x.at + 100000000000)) → IfOk (around does w) (λ v. size v.at ≤ size w.at)
around_falls does w grows = if_bind (with_fault of_mouth (begun w.at)) _ (λ x. size x + 100000000000 ≡ size w.at) _ (if_fault of_mouth (begun w.at) _ (begun_falls w.at)) (λ x less.
    if_bind (does (world x w.nest)) _ (λ v. size v.at ≤ size x + 100000000000) _ (grows (world x w.nest)) (λ v few. omega (arith, less, few, ended_size v.at)))

module _ (f : Calls) (fall : AllFall f) where
  pub scan_falls : (want : Want) (w : World) → IfOk (f (Scan want []) w) (λ y. size y.1.at ≤ size w.at)
  scan_falls want w = if_weaker (f (Scan want []) w) (λ y. size y.1.at ≤ size w.at + length {A = FedToken} []) _ (fall (Scan want []) w) (λ y few. omega (arith, few))

  next_on_falls : (w : World) (t : Token × Reading) → size t.1 < size w.at → IfOk (next_on f w t) (λ u. size u.1.at < size w.at)
  next_on_falls w t less = either (expands w.nest t.0)
    where
      either : (b : Bool) → IfOk (if b then (f (Expand t.0) (world t.1 w.nest) >>= f Next) else Ok (t.0, world t.1 w.nest)) (λ u. size u.1.at < size w.at)
      either true = if_bind (f (Expand t.0) (world t.1 w.nest)) (f Next) (λ v. size v.at ≤ size t.1) _ (fall (Expand t.0) (world t.1 w.nest)) (λ v few.
          if_weaker (f Next v) (λ u. size u.1.at < size v.at) _ (fall Next v) (λ u fewer. omega (arith, less, few, fewer)))
      either false = less

  next_step_falls : (w : World) → IfOk (next_step f w) (λ u. size u.1.at < size w.at)
  unfolding next_step
  next_step_falls w = if_bind (token_from w.nest w.at) (next_on f w) (λ t. size t.1 < size w.at) _ (token_falls w.nest w.at) (λ t less. next_on_falls w t less)

  past_on_falls : (t : Token × World) → IfOk (past_on f t) (λ u. size u.1.at ≤ size t.1.at)
  past_on_falls t = if_either (is_space t.0 (in_context t.1.nest t.1.at.names)) _ _ _
      (if_weaker (f PastSpaces t.1) (λ u. size u.1.at < size t.1.at) _ (fall PastSpaces t.1) (λ u less. omega (arith, less))) (omega arith)

  past_step_falls : (w : World) → IfOk (past_step f w) (λ u. size u.1.at < size w.at)
  unfolding past_step
  past_step_falls w = if_bind (f Next w) (past_on f) (λ t. size t.1.at < size w.at) _ (fall Next w) (λ t less.
      if_weaker (past_on f t) (λ u. size u.1.at ≤ size t.1.at) _ (past_on_falls t) (λ u few. omega (arith, less, few)))

  chars_fall : (before : List Char) (found : Option Char) (token : Token) (w : World) → IfOk (chars_with f before found token w) (λ c. size c.1.at ≤ size w.at)
  chars_fall before (Some c) token w = if_weaker (f (Chars (before ++ c ∷ [])) w) (λ u. size u.1.at < size w.at) _ (fall (Chars (before ++ c ∷ [])) w) (λ u less. omega (arith, less))
  chars_fall before None token w = if_either (ends_name w.nest token) _ _ _ (omega arith) tt

  chars_step_falls : (before : List Char) (w : World) → IfOk (chars_step f before w) (λ c. size c.1.at < size w.at)
  unfolding chars_step
  chars_step_falls before w = if_bind (f Next w) (chars_on f before) (λ t. size t.1.at < size w.at) _ (fall Next w) (λ t less.
      if_weaker (chars_with f before (char_of t.0) t.0 t.1) (λ u. size u.1.at ≤ size t.1.at) _ (chars_fall before (char_of t.0) t.0 t.1) (λ u few. omega (arith, less, few)))

  second_grows : (w : World) (t : Token × Reading) → IfOk (second f w t) (λ v. size v.at ≤ size t.1 + 1000000)
  second_grows w t = if_either (expands w.nest t.0) _ _ _
      (if_weaker (f (Expand t.0) (world t.1 w.nest)) (λ v. size v.at ≤ size t.1) _ (fall (Expand t.0) (world t.1 w.nest)) (λ v few. omega (arith, few)))
      (in_world_falls (size t.1 + 1000000) w (put (plain t.0 ∷ []) t.1) (put_grows (plain t.0 ∷ []) t.1))

  expand_next_grows : (w : World) → IfOk (expand_next f w) (λ v. size v.at ≤ size w.at + 1000000)
  expand_next_grows w = if_bind (token_from w.nest w.at) (second f w) (λ t. size t.1 < size w.at) _ (token_falls w.nest w.at) (λ t less.
      if_weaker (second f w t) (λ v. size v.at ≤ size t.1 + 1000000) _ (second_grows w t) (λ v few. omega (arith, less, few)))

  expand_after_grows : (w : World) → IfOk (expand_after f w) (λ v. size v.at ≤ size w.at + 100000000000)
  expand_after_grows w = if_bind (plain_from w.nest w.at) _ (λ a. size a.1 < size w.at) _ (plain_token_falls w.nest w.at) (λ a less.
      if_bind (expand_next f (world a.1 w.nest)) _ (λ v. size v.at ≤ size a.1 + 1000000) _ (expand_next_grows (world a.1 w.nest)) (λ v few.
      if_weaker (in_world v (put (a.0 ∷ []) v.at)) (λ u. size u.at ≤ size v.at + 1000000) _
      (in_world_falls (size v.at + 1000000) v (put (a.0 ∷ []) v.at) (put_grows (a.0 ∷ []) v.at)) (λ u more. omega (arith, less, few, more))))

  plainly : (token : Token) (action : Action) (w : World) → IfOk (in_world w (acted w.nest token action w.at)) (λ v. size v.at ≤ size w.at)
  plainly token action w = in_world_falls (size w.at) w (acted w.nest token action w.at) (acted_falls w.nest token action w.at)

  print_grows : (printing : Printing) (w : World) → IfOk (print_scanned f printing w) (λ v. size v.at ≤ size w.at + 100000000000)
  print_grows printing w = if_bind (f (Scan (want_of printing) []) w) _ (λ y. size y.1.at ≤ size w.at) _ (scan_falls (want_of printing) w) (λ y few.
      if_weaker (in_world y.1 (shown_put (shown printing y.0) y.1.at)) (λ v. size v.at ≤ size y.1.at + 1000000) _
      (in_world_falls (size y.1.at + 1000000) y.1 (shown_put (shown printing y.0) y.1.at) (shown_grows (shown printing y.0) y.1.at)) (λ v more. omega (arith, few, more)))

  test_grows : (test : NumberTest) (w : World) → IfOk (test_scanned f test w) (λ v. size v.at ≤ size w.at + 100000000000)
  test_grows test w = if_bind (f (Scan wants.Integer []) (world (opened w.at) w.nest)) _ (λ a. size a.1.at ≤ size (opened w.at)) _ (scan_falls wants.Integer (world (opened w.at) w.nest)) (λ a few.
      if_weaker (in_world a.1 (number_tested a.1.nest (length w.at.conditionals) test (integer_in a.0) a.1.at)) (λ v. size v.at ≤ size a.1.at) _
      (in_world_falls (size a.1.at) a.1 (number_tested a.1.nest (length w.at.conditionals) test (integer_in a.0) a.1.at) (tested_falls a.1.nest (length w.at.conditionals) test (integer_in a.0) a.1.at))
      (λ v fewer. omega (arith, few, fewer, opened_size w.at)))

  related_falls : (found : Option Relation) (w : World) → IfOk (related found w) (λ r. size r.1.at ≤ size w.at)
  related_falls (Some relation) w = omega arith
  related_falls None w = tt

  pub relation_falls : (w : World) → IfOk (relation_read f w) (λ r. size r.1.at < size w.at)
  relation_falls w = if_bind (f PastSpaces w) _ (λ t. size t.1.at < size w.at) _ (fall PastSpaces w) (λ t less.
      if_weaker (related (relation_of t.0) t.1) (λ r. size r.1.at ≤ size t.1.at) _ (related_falls (relation_of t.0) t.1) (λ r few. omega (arith, less, few)))

  compare_grows : (want : Want) (w : World) → IfOk (compare_scanned f want w) (λ v. size v.at ≤ size w.at + 100000000000)
  compare_grows want w = if_bind (f (Scan want []) (world (opened w.at) w.nest)) _ (λ a. size a.1.at ≤ size (opened w.at)) _ (scan_falls want (world (opened w.at) w.nest)) (λ a few.
      if_bind (relation_read f a.1) _ (λ r. size r.1.at < size a.1.at) _ (relation_falls a.1) (λ r less.
      if_bind (f (Scan want []) r.1) _ (λ b. size b.1.at ≤ size r.1.at) _ (scan_falls want r.1) (λ b more.
      if_weaker (in_world b.1 (decided b.1.nest (length w.at.conditionals) (holds r.0 (amount_in a.0) (amount_in b.0)) b.1.at)) (λ v. size v.at ≤ size b.1.at) _
      (in_world_falls (size b.1.at) b.1 (decided b.1.nest (length w.at.conditionals) (holds r.0 (amount_in a.0) (amount_in b.0)) b.1.at)
      (decided_falls b.1.nest (length w.at.conditionals) (holds r.0 (amount_in a.0) (amount_in b.0)) b.1.at))
      (λ v fewer. omega (arith, few, less, more, fewer, opened_size w.at)))))

  tokens_grow : (aspect : Aspect) (w : World) → IfOk (compare_tokens f aspect w) (λ v. size v.at ≤ size w.at + 100000000000)
  tokens_grow aspect w = if_bind (f Next (world (opened w.at) w.nest)) _ (λ a. size a.1.at < size (opened w.at)) _ (fall Next (world (opened w.at) w.nest)) (λ a less.
      if_bind (f Next a.1) _ (λ b. size b.1.at < size a.1.at) _ (fall Next a.1) (λ b fewer.
      let yes = are_alike aspect (face_of a.1.nest a.1.at.names a.0) (face_of b.1.nest b.1.at.names b.0) in
      if_weaker (in_world b.1 (decided b.1.nest (length w.at.conditionals) yes b.1.at)) (λ v. size v.at ≤ size b.1.at) _
      (in_world_falls (size b.1.at) b.1 (decided b.1.nest (length w.at.conditionals) yes b.1.at) (decided_falls b.1.nest (length w.at.conditionals) yes b.1.at))
      (λ v few. omega (arith, less, fewer, few, opened_size w.at))))

  make_grows : (w : World) → IfOk (make_name f w) (λ v. size v.at ≤ size w.at + 100000000000)
  make_grows w = if_bind (f (Chars []) w) _ (λ c. size c.1.at < size w.at) _ (fall (Chars []) w) (λ c less.
      if_weaker (name_put c.0 c.1) (λ v. size v.at ≤ size c.1.at + 1000000) _ (name_grows c.0 c.1) (λ v more. omega (arith, less, more)))

  input_grows : (w : World) → IfOk (input f w) (λ v. size v.at ≤ size w.at + 100000000000)
  input_grows w = if_bind (f (Scan wants.FileName []) w) _ (λ y. size y.1.at ≤ size w.at) _ (scan_falls wants.FileName w) (λ y few.
      if_weaker (in_world y.1 (file_opened (name_in y.0) y.1.at)) (λ v. size v.at ≤ size y.1.at + 65536000000) _
      (in_world_falls (size y.1.at + 65536000000) y.1 (file_opened (name_in y.0) y.1.at) (opening_grows (name_in y.0) y.1.at)) (λ v more. omega (arith, few, more)))

  further_grows : (further : Further) (w : World) → IfOk (goes_further f further w) (λ v. size v.at ≤ size w.at + 100000000000)
  further_grows furthers.ExpandAfter w = expand_after_grows w
  further_grows (furthers.Prints printing) w = print_grows printing w
  further_grows (furthers.Tests test) w = test_grows test w
  further_grows furthers.IfNum w = compare_grows wants.Integer w
  further_grows furthers.IfDim w = compare_grows wants.Dimen w
  further_grows (furthers.Compares aspect) w = tokens_grow aspect w
  further_grows furthers.CsName w = make_grows w
  further_grows furthers.Input w = input_grows w

  acts_fall : (token : Token) (action : Action) (w : World) → IfOk (acts f token action w) (λ v. size v.at ≤ size w.at)
  acts_fall token actions.Unexpandable w = omega arith
  acts_fall token (actions.Further further) w = around_falls (goes_further f further) w (further_grows further)
  acts_fall token actions.NoExpand w = plainly token actions.NoExpand w
  acts_fall token actions.String w = plainly token actions.String w
  acts_fall token actions.EndInput w = plainly token actions.EndInput w
  acts_fall token (actions.Ends limb) w = plainly token (actions.Ends limb) w
  acts_fall token (actions.Asks question) w = plainly token (actions.Asks question) w
  acts_fall token actions.IfX w = plainly token actions.IfX w

  as_falls : (token : Token) (front : Front) (w : World) → IfOk (expand_as f token front w) (λ v. size v.at ≤ size w.at)
  as_falls token fronts.Undefined w = tt
  as_falls token (fronts.Call definition) w = in_world_falls (size w.at) w (called w.nest definition w.at) (called_falls w.nest definition w.at)
  as_falls token (fronts.Acts action) w = acts_fall token action w

  expand_step_falls : (token : Token) (w : World) → IfOk (expand_step f token w) (λ v. size v.at ≤ size w.at)
  unfolding expand_step
  expand_step_falls token w = as_falls token (front_of w.nest token) w

  pub wanted_falls : (form : Form) (w : World) → IfOk (wanted f form w) (λ t. size t.1.at < size w.at)
  wanted_falls Expanded w = fall Next w
  wanted_falls Raw w = if_bind (plain_from w.nest w.at) _ (λ t. size t.1 < size w.at) _ (plain_token_falls w.nest w.at) (λ t less. less)

  scan_on_grows : (want : Want) (before : List FedToken) (answer : Answer Value) (w : World) → grammar want before ≡ answer → IfOk (scan_on f want before answer w) (λ y. size y.1.at ≤ size w.at + length before)
  scan_on_grows want before (Got value context rest) w is = if_bind (put (left_over rest) w.at) _ (λ v. size v ≡ size w.at + length (left_over rest)) _ (put_adds (left_over rest) w.at) (λ v more.
      omega (arith, more, left_length rest, no_longer want before rest value context is))
  scan_on_grows want before (Bad kind) w is = tt
  scan_on_grows want before (Needs form) w is = if_bind (wanted f form w) _ (λ t. size t.1.at < size w.at) _ (wanted_falls form w) (λ t less.
      if_weaker (f (Scan want (before ++ fed_in t.1 t.0 ∷ [])) t.1) (λ y. size y.1.at ≤ size t.1.at + length (before ++ fed_in t.1 t.0 ∷ [])) _ (fall (Scan want (before ++ fed_in t.1 t.0 ∷ [])) t.1)
      (λ y more. omega (arith, less, more, length-append before (fed_in t.1 t.0 ∷ []))))

  scan_step_grows : (want : Want) (before : List FedToken) (w : World) → IfOk (scan_step f want before w) (λ y. size y.1.at ≤ size w.at + length before)
  unfolding scan_step
  scan_step_grows want before w = scan_on_grows want before (grammar want before) w refl

  pub step_falls : AllFall (step f)
  step_falls Next w = next_step_falls w
  step_falls PastSpaces w = past_step_falls w
  step_falls (Chars before) w = chars_step_falls before w
  step_falls (Expand token) w = expand_step_falls token w
  step_falls (Scan want before) w = scan_step_grows want before w

-- ---- the steps over themselves

below_falls : (k : ℕ) (f : Calls) → AllFall f → AllFall (below k f)
below_falls k f fall call w = if_either (nat_lt (rank call w) k) (f call w) (gives_up call w) (Leaves call w) (fall call w) tt

at_falls : (n : ℕ) → AllFall (calls_at n)
unfolding calls_at
at_falls zero call w = tt
at_falls (suc n) call w = step_falls (below (rank call w) (calls_at n)) (below_falls (rank call w) (calls_at n) (at_falls n)) call w

pub run_falls : AllFall run
unfolding run
run_falls call w = at_falls (suc (rank call w)) call w

pub expand_leaves : (token : Token) (w : World) → IfOk (run (Expand token) w) (λ v. size v.at ≤ size w.at)
expand_leaves token w = run_falls (Expand token) w

pub next_leaves : (w : World) → IfOk (run Next w) (λ t. size t.1.at < size w.at)
next_leaves w = run_falls Next w

pub expand_size : (token : Token) (w v : World) → run (Expand token) w ≡ Ok v → size v.at ≤ size w.at
expand_size token w v is = IfOk-at_ok (λ (u : World). size u.at ≤ size w.at) is (expand_leaves token w)

pub next_size : (w : World) (t : Token × World) → run Next w ≡ Ok t → size t.1.at < size w.at
next_size w t is = IfOk-at_ok (λ (u : Token × World). size u.1.at < size w.at) is (next_leaves w)

pub scan_leaves : (want : Want) (w : World) → IfOk (run (Scan want []) w) (λ y. size y.1.at ≤ size w.at)
scan_leaves want w = scan_falls run run_falls want w

pub scan_size : (want : Want) (w : World) (y : Value × World) → run (Scan want []) w ≡ Ok y → size y.1.at ≤ size w.at
scan_size want w y is = IfOk-at_ok (λ (u : Value × World). size u.1.at ≤ size w.at) is (scan_leaves want w)

pub relation_size : (w : World) (r : Relation × World) → relation_read run w ≡ Ok r → size r.1.at < size w.at
relation_size w r is = IfOk-at_ok (λ (u : Relation × World). size u.1.at < size w.at) is (relation_falls run run_falls w)

go_same : (k : ℕ) (token : Token) (w : World) → rank (Expand token) w < k → (below k run (Expand token) w >>= below k run Next) ≡ (run (Expand token) w >>= run Next)
go_same k token w less = ap (λ (x : Outcome World). x >>= below k run Next) (below_run k (Expand token) w less)
    ∙ bind_same (run (Expand token) w) _ _ (λ v is. let few = expand_size token w v is in below_run k Next v (omega (arith, less, few)))

-- The next unexpandable token is its step, over the calls themselves.
pub next_is : (w : World) → run Next w ≡ next_step run w
unfolding next_step
next_is w = run_is Next w ∙ bind_same (token_from w.nest w.at) _ _ (λ t first.
    let less = token_less w.nest w.at t first in
    ap (λ (x : Outcome (Token × World)). if expands w.nest t.0 then x else Ok (t.0, world t.1 w.nest))
    (go_same (rank Next w) t.0 (world t.1 w.nest) (omega (arith, less))))
