-- Expansions change the meanings of names alone.
use Rattle.std.proofs.Common.{◌≡◌, ◌∙◌, ap, refl, ℕ, zero, suc, Bool, true, false, List, [], ◌∷◌, ◌++◌, length, Option, Some, None, Result, Ok, Err}
use Rattle.std.specs.Prelude.{IfOk, if◌then◌else◌, nat_lt, not, ◌&&◌}
use Rattle.ts_base.specs.Agreement.{◌>>=◌, with_fault}
use Rattle.jis_codes.specs.declared.Char.{Char}
use Rattle.tok_lists.specs.declared.token.Token.{Token}
use Rattle.tok_lists.specs.declared.token.Token.TheVariants as tokens
use Rattle.env_groups.specs.declared.group.GroupKind.{GroupKind}
use Rattle.env_groups.specs.declared.font.FontFacts.{FontFacts}
use Rattle.env_groups.specs.declared.situation.Situation.{Situation}
use Rattle.env_groups.specs.declared.meaning.MacroDef.{MacroDef}
use Rattle.env_groups.specs.declared.meaning.Meaning.{Meaning}
use Rattle.env_groups.specs.declared.meaning.Meaning.TheVariants as meanings
use Rattle.env_groups.specs.declared.prim.PrimitiveName.TheVariants as prims
use Rattle.env_groups.specs.Environments.{Environment, Nest, meaning_at, meaning_set}
use Rattle.mouth.specs.Reading.{Reading}
use Rattle.mouth.specs.Tokens.{plain}
use Rattle.mouth.specs.Changes.{named, begun, ended, opened, entered, left}
use Rattle.raw_texts.specs.declared.machine.Progress.{Progress}
use Rattle.raw_texts.specs.declared.machine.Progress.TheVariants.{On, Done}
use Rattle.macros.specs.declared.body.Body.{Body}
use Rattle.macros.specs.Headings.{heading}
use Rattle.macros.specs.Bodies.{empty, stored, step as body_step}
use Rattle.macros.specs.Definitions.{macro_of, defined}
use Rattle.scan_numbers.specs.Contexts.{around as in_context}
use Rattle.scan_numbers.specs.Tokens.{FedToken, is_space}
use Rattle.scan_numbers.specs.Answers.{Form, Expanded, Raw, Answer, Got, Needs, Bad}
use Rattle.scan_syntax.specs.declared.want.Want.{Want}
use Rattle.scan_syntax.specs.declared.want.Want.TheVariants as wants
use Rattle.scan_syntax.specs.declared.want.Value.{Value}
use Rattle.scan_syntax.specs.Scans.{grammar}
use Rattle.expander.specs.declared.action.Printing.{Printing}
use Rattle.expander.specs.declared.action.Front.{Front}
use Rattle.expander.specs.declared.action.Front.TheVariants as fronts
use Rattle.expander.specs.declared.action.Action.{Action}
use Rattle.expander.specs.declared.action.Action.TheVariants as actions
use Rattle.expander.specs.declared.action.NumberTest.{NumberTest}
use Rattle.expander.specs.declared.action.Relation.{Relation}
use Rattle.expander.specs.declared.action.Aspect.{Aspect}
use Rattle.expander.specs.declared.action.Further.{Further}
use Rattle.expander.specs.declared.action.Further.TheVariants as furthers
use Rattle.expander.specs.declared.fault.StepFault.TheVariants.{Text}
use Rattle.expander.specs.Faults.{of_text, of_mouth, stopped}
use Rattle.expander.specs.Worlds.{World, world, Outcome, token_from, plain_from, put, in_world}
use Rattle.expander.specs.Actions.{expands, front_of}
use Rattle.expander.specs.Conditionals.{decided}
use Rattle.expander.specs.Plain.{called, acted}
use Rattle.expander.specs.Scanning.{fed_in, left_over}
use Rattle.expander.specs.Numbers.{want_of, integer_in, value_shown, shown, shown_put}
use Rattle.expander.specs.Choices.{relation_of, holds, amount_in, number_tested}
use Rattle.expander.specs.Faces.{face_of, are_alike}
use Rattle.expander.specs.Naming.{char_of, ends_name, spelling_of, defined_as, with_relax, name_put}
use Rattle.expander.specs.Inputs.{name_in, file_opened}
use Rattle.expander.specs.Steps.{Call, Next, PastSpaces, Chars, Expand, Scan, Given, Calls, wanted, scan_on, scan_step, next_on, next_step, past_on, past_step, second, expand_next, expand_after, print_scanned, test_scanned, related, relation_read, compare_with, compare_scanned, chars_with, chars_on, chars_step, compare_tokens, make_name, input, goes_further, around, acts, expand_as, expand_step, step}
use Rattle.expander.specs.Expansion.{rank, gives_up, below, calls_at, run}
use Rattle.expander.specs.Definitions.{Part, part, token_fed, is_the, the_stored, part_expanded, part_with, next_part, goes_as, goes_on, expanded_within, expanded, definition_of}
use Rattle.expander.specs.Leaving.{but_meanings}
use Rattle.expander.proofs.Outcomes.{if_weaker, if_bind, if_then, if_either}

-- ---- what is set

keeps_in : (es : List Environment) (groups : List GroupKind) (fonts : List FontFacts) (situation : Situation) (name : ℕ) (value : Meaning)
    → but_meanings (meaning_set (record { environments = es; groups = groups; fonts = fonts; situation = situation }) name value false) ≡ but_meanings (record { environments = es; groups = groups; fonts = fonts; situation = situation })
unfolding but_meanings
keeps_in [] groups fonts situation name value = refl
keeps_in (e ∷ es) groups fonts situation name value = refl

pub setting_keeps : (nest : Nest) (name : ℕ) (value : Meaning) → but_meanings (meaning_set nest name value false) ≡ but_meanings nest
setting_keeps nest name value = keeps_in nest.environments nest.groups nest.fonts nest.situation name value

defined_keeps : (meaning : Meaning) (name : ℕ) (nest : Nest) → but_meanings (defined_as meaning name nest) ≡ but_meanings nest
defined_keeps meanings.Undefined name nest = setting_keeps nest name (meanings.Primitive prims.Relax)
defined_keeps (meanings.Primitive prim) name nest = refl
defined_keeps (meanings.Macro definition) name nest = refl
defined_keeps (meanings.Letter token) name nest = refl
defined_keeps (meanings.Code n) name nest = refl
defined_keeps (meanings.Count n) name nest = refl
defined_keeps (meanings.Dimen n) name nest = refl
defined_keeps (meanings.Skip n) name nest = refl
defined_keeps (meanings.Toks n) name nest = refl
defined_keeps (meanings.Font n) name nest = refl

pub relax_keeps : (name : ℕ) (nest : Nest) → but_meanings (with_relax name nest) ≡ but_meanings nest
relax_keeps name nest = defined_keeps (meaning_at nest name) name nest

-- ---- what is beside meanings

pub situation_kept : (old new : Nest) → but_meanings new ≡ but_meanings old → new.situation ≡ old.situation
unfolding but_meanings
situation_kept old new same = ap (λ (n : Nest). n.situation) same

pub fonts_kept : (old new : Nest) → but_meanings new ≡ but_meanings old → new.fonts ≡ old.fonts
unfolding but_meanings
fonts_kept old new same = ap (λ (n : Nest). n.fonts) same

pub groups_kept : (old new : Nest) → but_meanings new ≡ but_meanings old → new.groups ≡ old.groups
unfolding but_meanings
groups_kept old new same = ap (λ (n : Nest). n.groups) same

-- ---- what is kept

abbrev pub Keeps : World → World → Type 0
Keeps w v = but_meanings v.nest ≡ but_meanings w.nest

then_keeps : {X Y : Type 0} (w : World) (a : Outcome X) (from : X → World) (more : X → Outcome Y) (to : Y → World) → IfOk a (λ x. Keeps w (from x)) → ((x : X) → IfOk (more x) (λ y. Keeps (from x) (to y)))
    → IfOk (a >>= more) (λ y. Keeps w (to y))
then_keeps w (Ok x) from more to same further = if_weaker (more x) (λ y. Keeps (from x) (to y)) _ (further x) (λ y still. still ∙ same)
then_keeps w (Err e) from more to same further = tt

in_world_keeps : (w : World) (a : Outcome Reading) → IfOk (in_world w a) (λ v. Keeps w v)
in_world_keeps w (Ok r) = refl
in_world_keeps w (Err e) = tt

name_keeps : (list : List Char) (w : World) → IfOk (name_put list w) (λ v. Keeps w v)
name_keeps list w = if_then (with_fault of_mouth (named (spelling_of list) w.at)) _ _ (λ n.
    if_weaker (in_world (world n.1 (with_relax n.0 w.nest)) (put (tokens.Name (record { 0 = n.0 }) ∷ []) n.1)) (λ v. Keeps (world n.1 (with_relax n.0 w.nest)) v) _
    (in_world_keeps (world n.1 (with_relax n.0 w.nest)) (put (tokens.Name (record { 0 = n.0 }) ∷ []) n.1)) (λ v same. same ∙ relax_keeps n.0 w.nest))

-- the world that a call leaves
abbrev pub world_of : (call : Call) → Given call → World
world_of Next t = t.1
world_of PastSpaces t = t.1
world_of (Chars before) c = c.1
world_of (Expand token) v = v
world_of (Scan want before) y = y.1

abbrev pub AllKeep : Calls → Type 0
AllKeep f = (call : Call) (w : World) → IfOk (f call w) (λ given. Keeps w (world_of call given))

around_keeps : (does : World → Outcome World) (w : World) → ((x : World) → IfOk (does x) (λ v. Keeps x v)) → IfOk (around does w) (λ v. Keeps w v)
around_keeps does w keeps = if_then (with_fault of_mouth (begun w.at)) _ _ (λ at. if_bind (does (world at w.nest)) _ (λ v. Keeps w v) _ (keeps (world at w.nest)) (λ v same. same))

related_keeps : (found : Option Relation) (w : World) → IfOk (related found w) (λ r. Keeps w r.1)
related_keeps (Some relation) w = refl
related_keeps None w = tt

module _ (f : Calls) (keep : AllKeep f) where
  next_on_keeps : (w : World) (t : Token × Reading) → IfOk (next_on f w t) (λ u. Keeps w u.1)
  next_on_keeps w t = if_either (expands w.nest t.0) _ _ _
      (then_keeps w (f (Expand t.0) (world t.1 w.nest)) (λ v. v) (f Next) (λ u. u.1) (keep (Expand t.0) (world t.1 w.nest)) (λ v. keep Next v)) refl

  next_step_keeps : (w : World) → IfOk (next_step f w) (λ u. Keeps w u.1)
  unfolding next_step
  next_step_keeps w = if_then (token_from w.nest w.at) (next_on f w) _ (λ t. next_on_keeps w t)

  past_on_keeps : (t : Token × World) → IfOk (past_on f t) (λ u. Keeps t.1 u.1)
  past_on_keeps t = if_either (is_space t.0 (in_context t.1.nest t.1.at.names)) _ _ _ (keep PastSpaces t.1) refl

  past_step_keeps : (w : World) → IfOk (past_step f w) (λ u. Keeps w u.1)
  unfolding past_step
  past_step_keeps w = then_keeps w (f Next w) (λ t. t.1) (past_on f) (λ u. u.1) (keep Next w) (λ t. past_on_keeps t)

  chars_keep : (before : List Char) (found : Option Char) (token : Token) (w : World) → IfOk (chars_with f before found token w) (λ c. Keeps w c.1)
  chars_keep before (Some c) token w = keep (Chars (before ++ c ∷ [])) w
  chars_keep before None token w = if_either (ends_name w.nest token) _ _ _ refl tt

  chars_step_keeps : (before : List Char) (w : World) → IfOk (chars_step f before w) (λ c. Keeps w c.1)
  unfolding chars_step
  chars_step_keeps before w = then_keeps w (f Next w) (λ t. t.1) (chars_on f before) (λ c. c.1) (keep Next w) (λ t. chars_keep before (char_of t.0) t.0 t.1)

  second_keeps : (w : World) (t : Token × Reading) → IfOk (second f w t) (λ v. Keeps w v)
  second_keeps w t = if_either (expands w.nest t.0) _ _ _ (keep (Expand t.0) (world t.1 w.nest)) (in_world_keeps w (put (plain t.0 ∷ []) t.1))

  expand_next_keeps : (w : World) → IfOk (expand_next f w) (λ v. Keeps w v)
  expand_next_keeps w = if_then (token_from w.nest w.at) (second f w) _ (λ t. second_keeps w t)

  expand_after_keeps : (w : World) → IfOk (expand_after f w) (λ v. Keeps w v)
  expand_after_keeps w = if_then (plain_from w.nest w.at) _ _ (λ a.
      then_keeps w (expand_next f (world a.1 w.nest)) (λ v. v) _ (λ u. u) (expand_next_keeps (world a.1 w.nest)) (λ v. in_world_keeps v (put (a.0 ∷ []) v.at)))

  print_keeps : (printing : Printing) (w : World) → IfOk (print_scanned f printing w) (λ v. Keeps w v)
  print_keeps printing w = then_keeps w (f (Scan (want_of printing) []) w) (λ y. y.1) _ (λ v. v) (keep (Scan (want_of printing) []) w) (λ y. in_world_keeps y.1 (shown_put (shown printing y.0) y.1.at))

  test_keeps : (test : NumberTest) (w : World) → IfOk (test_scanned f test w) (λ v. Keeps w v)
  test_keeps test w = then_keeps w (f (Scan wants.Integer []) (world (opened w.at) w.nest)) (λ a. a.1) _ (λ v. v) (keep (Scan wants.Integer []) (world (opened w.at) w.nest))
      (λ a. in_world_keeps a.1 (number_tested a.1.nest (length w.at.conditionals) test (integer_in a.0) a.1.at))

  relation_keeps : (w : World) → IfOk (relation_read f w) (λ r. Keeps w r.1)
  relation_keeps w = then_keeps w (f PastSpaces w) (λ t. t.1) _ (λ r. r.1) (keep PastSpaces w) (λ t. related_keeps (relation_of t.0) t.1)

  compare_keeps : (want : Want) (w : World) → IfOk (compare_scanned f want w) (λ v. Keeps w v)
  compare_keeps want w = then_keeps w (f (Scan want []) (world (opened w.at) w.nest)) (λ a. a.1) _ (λ v. v) (keep (Scan want []) (world (opened w.at) w.nest)) (λ a.
      then_keeps a.1 (relation_read f a.1) (λ r. r.1) _ (λ v. v) (relation_keeps a.1) (λ r.
      then_keeps r.1 (f (Scan want []) r.1) (λ b. b.1) _ (λ v. v) (keep (Scan want []) r.1)
      (λ b. in_world_keeps b.1 (decided b.1.nest (length w.at.conditionals) (holds r.0 (amount_in a.0) (amount_in b.0)) b.1.at))))

  tokens_keep : (aspect : Aspect) (w : World) → IfOk (compare_tokens f aspect w) (λ v. Keeps w v)
  tokens_keep aspect w = then_keeps w (f Next (world (opened w.at) w.nest)) (λ a. a.1) _ (λ v. v) (keep Next (world (opened w.at) w.nest)) (λ a.
      then_keeps a.1 (f Next a.1) (λ b. b.1) _ (λ v. v) (keep Next a.1) (λ b.
      in_world_keeps b.1 (decided b.1.nest (length w.at.conditionals) (are_alike aspect (face_of a.1.nest a.1.at.names a.0) (face_of b.1.nest b.1.at.names b.0)) b.1.at)))

  make_keeps : (w : World) → IfOk (make_name f w) (λ v. Keeps w v)
  make_keeps w = then_keeps w (f (Chars []) w) (λ c. c.1) _ (λ v. v) (keep (Chars []) w) (λ c. name_keeps c.0 c.1)

  input_keeps : (w : World) → IfOk (input f w) (λ v. Keeps w v)
  input_keeps w = then_keeps w (f (Scan wants.FileName []) w) (λ y. y.1) _ (λ v. v) (keep (Scan wants.FileName []) w) (λ y. in_world_keeps y.1 (file_opened (name_in y.0) y.1.at))

  further_keeps : (further : Further) (w : World) → IfOk (goes_further f further w) (λ v. Keeps w v)
  further_keeps furthers.ExpandAfter w = expand_after_keeps w
  further_keeps (furthers.Prints printing) w = print_keeps printing w
  further_keeps (furthers.Tests test) w = test_keeps test w
  further_keeps furthers.IfNum w = compare_keeps wants.Integer w
  further_keeps furthers.IfDim w = compare_keeps wants.Dimen w
  further_keeps (furthers.Compares aspect) w = tokens_keep aspect w
  further_keeps furthers.CsName w = make_keeps w
  further_keeps furthers.Input w = input_keeps w

  acts_keep : (token : Token) (action : Action) (w : World) → IfOk (acts f token action w) (λ v. Keeps w v)
  acts_keep token actions.Unexpandable w = refl
  acts_keep token (actions.Further further) w = around_keeps (goes_further f further) w (further_keeps further)
  acts_keep token actions.NoExpand w = in_world_keeps w (acted w.nest token actions.NoExpand w.at)
  acts_keep token actions.String w = in_world_keeps w (acted w.nest token actions.String w.at)
  acts_keep token actions.EndInput w = in_world_keeps w (acted w.nest token actions.EndInput w.at)
  acts_keep token (actions.Ends limb) w = in_world_keeps w (acted w.nest token (actions.Ends limb) w.at)
  acts_keep token (actions.Asks question) w = in_world_keeps w (acted w.nest token (actions.Asks question) w.at)
  acts_keep token actions.IfX w = in_world_keeps w (acted w.nest token actions.IfX w.at)

  as_keeps : (token : Token) (front : Front) (w : World) → IfOk (expand_as f token front w) (λ v. Keeps w v)
  as_keeps token fronts.Undefined w = tt
  as_keeps token (fronts.Call definition) w = in_world_keeps w (called w.nest definition w.at)
  as_keeps token (fronts.Acts action) w = acts_keep token action w

  expand_step_keeps : (token : Token) (w : World) → IfOk (expand_step f token w) (λ v. Keeps w v)
  unfolding expand_step
  expand_step_keeps token w = as_keeps token (front_of w.nest token) w

  wanted_keeps : (form : Form) (w : World) → IfOk (wanted f form w) (λ t. Keeps w t.1)
  wanted_keeps Expanded w = keep Next w
  wanted_keeps Raw w = if_then (plain_from w.nest w.at) _ _ (λ t. refl)

  scan_on_keeps : (want : Want) (before : List FedToken) (answer : Answer Value) (w : World) → IfOk (scan_on f want before answer w) (λ y. Keeps w y.1)
  scan_on_keeps want before (Got value context rest) w = if_then (put (left_over rest) w.at) _ _ (λ at. refl)
  scan_on_keeps want before (Bad kind) w = tt
  scan_on_keeps want before (Needs form) w = then_keeps w (wanted f form w) (λ t. t.1) _ (λ y. y.1) (wanted_keeps form w) (λ t. keep (Scan want (before ++ fed_in t.1 t.0 ∷ [])) t.1)

  scan_step_keeps : (want : Want) (before : List FedToken) (w : World) → IfOk (scan_step f want before w) (λ y. Keeps w y.1)
  unfolding scan_step
  scan_step_keeps want before w = scan_on_keeps want before (grammar want before) w

  step_keeps : AllKeep (step f)
  step_keeps Next w = next_step_keeps w
  step_keeps PastSpaces w = past_step_keeps w
  step_keeps (Chars before) w = chars_step_keeps before w
  step_keeps (Expand token) w = expand_step_keeps token w
  step_keeps (Scan want before) w = scan_step_keeps want before w

-- ---- the steps over themselves

below_keeps : (k : ℕ) (f : Calls) → AllKeep f → AllKeep (below k f)
below_keeps k f keep call w = if_either (nat_lt (rank call w) k) (f call w) (gives_up call w) (λ given. Keeps w (world_of call given)) (keep call w) tt

at_keeps : (n : ℕ) → AllKeep (calls_at n)
unfolding calls_at
at_keeps zero call w = tt
at_keeps (suc n) call w = step_keeps (below (rank call w) (calls_at n)) (below_keeps (rank call w) (calls_at n) (at_keeps n)) call w

run_keeps : AllKeep run
unfolding run
run_keeps call w = at_keeps (suc (rank call w)) call w

pub expand_keeps : (token : Token) (w : World) → IfOk (run (Expand token) w) (λ v. but_meanings v.nest ≡ but_meanings w.nest)
expand_keeps token w = run_keeps (Expand token) w

pub next_keeps : (w : World) → IfOk (run Next w) (λ t. but_meanings t.1.nest ≡ but_meanings w.nest)
next_keeps w = run_keeps Next w

pub scan_keeps : (want : Want) (w : World) → IfOk (run (Scan want []) w) (λ y. but_meanings y.1.nest ≡ but_meanings w.nest)
scan_keeps want w = run_keeps (Scan want []) w

-- ---- definitions

stored_keeps : (body : Body) (w : World) → IfOk (the_stored body w) (λ p. Keeps w p.rest)
stored_keeps body w = if_then (with_fault of_mouth (begun w.at)) _ _ (λ at.
    if_bind (run (Scan wants.Internal []) (world at w.nest)) _ (λ y. Keeps w y.1) _ (scan_keeps wants.Internal (world at w.nest)) (λ y same. same))

fed_keeps : (body : Body) (token : Token) (w : World) → IfOk (token_fed body token w) (λ p. Keeps w p.rest)
fed_keeps body token w = if_then (with_fault (λ fault. stopped (Text fault) w.at) (body_step w.nest body token)) _ _ (λ p. refl)

part_keeps : (body : Body) (w : World) (t : Token × Reading) → IfOk (part_with body w t) (λ p. Keeps w p.rest)
part_keeps body w t = if_either (is_the (front_of w.nest t.0) && not body.hash) _ _ _ (stored_keeps body (world t.1 w.nest))
    (if_either (expands w.nest t.0) _ _ _ (if_bind (run (Expand t.0) (world t.1 w.nest)) _ (λ v. Keeps w v) _ (expand_keeps t.0 (world t.1 w.nest)) (λ v same. same)) (fed_keeps body (plain t.0) (world t.1 w.nest)))

as_kept : (more : Body → World → Outcome (Body × World)) (progress : Progress) (body : Body) (w : World) → IfOk (more body w) (λ b. Keeps w b.1) → IfOk (goes_as more progress body w) (λ b. Keeps w b.1)
as_kept more Done body w further = refl
as_kept more On body w further = further

within_keeps : (n : ℕ) (body : Body) (w : World) → IfOk (expanded_within n body w) (λ b. Keeps w b.1)
unfolding expanded_within
within_keeps zero body w = tt
within_keeps (suc n) body w = then_keeps w (next_part body w) (λ p. p.rest) (goes_on (expanded_within n)) (λ b. b.1) (if_then (token_from w.nest w.at) (part_with body w) _ (λ t. part_keeps body w t))
    (λ p. as_kept (expanded_within n) p.progress p.body p.rest (within_keeps n p.body p.rest))

body_keeps : (body : Body) (w : World) → IfOk (expanded body w) (λ b. Keeps w b.1)
unfolding expanded
body_keeps body w = within_keeps _ body w

pub definition_keeps : (is_expanded : Bool) (w : World) → IfOk (definition_of is_expanded w) (λ d. but_meanings d.1.nest ≡ but_meanings w.nest)
definition_keeps true w = if_then (with_fault of_text (heading w.nest (entered w.at))) _ _ (λ h.
    if_bind (expanded (empty h.0) (world h.1 w.nest)) _ (λ b. Keeps w b.1) _ (body_keeps (empty h.0) (world h.1 w.nest)) (λ b same. same))
definition_keeps false w = if_then (with_fault of_text (defined w.nest w.at)) _ _ (λ d. refl)
