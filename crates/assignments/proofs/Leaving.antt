-- What an assignment leaves is no more than what was there.
use Rattle.std.proofs.Common.{◌≡◌, ◌≤◌, ◌<◌, ◌+◌, ℕ, ℤ, Bool, true, false, List, [], ◌∷◌, length, Option, Result, Ok, Err, arith}
use Rattle.std.specs.Prelude.{◌||◌, IfOk, if◌then◌else◌}
use Rattle.std.proofs.lemmas.Result.{IfOk-at_ok}
use Rattle.ts_base.specs.Agreement.{◌>>=◌, with_fault}
use Rattle.ts_geometry.specs.declared.glue.Glue.{Glue}
use Rattle.ts_geometry.specs.declared.measure.Sp.{Sp}
use Rattle.tok_lists.specs.declared.token.NameNo.{NameNo}
use Rattle.tok_lists.specs.declared.token.Token.{Token}
use Rattle.tok_lists.specs.declared.token.Token.TheVariants as tokens
use Rattle.env_groups.specs.declared.parameter.IntParam.{IntParam}
use Rattle.env_groups.specs.declared.meaning.Meaning.{Meaning}
use Rattle.env_groups.specs.declared.meaning.Meaning.TheVariants as meanings
use Rattle.env_groups.specs.declared.prim.PrimitiveName.{PrimitiveName}
use Rattle.env_groups.specs.declared.prim.PrimitiveName.TheVariants as prims
use Rattle.env_groups.specs.declared.parameter.ToksParam.TheVariants.{Output}
use Rattle.env_groups.specs.declared.key.IntKey.TheVariants.{Param}
use Rattle.env_groups.specs.declared.key.ToksKey.{ToksKey}
use Rattle.env_groups.specs.declared.key.ToksKey.TheVariants as toks
use Rattle.env_groups.specs.Environments.{Nest, meaning_set, toks_at}
use Rattle.mouth.specs.Reading.{Reading, Stop}
use Rattle.mouth.specs.Changes.{with_list}
use Rattle.mouth.specs.Sizes.{size}
use Rattle.raw_texts.specs.Braced.{braced}
use Rattle.raw_texts.specs.Meanings.{meaning_of, means_category}
use Rattle.arithmetic.specs.Results.{dimen_advanced, glue_advanced}
use Rattle.scan_syntax.specs.declared.want.Want.{Want}
use Rattle.scan_syntax.specs.declared.want.Want.TheVariants as wants
use Rattle.scan_syntax.specs.declared.word.Word.{Word}
use Rattle.scan_syntax.specs.declared.word.Word.TheVariants.{By}
use Rattle.expander.specs.GulletFaults.{stop_as, of_mouth_fault, of_macro_fault, of_step_fault}
use Rattle.expander.specs.Worlds.{World, world}
use Rattle.expander.specs.Steps.{Scan}
use Rattle.expander.specs.Expansion.{run}
use Rattle.expander.specs.Definitions.{definition_of}
use Rattle.control_faults.specs.declared.kind.FaultKind.{FaultKind}
use Rattle.control_faults.specs.declared.turn_fault.TurnFault.{TurnFault}
use Rattle.control_faults.specs.TurnFaults.{of_gullet, of_env, turn_stop}
use Rattle.assignments.specs.declared.variable.Variable.{Variable}
use Rattle.assignments.specs.declared.variable.Variable.TheVariants as variables
use Rattle.assignments.specs.declared.variable.Target.{Target}
use Rattle.assignments.specs.declared.variable.Target.TheVariants.{Known, OfNumber}
use Rattle.assignments.specs.declared.command.Operation.{Operation}
use Rattle.assignments.specs.declared.command.Shorthand.{Shorthand}
use Rattle.assignments.specs.declared.command.Defining.{Defining}
use Rattle.assignments.specs.declared.command.Prefixes.{Prefixes}
use Rattle.assignments.specs.declared.command.Assignment.{Assignment}
use Rattle.assignments.specs.declared.command.Assignment.TheVariants as assignments
use Rattle.assignments.specs.declared.command.Command.{Command}
use Rattle.assignments.specs.declared.command.Command.TheVariants as commands
use Rattle.assignments.specs.declared.seeking.Sought.{Sought}
use Rattle.assignments.specs.declared.seeking.Sought.TheVariants as sought
use Rattle.assignments.specs.Worlds.{Outcome, stopped, refused, checked, in_env, from_env}
use Rattle.assignments.specs.Reads.{scanned, macro_read, braces_read, put_back, raw_token, next_token}
use Rattle.assignments.specs.Values.{integer, dimension, glue, equals, keyword, register, whole_integer, whole_dimen, whole_glue, register_number}
use Rattle.assignments.specs.Variables.{variable, variable_at}
use Rattle.assignments.specs.Seeking.{found, name, name_of, solid_token, spaces_ignored}
use Rattle.assignments.specs.Commands.{command_in, meant}
use Rattle.assignments.specs.Settings.{int_stored, dim_stored, glue_stored, toks_stored, code_stored, list_at, switch_number, list_copied, list_from, token_list, value_set, target_set, switched, dead_cycles}
use Rattle.assignments.specs.Namings.{meaning_stored, macro_meaning, is_equals, after_equals, value_after, let_value, let_done, shorthand_of, shorthand_meaning, shorthand_done, macro_done}
use Rattle.assignments.specs.Calculations.{adds as is_added, numeric_in, integer_result, dimen_result, glue_result, int_changed, dim_changed, glue_changed, int_calculated, dim_calculated, glue_calculated, variable_calculated, numeric_token, calculated}
use Rattle.assignments.specs.Assignments.{done, misplaces_long, carried_out, ready_as, ready_from, prefixes_of, ready, assigned}
use Rattle.assignments.proofs.Found.{if_fault, if_bind, if_weaker, next_falls, raw_falls, found_falls}

-- ---- what follows leaves no more than what came

-- What a call leaves is no more than so much, where it gives a world alone, and where it gives something with it.
abbrev Leaves : ℕ → Outcome World → Type 0
Leaves n given = IfOk given (λ w. size w.at ≤ n)

abbrev Gives : {X : Type 0} → ℕ → Outcome (X × World) → Type 0
Gives n given = IfOk given (λ t. size t.1.at ≤ n)

abbrev left : World → ℕ
left w = size w.at

abbrev left_with : {X : Type 0} → X × World → ℕ
left_with t = size t.1.at

then_leaves : {X Y E : Type 0} (before : X → ℕ) (after : Y → ℕ) (n : ℕ) (first : Result X E) (more : X → Result Y E) → IfOk first (λ x. before x ≤ n) → ((x : X) → IfOk (more x) (λ y. after y ≤ before x))
    → IfOk (first >>= more) (λ y. after y ≤ n)
then_leaves before after n first more few goes = if_bind first more (λ x. before x ≤ n) _ few (λ x fewer. if_weaker (more x) (λ y. after y ≤ before x) _ (goes x) (λ y least. omega (arith, fewer, least)))

either_leaves : {Y E : Type 0} (b : Bool) (one other : Result Y E) (P : Y → Type 0) → IfOk one P → IfOk other P → IfOk (if b then one else other) P
either_leaves true one other P first second = first
either_leaves false one other P first second = second

-- ---- what reads nothing further

made_leaves : {X Y E : Type 0} (r : Result X E) (y : X → Y) (after : Y → ℕ) (n : ℕ) → ((x : X) → after (y x) ≤ n) → IfOk (r >>= λ x. Ok (y x)) (λ v. after v ≤ n)
made_leaves (Ok x) y after n few = few x
made_leaves (Err e) y after n few = tt

checked_leaves : {X Y : Type 0} (test : X → Result Y FaultKind) (t : X × World) → Gives (size t.1.at) (checked test t)
checked_leaves test t = made_leaves (with_fault (λ kind. refused kind t.1) (test t.0)) (λ y. (y, t.1)) left_with (size t.1.at) (λ y. omega arith)

env_leaves : (w : World) (call : Result Nest TurnFault) → Leaves (size w.at) (in_env w call)
env_leaves w call = made_leaves (with_fault (stopped w) call) (λ nest. world w.at nest) left (size w.at) (λ nest. omega arith)

held_leaves : {X : Type 0} (w : World) (call : Result X TurnFault) → Gives (size w.at) (from_env w call)
held_leaves w call = made_leaves (with_fault (stopped w) call) (λ x. (x, w)) left_with (size w.at) (λ x. omega arith)

pub stored_leaves : (n : NameNo) (meaning : Meaning) (is_global : Bool) (w : World) → Leaves (size w.at) (meaning_stored n meaning is_global w)
unfolding meaning_stored
stored_leaves n meaning is_global w = env_leaves w (Ok (meaning_set w.nest n.0 meaning is_global))

switched_leaves : (param : IntParam) (on is_global : Bool) (w : World) → Leaves (size w.at) (switched param on is_global w)
unfolding switched
switched_leaves param on is_global w = env_leaves w (int_stored w.nest (Param param) (switch_number on) is_global)

-- ---- tokens

pub solid_falls : (w : World) → IfOk (solid_token w) (λ t. size t.1.at < size w.at)
unfolding solid_token
solid_falls w = if_bind (found sought.Solid w) _ (λ f. size f.1.at < size w.at) _ (found_falls sought.Solid w) (λ f less. less)

raw_leaves : (w : World) → Gives (size w.at) (raw_token w)
raw_leaves w = if_weaker (raw_token w) (λ t. size t.1.at < size w.at) _ (raw_falls w) (λ t less. omega (arith, less))

next_leaves : (w : World) → Gives (size w.at) (next_token w)
next_leaves w = if_weaker (next_token w) (λ t. size t.1.at < size w.at) _ (next_falls w) (λ t less. omega (arith, less))

found_leaves : (what : Sought) (w : World) → Gives (size w.at) (found what w)
found_leaves what w = if_weaker (found what w) (λ f. size f.1.at < size w.at) _ (found_falls what w) (λ f less. omega (arith, less))

pub name_falls : (w : World) → IfOk (name w) (λ n. size n.1.at < size w.at)
unfolding name
name_falls w = if_bind (found sought.Name w) _ (λ f. size f.1.at < size w.at) _ (found_falls sought.Name w) (λ f less.
    if_weaker (checked name_of (f.0.1, f.1)) (λ n. size n.1.at ≤ size f.1.at) _ (checked_leaves name_of (f.0.1, f.1)) (λ n few. omega (arith, less, few)))

name_leaves : (w : World) → Gives (size w.at) (name w)
name_leaves w = if_weaker (name w) (λ n. size n.1.at < size w.at) _ (name_falls w) (λ n less. omega (arith, less))

-- ---- what expansion promises

abbrev pub ScansLeave : Type 0
ScansLeave = (want : Want) (w : World) → IfOk (run (Scan want []) w) (λ y. size y.1.at ≤ size w.at)

abbrev pub DefinitionsFall : Type 0
DefinitionsFall = (is_expanded : Bool) (w : World) → IfOk (definition_of is_expanded w) (λ d. size d.1.at < size w.at)

abbrev pub ListsFall : Type 0
ListsFall = (nest : Nest) (r : Reading) → IfOk (braced nest r) (λ b. size b.1 < size r)

abbrev pub ListsAdd : Type 0
ListsAdd = (list : List Token) (r : Reading) → IfOk (with_list list r) (λ v. size v ≡ size r + length list)

pub push_size : ListsAdd → (list : List Token) (old new : Reading) → with_fault (stop_as of_mouth_fault) (with_list list old) ≡ Ok new → size new ≡ size old + length list
push_size adds list old new is = IfOk-at_ok (λ (v : Reading). size v ≡ size old + length list) is (if_fault (stop_as of_mouth_fault) (with_list list old) _ (adds list old))

module _ (scans : ScansLeave) (definitions : DefinitionsFall) (lists : ListsFall) (adds : ListsAdd) where
  pub scanned_leaves : (want : Want) (w : World) → Gives (size w.at) (scanned want w)
  unfolding scanned
  scanned_leaves want w = if_fault (turn_stop of_gullet) (with_fault (stop_as of_step_fault) (run (Scan want []) w)) _ (if_fault (stop_as of_step_fault) (run (Scan want []) w) _ (scans want w))

  macro_leaves : (is_expanded : Bool) (w : World) → Gives (size w.at) (macro_read is_expanded w)
  unfolding macro_read
  macro_leaves is_expanded w = if_fault (turn_stop of_gullet) (with_fault (stop_as of_step_fault) (definition_of is_expanded w)) _ (if_fault (stop_as of_step_fault) (definition_of is_expanded w) _
      (if_weaker (definition_of is_expanded w) (λ d. size d.1.at < size w.at) _ (definitions is_expanded w) (λ d less. omega (arith, less))))

  braces_fall : (w : World) → IfOk (braces_read w) (λ l. size l.1.at < size w.at)
  unfolding braces_read
  braces_fall w = if_bind (with_fault (turn_stop of_gullet) (with_fault (stop_as of_macro_fault) (braced w.nest w.at))) _ (λ l. size l.1 < size w.at) _
      (if_fault (turn_stop of_gullet) (with_fault (stop_as of_macro_fault) (braced w.nest w.at)) _ (if_fault (stop_as of_macro_fault) (braced w.nest w.at) _ (lists w.nest w.at))) (λ l less. less)

  pub put_adds : (token : Token) (w : World) → IfOk (put_back token w) (λ v. size v.at ≡ size w.at + 1)
  unfolding put_back
  put_adds token w = if_bind (with_fault (turn_stop of_gullet) (with_fault (stop_as of_mouth_fault) (with_list (token ∷ []) w.at))) _ (λ v. size v ≡ size w.at + 1) _
      (if_fault (turn_stop of_gullet) (with_fault (stop_as of_mouth_fault) (with_list (token ∷ []) w.at)) _ (if_fault (stop_as of_mouth_fault) (with_list (token ∷ []) w.at) _ (adds (token ∷ []) w.at))) (λ v same. same)

  -- ---- values

  pub integer_leaves : (w : World) → Gives (size w.at) (integer w)
  unfolding integer
  integer_leaves w = then_leaves left_with left_with (size w.at) (scanned wants.Integer w) _ (scanned_leaves wants.Integer w) (λ v. checked_leaves whole_integer v)

  pub dimension_leaves : (w : World) → Gives (size w.at) (dimension w)
  unfolding dimension
  dimension_leaves w = then_leaves left_with left_with (size w.at) (scanned wants.Dimen w) _ (scanned_leaves wants.Dimen w) (λ v. checked_leaves whole_dimen v)

  glue_leaves : (w : World) → Gives (size w.at) (glue w)
  unfolding glue
  glue_leaves w = then_leaves left_with left_with (size w.at) (scanned wants.Glue w) _ (scanned_leaves wants.Glue w) (λ v. checked_leaves whole_glue v)

  pub equals_leaves : (w : World) → Leaves (size w.at) (equals w)
  unfolding equals
  equals_leaves w = then_leaves left_with left (size w.at) (scanned wants.Equals w) _ (scanned_leaves wants.Equals w) (λ v. omega arith)

  pub keyword_leaves : (word : Word) (w : World) → Gives (size w.at) (keyword word w)
  unfolding keyword
  keyword_leaves word w = then_leaves left_with left_with (size w.at) (scanned (wants.Keyword word) w) _ (scanned_leaves (wants.Keyword word) w) (λ v. omega arith)

  register_leaves : (w : World) → Gives (size w.at) (register w)
  unfolding register
  register_leaves w = then_leaves left_with left_with (size w.at) (integer w) _ (integer_leaves w) (λ n. checked_leaves register_number n)

  variable_leaves : (target : Target) (w : World) → Gives (size w.at) (variable target w)
  unfolding variable
  variable_leaves (Known v) w = omega arith
  variable_leaves (OfNumber kind) w = then_leaves left_with left_with (size w.at) (integer w) _ (integer_leaves w) (λ n. checked_leaves (variable_at kind) n)

  -- ---- settings

  listed_leaves : (key : ToksKey) (w : World) → Gives (size w.at) (list_at key w)
  listed_leaves key w = held_leaves {X = List Token} w (with_fault of_env (toks_at w.nest key))

  copied_leaves : (meaning : Meaning) (w : World) → Gives (size w.at) (list_copied meaning w)
  copied_leaves (meanings.Toks n) w = listed_leaves (toks.Register n) w
  copied_leaves (meanings.Primitive prims.Toks) w = then_leaves left_with left_with (size w.at) (register w) _ (register_leaves w) (λ r. listed_leaves (toks.Register r.0) r.1)
  copied_leaves (meanings.Primitive prims.Output) w = listed_leaves (toks.Param Output) w
  copied_leaves _ w = tt

  list_leaves : (n : ℕ) (t : Token × World) → size t.1.at < n → Gives n (list_from t)
  list_leaves n t less = either_leaves (means_category 1 (meant t.1.nest t.0)) _ _ _
      (if_bind (put_back t.0 t.1) braces_read (λ v. size v.at ≡ size t.1.at + 1) _ (put_adds t.0 t.1) (λ v same.
      if_weaker (braces_read v) (λ l. size l.1.at < size v.at) _ (braces_fall v) (λ l fewer. omega (arith, less, same, fewer))))
      (if_weaker (list_copied (meant t.1.nest t.0) t.1) (λ l. size l.1.at ≤ size t.1.at) _ (copied_leaves (meant t.1.nest t.0) t.1) (λ l few. omega (arith, less, few)))

  tokens_leave : (w : World) → Gives (size w.at) (token_list w)
  unfolding token_list
  tokens_leave w = if_bind (solid_token w) list_from (λ t. size t.1.at < size w.at) _ (solid_falls w) (λ t less. list_leaves (size w.at) t less)

  value_leaves : (v : Variable) (is_global : Bool) (w : World) → Leaves (size w.at) (value_set v is_global w)
  unfolding value_set
  value_leaves (variables.Int key) is_global w = then_leaves left_with left (size w.at) (integer w) _ (integer_leaves w) (λ n. env_leaves n.1 (int_stored n.1.nest key n.0 is_global))
  value_leaves (variables.Dim key) is_global w = then_leaves left_with left (size w.at) (dimension w) _ (dimension_leaves w) (λ d. env_leaves d.1 (dim_stored d.1.nest key d.0 is_global))
  value_leaves (variables.Glue key) is_global w = then_leaves left_with left (size w.at) (glue w) _ (glue_leaves w) (λ g. env_leaves g.1 (glue_stored g.1.nest key g.0 is_global))
  value_leaves (variables.Toks key) is_global w = then_leaves left_with left (size w.at) (token_list w) _ (tokens_leave w) (λ l. env_leaves l.1 (toks_stored l.1.nest key l.0 is_global))
  value_leaves (variables.Code key) is_global w = then_leaves left_with left (size w.at) (integer w) _ (integer_leaves w) (λ n. env_leaves n.1 (code_stored n.1.nest key n.0 is_global))

  target_leaves : (target : Target) (is_global : Bool) (w : World) → Leaves (size w.at) (target_set target is_global w)
  unfolding target_set
  target_leaves target is_global w = then_leaves left_with left (size w.at) (variable target w) _ (variable_leaves target w) (λ v.
      then_leaves left left (size v.1.at) (equals v.1) _ (equals_leaves v.1) (λ u. value_leaves v.0 is_global u))

  -- ---- meanings of names

  after_leaves : (t : Token × World) → Gives (size t.1.at) (after_equals t)
  after_leaves t = either_leaves (means_category 10 (meaning_of t.1.nest t.0)) _ _ _ (raw_leaves t.1) (omega arith)

  value_after_leaves : (t : Token × World) → Gives (size t.1.at) (value_after t)
  value_after_leaves t = either_leaves (is_equals t.0) _ _ _ (then_leaves left_with left_with (size t.1.at) (raw_token t.1) _ (raw_leaves t.1) (λ u. after_leaves u)) (omega arith)

  let_value_leaves : (w : World) → Gives (size w.at) (let_value w)
  unfolding let_value
  let_value_leaves w = then_leaves left_with left_with (size w.at) (found sought.Value w) _ (found_leaves sought.Value w) (λ f. value_after_leaves (f.0.1, f.1))

  let_leaves : (is_global : Bool) (w : World) → Leaves (size w.at) (let_done is_global w)
  unfolding let_done
  let_leaves is_global w = then_leaves left_with left (size w.at) (name w) _ (name_leaves w) (λ n.
      then_leaves left_with left (size n.1.at) (let_value n.1) _ (let_value_leaves n.1) (λ t. stored_leaves n.0 (meaning_of t.1.nest t.0) is_global t.1))

  shorthand_meaning_leaves : (shorthand : Shorthand) (w : World) → Gives (size w.at) (shorthand_meaning shorthand w)
  unfolding shorthand_meaning
  shorthand_meaning_leaves shorthand w = then_leaves left left_with (size w.at) (equals w) _ (equals_leaves w) (λ v.
      then_leaves left_with left_with (size v.at) (integer v) _ (integer_leaves v) (λ n. checked_leaves (shorthand_of shorthand) n))

  shorthand_leaves : (shorthand : Shorthand) (is_global : Bool) (w : World) → Leaves (size w.at) (shorthand_done shorthand is_global w)
  unfolding shorthand_done
  shorthand_leaves shorthand is_global w = then_leaves left_with left (size w.at) (name w) _ (name_leaves w) (λ n.
      then_leaves left left (size n.1.at) (meaning_stored n.0 (meanings.Primitive prims.Relax) is_global n.1) _ (stored_leaves n.0 (meanings.Primitive prims.Relax) is_global n.1) (λ v.
      then_leaves left_with left (size v.at) (shorthand_meaning shorthand v) _ (shorthand_meaning_leaves shorthand v) (λ m. stored_leaves n.0 m.0 is_global m.1)))

  macro_done_leaves : (d : Defining) (p : Prefixes) (w : World) → Leaves (size w.at) (macro_done d p w)
  unfolding macro_done
  macro_done_leaves d p w = then_leaves left_with left (size w.at) (name w) _ (name_leaves w) (λ n.
      then_leaves left_with left (size n.1.at) (macro_read d.is_expanded n.1) _ (macro_leaves d.is_expanded n.1) (λ m. stored_leaves n.0 (macro_meaning p.is_long m.0) (d.is_global || p.is_global) m.1))

  -- ---- calculations

  by_integer : (w : World) (change : ℤ × World → Result Nest TurnFault) → Leaves (size w.at) (integer w >>= λ n. in_env n.1 (change n))
  by_integer w change = then_leaves left_with left (size w.at) (integer w) _ (integer_leaves w) (λ n. env_leaves n.1 (change n))

  variable_calculated_leaves : (operation : Operation) (v : Variable) (is_global : Bool) (w : World) → Leaves (size w.at) (variable_calculated operation v is_global w)
  variable_calculated_leaves operation (variables.Int key) is_global w = by_integer w (λ n. int_changed n.1.nest key (λ old. integer_result operation old n.0) is_global)
  variable_calculated_leaves operation (variables.Dim key) is_global w = either_leaves (is_added operation) _ _ _
      (then_leaves left_with left (size w.at) (dimension w) _ (dimension_leaves w) (λ d. env_leaves d.1 (dim_changed d.1.nest key (λ old. dimen_advanced old d.0) is_global)))
      (by_integer w (λ n. dim_changed n.1.nest key (λ old. dimen_result operation old n.0) is_global))
  variable_calculated_leaves operation (variables.Glue key) is_global w = either_leaves (is_added operation) _ _ _
      (then_leaves left_with left (size w.at) (glue w) _ (glue_leaves w) (λ g. env_leaves g.1 (glue_changed g.1.nest key (λ old. glue_advanced old g.0) is_global)))
      (by_integer w (λ n. glue_changed n.1.nest key (λ old. glue_result operation old n.0) is_global))
  variable_calculated_leaves operation (variables.Toks key) is_global w = tt
  variable_calculated_leaves operation (variables.Code key) is_global w = tt

  numeric_leaves : (w : World) → Gives (size w.at) (numeric_token w)
  unfolding numeric_token
  numeric_leaves w = then_leaves left_with left_with (size w.at) (next_token w) _ (next_leaves w) (λ t. checked_leaves (λ token. numeric_in (command_in t.1.nest token)) t)

  calculated_leaves : (operation : Operation) (is_global : Bool) (w : World) → Leaves (size w.at) (calculated operation is_global w)
  unfolding calculated
  calculated_leaves operation is_global w = then_leaves left_with left (size w.at) (numeric_token w) _ (numeric_leaves w) (λ n.
      then_leaves left_with left (size n.1.at) (variable n.0 n.1) _ (variable_leaves n.0 n.1) (λ v.
      then_leaves left_with left (size v.1.at) (keyword By v.1) _ (keyword_leaves By v.1) (λ k. variable_calculated_leaves operation v.0 is_global k.1)))

  -- ---- assignments

  done_leaves : (p : Prefixes) (assignment : Assignment) (w : World) → Leaves (size w.at) (done p assignment w)
  done_leaves p (assignments.Set target) w = target_leaves target p.is_global w
  done_leaves p assignments.DeadCycles w = target_leaves dead_cycles true w
  done_leaves p (assignments.Switch param on) w = switched_leaves param on p.is_global w
  done_leaves p (assignments.Calculate operation) w = calculated_leaves operation p.is_global w
  done_leaves p assignments.Let w = let_leaves p.is_global w
  done_leaves p (assignments.Shorthand shorthand) w = shorthand_leaves shorthand p.is_global w
  done_leaves p (assignments.Define defining) w = macro_done_leaves defining p w
  done_leaves p assignments.LoadFont w = tt
  done_leaves p (assignments.SelectFont font) w = tt
  done_leaves p assignments.SetBox w = tt
  done_leaves p (assignments.Measure side) w = tt

  pub carried_leaves : (p : Prefixes) (assignment : Assignment) (w : World) → Leaves (size w.at) (carried_out p assignment w)
  unfolding carried_out
  carried_leaves p assignment w = either_leaves (misplaces_long p assignment) _ _ _ tt (done_leaves p assignment w)

  as_leaves : (p : Prefixes) (command : Command) (w : World) → Gives (size w.at) (ready_as p command w)
  as_leaves p (commands.Prefix prefix) w = tt
  as_leaves p (commands.Assigns assignment) w = omega arith
  as_leaves p commands.Other w = tt

  pub ready_leaves : (command : Command) (w : World) → Gives (size w.at) (ready command w)
  unfolding ready
  ready_leaves (commands.Prefix prefix) w = then_leaves left_with left_with (size w.at) (found _ w) ready_from (found_leaves _ w) (λ f. as_leaves (prefixes_of f.0.0) (command_in f.1.nest f.0.1) f.1)
  ready_leaves (commands.Assigns assignment) w = omega arith
  ready_leaves commands.Other w = tt

  pub assigned_leaves : (command : Command) (w : World) → Leaves (size w.at) (assigned command w)
  unfolding assigned
  assigned_leaves command w = then_leaves left_with left (size w.at) (ready command w) _ (ready_leaves command w) (λ r. carried_leaves r.0.0 r.0.1 r.1)

  pub ignored_leaves : (w : World) → Leaves (size w.at) (spaces_ignored w)
  unfolding spaces_ignored
  ignored_leaves w = if_bind (found sought.NonSpace w) _ (λ f. size f.1.at < size w.at) _ (found_falls sought.NonSpace w) (λ f less.
      if_weaker (put_back f.0.1 f.1) (λ v. size v.at ≡ size f.1.at + 1) _ (put_adds f.0.1 f.1) (λ v same. omega (arith, less, same)))
