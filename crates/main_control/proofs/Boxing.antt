-- What a brace ends.
use Rattle.std.proofs.Common.{◌≡◌, ◌≢◌, ◌∙◌, List, [], ◌∷◌, Bool, true, false, cond, Result, Ok, Err, refl, sym, ap}
use Rattle.std.specs.Prelude.{◌&&◌, not}
use Rattle.std.specs.Result.{IsErr, IsErrAnd}
use Rattle.ts_base.specs.Agreement.{◌>>=◌, with_fault, AgreesFault}
use Rattle.ts_outside.specs.States.{FilesState}
use Rattle.mouth.specs.declared.place.Place.{Place}
use Rattle.mouth.specs.Reading.{at_place}
use Rattle.mouth.specs.Keeping.{place_in}
use Rattle.jlist_builder.specs.Entries.{Entry}
use Rattle.env_groups.specs.declared.fault.EnvFault.{EnvFault}
use Rattle.env_groups.specs.declared.fault.EnvFault.TheVariants as env_faults
use Rattle.env_groups.specs.declared.group.GroupKind.{GroupKind}
use Rattle.env_groups.specs.declared.group.GroupKind.TheVariants.{Simple}
use Rattle.env_groups.specs.declared.key.IntKey.TheVariants as keys
use Rattle.env_groups.specs.declared.parameter.IntParam.TheVariants.{DeadCycles}
use Rattle.env_groups.specs.Environments.{Nest, env_cause, int_set, is_innermost, group_closed}
use Rattle.std.specs.Prelude.{pos}
use Rattle.expander.specs.Worlds.{World as Text, world as text}
use Rattle.open_lists.specs.declared.plan.EndedBox.{EndedBox}
use Rattle.open_lists.specs.Lists.{OpenLists}
use Rattle.dvi_writer.specs.Reading.{Asked}
use Rattle.control_faults.specs.declared.turn_fault.TurnFault.{TurnFault}
use Rattle.control_faults.specs.declared.turn_fault.TurnFault.TheVariants as faults
use Rattle.control_faults.specs.TurnFaults.{read_cause, of_env}
use Rattle.assignments.specs.declared.grouping.Grouping.TheVariants.{End}
use Rattle.assignments.specs.Worlds.{Outcome, stopped as fault_at, in_env}
use Rattle.assignments.specs.Groups.{grouped}
use Rattle.list_commands.specs.Boxes.{hbox_closed}
use Rattle.main_control.specs.declared.ending.Halt.{Halt}
use Rattle.main_control.specs.declared.ending.Halt.TheVariants as halts
use Rattle.main_control.specs.Endings.{ending_at}
use Rattle.main_control.specs.Bodies.{Body}
use Rattle.main_control.specs.Worlds.{Scene, Step, scene, in_scene, calm}
use Rattle.main_control.specs.Lists.{is_in_hbox}
use Rattle.main_control.specs.Boxes.{box_used, on_box, box_ended, ends_box, brace_ended}
use Rattle.main_control.specs.Standing.{EndsSo, Steps}
use Rattle.main_control.proofs.Growth.{begins_same, box_grows}
use Rattle.main_control.proofs.Joins.{ok_same}

-- ---- environments

-- \deadcycles is no part of what is beside settings.
pub revived_keeps : (nest new : Nest) → int_set nest (keys.Param DeadCycles) (pos 0) true ≡ Ok new → (new.situation ≡ nest.situation) × (new.fonts ≡ nest.fonts)
revived_keeps nest new is =
    let same = ok_same _ new is in
    (ap (λ (n : Nest). n.situation) (sym same), ap (λ (n : Nest). n.fonts) (sym same))

closed_by : (b : Bool) (made new : Nest) → ◌≡◌ {A = Result Nest EnvFault} (cond b (Ok made) (Err env_faults.GroupEnd)) (Ok new) → (b ≡ true) × (made ≡ new)
closed_by true made new is = (refl, ok_same made new is)
closed_by false made new is = let never : ⊥ = cc in absurd never

-- A group that closed was the innermost one, and it takes settings along alone.
pub closed_keeps : (nest new : Nest) (kind : GroupKind) → group_closed nest kind ≡ Ok new → (new.situation ≡ nest.situation) × (new.fonts ≡ nest.fonts)
closed_keeps nest new kind is =
    let same = (closed_by (is_innermost kind nest.groups) _ new is).1 in
    (ap (λ (n : Nest). n.situation) (sym same), ap (λ (n : Nest). n.fonts) (sym same))

refused_by : (b : Bool) (made : Nest) (e : EnvFault) → ◌≡◌ {A = Result Nest EnvFault} (cond b (Ok made) (Err env_faults.GroupEnd)) (Err e) → b ≡ false
refused_by true made e is = let never : ⊥ = cc in absurd never
refused_by false made e is = refl

pub sure_fault : {X : Type 0} (r : Result X EnvFault) (e : EnvFault) → AgreesFault (env_cause e) e r → e ≢ env_faults.NoMemory → r ≡ Err e
sure_fault r env_faults.RegisterRange agrees sure = agrees
sure_fault r env_faults.CodeRange agrees sure = agrees
sure_fault r env_faults.FontsFull agrees sure = agrees
sure_fault r env_faults.GroupsFull agrees sure = agrees
sure_fault r env_faults.GroupEnd agrees sure = agrees
sure_fault r env_faults.NoMemory agrees sure = absurd (sure refl)

pub sure_by : (e : EnvFault) → ◌≢◌ {A = Result (Unit {0}) EnvFault} (Err e) (Err env_faults.NoMemory) → e ≢ env_faults.NoMemory
sure_by e sure is = sure (ap (λ (f : EnvFault). Err f) is)

-- ---- a brace

always_first : (a : Bool) → (a && true) ≡ a
always_first true = refl
always_first false = refl

closing : (a b : Bool) (s : Scene) (boxes : List Asked) (made new : Nest) → ◌≡◌ {A = Result Nest EnvFault} (cond b (Ok made) (Err env_faults.GroupEnd)) (Ok new)
    → cond (a && not b) (box_ended s boxes) (calm boxes (in_scene s (in_env s.text (with_fault of_env (cond b (Ok made) (Err env_faults.GroupEnd)))))) ≡ calm boxes (in_scene s (Ok (text s.text.at new)))
closing true true s boxes made new is = ap (λ (n : Nest). calm boxes (in_scene s (Ok (text s.text.at n)))) (ok_same made new is)
closing false true s boxes made new is = ap (λ (n : Nest). calm boxes (in_scene s (Ok (text s.text.at n)))) (ok_same made new is)
closing a false s boxes made new is = let never : ⊥ = cc in absurd never

pub brace_closes : (s : Scene) (boxes : List Asked) (new : Nest) → group_closed s.text.nest Simple ≡ Ok new → brace_ended s boxes ≡ calm boxes (in_scene s (Ok (text s.text.at new)))
unfolding brace_ended
brace_closes s boxes new is = closing (is_in_hbox s) (is_innermost Simple s.text.nest.groups) s boxes _ new is

pub brace_boxes : (s : Scene) (boxes : List Asked) (e : EnvFault) → group_closed s.text.nest Simple ≡ Err e → true ≡ is_in_hbox s → brace_ended s boxes ≡ box_ended s boxes
unfolding brace_ended
brace_boxes s boxes e is inside =
    let outer = refused_by (is_innermost Simple s.text.nest.groups) _ e is in
    rw (outer, always_first (is_in_hbox s), ← inside) refl

outside_box : (b : Bool) (s : Scene) (boxes : List Asked) (made : Nest) (e : EnvFault) → ◌≡◌ {A = Result Nest EnvFault} (cond b (Ok made) (Err env_faults.GroupEnd)) (Err e)
    → cond (false && not b) (box_ended s boxes) (calm boxes (in_scene s (in_env s.text (with_fault of_env (cond b (Ok made) (Err env_faults.GroupEnd)))))) ≡ calm boxes (Err (fault_at s.text (of_env e)))
outside_box true s boxes made e is = let never : ⊥ = cc in absurd never
outside_box false s boxes made e is =
    let same : env_faults.GroupEnd ≡ e = cc in
    ap (λ (f : EnvFault). calm boxes (Err (fault_at s.text (of_env f)))) same

pub brace_refused : (s : Scene) (boxes : List Asked) (e : EnvFault) → group_closed s.text.nest Simple ≡ Err e → false ≡ is_in_hbox s → brace_ended s boxes ≡ calm boxes (Err (fault_at s.text (of_env e)))
unfolding brace_ended
brace_refused s boxes e is outside = rw (← outside) (outside_box (is_innermost Simple s.text.nest.groups) s boxes _ e is)

-- ---- a box

box_ends : (stands : List Asked → Type 0) (boxes : List Asked) (place : Place) (fault : TurnFault) (s : Scene) (r : Outcome (EndedBox × (OpenLists × Text))) → AgreesFault (read_cause fault) (at_place place fault) r → stands boxes
    → EndsSo stands boxes (ending_at place fault) (on_box s boxes r)
box_ends stands boxes place (faults.Kind kind) s r agrees kept = rw agrees (refl, kept)
box_ends stands boxes place faults.Budget s r agrees kept = rw agrees (refl, kept)
box_ends stands boxes place faults.ReadFault s r agrees kept = record { boxes = boxes; taken = kept; begun = begins_same boxes; meant = box_grows s boxes r }
box_ends stands boxes place faults.SinkFault s r agrees kept = record { boxes = boxes; taken = kept; begun = begins_same boxes; meant = box_grows s boxes r }
box_ends stands boxes place faults.NoMemory s r agrees kept = record { boxes = boxes; taken = kept; begun = begins_same boxes; meant = box_grows s boxes r }

pub box_refused : {X : Type 0} (stands : List Asked → Type 0) (b : Body) (state : FilesState) (boxes : List Asked) (fault : TurnFault) (s : Scene) (r : Result X Halt) → IsErr r × IsErrAnd r (λ halt. halt ≡ halts.Refused fault)
    → AgreesFault (read_cause fault) (at_place (place_in b.gullet) fault) (hbox_closed s.lists s.text) → stands boxes → Steps stands b state boxes r (box_ended s boxes)
unfolding box_ended
box_refused stands b state boxes fault s (Ok x) made agrees kept = let never : ⊥ = cc in absurd never
box_refused stands b state boxes fault s (Err halt) made agrees kept = rw made.1 (box_ends stands boxes (place_in b.gullet) fault s (hbox_closed s.lists s.text) agrees kept)

pub box_is : (s : Scene) (boxes : List Asked) (ended : EndedBox) (lists : OpenLists) (w : Text) → hbox_closed s.lists s.text ≡ Ok (ended, (lists, w)) → box_ended s boxes ≡ box_used (scene w s.fonts lists) ended.context ended.node boxes
unfolding box_ended
box_is s boxes ended lists w is = rw is refl
