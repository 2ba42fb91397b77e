-- A turn that doesn't end the run leaves less.
use Rattle.std.proofs.Common.{◌≡◌, ℕ, ◌<◌, ◌≤◌, List, Bool, true, false, cond, Option, Some, None, Result, Ok, Err, IfOk, refl, arith}
use Rattle.ts_base.specs.Agreement.{◌>>=◌, with_fault}
use Rattle.ts_outside.specs.States.{Held}
use Rattle.jis_codes.specs.declared.Char.{Char}
use Rattle.tok_lists.specs.declared.token.Token.{Token}
use Rattle.box_tree.specs.declared.item.FontNo.{FontNo}
use Rattle.box_tree.specs.Trees.{BoxTree}
use Rattle.std.specs.Prelude.{pos}
use Rattle.env_groups.specs.declared.key.IntKey.TheVariants as keys
use Rattle.env_groups.specs.declared.parameter.IntParam.TheVariants.{DeadCycles}
use Rattle.control_faults.specs.TurnFaults.{of_env}
use Rattle.env_groups.specs.Environments.{Nest, int_set}
use Rattle.env_groups.specs.declared.group.GroupKind.TheVariants.{Simple}
use Rattle.mouth.specs.Reading.{Stop}
use Rattle.mouth.specs.Sizes.{size}
use Rattle.expander.specs.Worlds.{World as Text, world as text}
use Rattle.font_store.specs.declared.fonts.Font.{Font}
use Rattle.open_lists.specs.declared.plan.BoxContext.{BoxContext}
use Rattle.open_lists.specs.declared.plan.BoxContext.TheVariants as contexts
use Rattle.open_lists.specs.declared.plan.EndedBox.{EndedBox}
use Rattle.jlist_builder.specs.Entries.{Cut}
use Rattle.open_lists.specs.Lists.{OpenLists, marked}
use Rattle.dvi_writer.specs.Reading.{Asked}
use Rattle.shipping.specs.declared.fault.ShipFault.{ShipFault}
use Rattle.shipping.specs.Boxes.{shipped}
use Rattle.control_faults.specs.declared.turn_fault.TurnFault.{TurnFault}
use Rattle.control_faults.specs.declared.turn_fault.TurnFault.TheVariants as faults
use Rattle.control_faults.specs.declared.kind.FaultKind.{FaultKind}
use Rattle.control_faults.specs.declared.kind.FaultKind.TheVariants as kinds
use Rattle.assignments.specs.declared.grouping.Grouping.{Grouping}
use Rattle.assignments.specs.declared.grouping.Grouping.TheVariants.{End}
use Rattle.assignments.specs.declared.command.Prefixes.{Prefixes}
use Rattle.assignments.specs.declared.command.Assignment.{Assignment}
use Rattle.assignments.specs.declared.command.Assignment.TheVariants as assignments
use Rattle.assignments.specs.declared.command.Command.{Command as AssignCommand}
use Rattle.assignments.specs.Worlds.{Outcome, stopped as fault_at, in_env}
use Rattle.assignments.specs.Commands.{meant}
use Rattle.assignments.specs.Groups.{grouped, group_changed}
use Rattle.assignments.specs.Reads.{next_token}
use Rattle.assignments.specs.Seeking.{spaces_ignored, solid_token}
use Rattle.assignments.specs.Assignments.{Prepared, carried_out, ready}
use Rattle.font_commands.specs.Fonts.{font_defined, font_used}
use Rattle.list_commands.specs.Characters.{char_read, char_put}
use Rattle.list_commands.specs.Boxes.{hbox_started, hbox_closed}
use Rattle.main_control.specs.declared.command.TextCommand.{TextCommand}
use Rattle.main_control.specs.declared.command.TextCommand.TheVariants as texts
use Rattle.main_control.specs.declared.command.QuietCommand.{QuietCommand}
use Rattle.main_control.specs.declared.command.QuietCommand.TheVariants as quiets
use Rattle.main_control.specs.declared.command.Command.{Command}
use Rattle.main_control.specs.declared.command.Command.TheVariants as commands
use Rattle.main_control.specs.declared.ending.Ending.TheVariants as endings
use Rattle.main_control.specs.Commands.{command_of}
use Rattle.main_control.specs.Worlds.{Scene, World, Quiet, Step, Acted, stopped, scene, with_text, with_lists, in_scene, calm}
use Rattle.main_control.specs.Groups.{text_done}
use Rattle.main_control.specs.Fonts.{font_loaded, unless_long, prepared_done, on_prepared, assign_done}
use Rattle.main_control.specs.Lists.{is_in_hbox, in_hbox, char_added, numbered_added, spaced, cuts, cut_by, no_box, hbox_unless, box_wanted}
use Rattle.main_control.specs.Boxes.{asked_in, revived, after_shipping, box_shipped, box_used, on_box, box_ended, ends_box, brace_ended}
use Rattle.main_control.specs.Turn.{ended, is_idle, quiet_done, acted, on_next, turn_of}
use Rattle.main_control.specs.Run.{rank, after_turn, run_of}
use Rattle.main_control.proofs.Runs.{run_more, run_last}

then_ok : {X Y E : Type 0} (first : Result X E) (k : X → Result Y E) (P : X → Type 0) (Q : Y → Type 0) → IfOk first P → ((x : X) → P x → IfOk (k x) Q) → IfOk (first >>= k) Q
then_ok (Ok x) k P Q given so = so x given
then_ok (Err e) k P Q given so = tt

ok_more : {X E : Type 0} (r : Result X E) (P Q : X → Type 0) → IfOk r P → ((x : X) → P x → Q x) → IfOk r Q
ok_more (Ok x) P Q given so = so x given
ok_more (Err e) P Q given so = tt

either_ok : {X E : Type 0} (b : Bool) (first second : Result X E) (P : X → Type 0) → IfOk first P → IfOk second P → IfOk (cond b first second) P
either_ok true first second P given other = given
either_ok false first second P given other = other

-- ---- what the crates below promise

abbrev AtMost : ℕ → Text → Type 0
AtMost n v = size v.at ≤ n

abbrev Least : {X : Type 0} → ℕ → X × Text → Type 0
Least n r = size r.1.at ≤ n

pub record Promises : Type 0 where
  pub next : (w : Text) → IfOk (next_token w) (λ t. size t.1.at < size w.at)
  pub solid : (w : Text) → IfOk (solid_token w) (λ t. size t.1.at < size w.at)
  pub ready : (command : AssignCommand) (w : Text) → IfOk (ready command w) (λ r. size r.1.at ≤ size w.at)
  pub carried : (p : Prefixes) (assignment : Assignment) (w : Text) → IfOk (carried_out p assignment w) (λ v. size v.at ≤ size w.at)
  pub ignored : (w : Text) → IfOk (spaces_ignored w) (λ v. size v.at ≤ size w.at)
  pub defined : (held : List Held) (is_global : Bool) (fonts : List Font) (w : Text) → IfOk (font_defined held is_global fonts w) (λ r. size r.1.at ≤ size w.at)
  pub used : (font : FontNo) (is_global : Bool) (fonts : List Font) (w : Text) → IfOk (font_used font is_global fonts w) (λ v. size v.at ≤ size w.at)
  pub numbered : (w : Text) → IfOk (char_read w) (λ t. size t.1.at ≤ size w.at)
  pub started : (context : BoxContext) (lists : OpenLists) (w : Text) → IfOk (hbox_started context lists w) (λ r. size r.1.at ≤ size w.at)
  pub closed : (lists : OpenLists) (w : Text) → IfOk (hbox_closed lists w) (λ r. size r.1.1.at ≤ size w.at)

-- ---- steps that ship nothing

abbrev Kept : ℕ → Scene → Type 0
Kept n s = size s.text.at ≤ n

abbrev WithIn : ℕ → World → Type 0
WithIn n w = rank w ≤ n

env_falls : (w : Text) (call : Result Nest TurnFault) → IfOk (in_env w call) (AtMost (size w.at))
env_falls w (Ok nest) = omega arith
env_falls w (Err fault) = tt

scene_falls : (n : ℕ) (s : Scene) (given : Acted) → IfOk given (AtMost n) → IfOk (in_scene s given) (Kept n)
scene_falls n s (Ok w) less = less
scene_falls n s (Err stop) less = tt

put_falls : (n : ℕ) (c : Char) (s : Scene) → size s.text.at ≤ n → IfOk (char_added c s) (Kept n)
put_falls n c s less = then_ok (char_put c s.fonts s.text s.lists) (λ lists. Ok (with_lists s lists)) (λ l. Unit {0}) (Kept n) (any (char_put c s.fonts s.text s.lists)) (λ l u. less)
  where
    any : (r : Outcome OpenLists) → IfOk r (λ l. Unit {0})
    any (Ok l) = tt
    any (Err stop) = tt

module _ (p : Promises) where
  text_falls : (command : TextCommand) (w : Text) → IfOk (text_done command w) (AtMost (size w.at))
  unfolding text_done
  text_falls texts.Nothing w = omega arith
  text_falls (texts.Group grouping) w = env_falls w (group_changed w.nest grouping)
  text_falls (texts.Refuse kind) w = tt
  text_falls texts.IgnoreSpaces w = p.ignored w

  loaded_falls : (is_global : Bool) (s : Scene) → IfOk (font_loaded is_global s) (Kept (size s.text.at))
  loaded_falls is_global s =
      then_ok (font_defined s.text.at.held is_global s.fonts s.text) (λ f. Ok (scene f.1 f.0 s.lists)) (Least (size s.text.at)) (Kept (size s.text.at))
      (p.defined s.text.at.held is_global s.fonts s.text) (λ f less. less)

  rest_falls : (q : Prefixes) (assignment : Assignment) (s : Scene) → IfOk (in_scene s (carried_out q assignment s.text)) (Kept (size s.text.at))
  rest_falls q assignment s = scene_falls (size s.text.at) s (carried_out q assignment s.text) (p.carried q assignment s.text)

  prepared_falls : (q : Prefixes) (assignment : Assignment) (s : Scene) → IfOk (prepared_done q assignment s) (Kept (size s.text.at))
  unfolding prepared_done
  prepared_falls q assignments.LoadFont s = either_ok q.is_long (Err (fault_at s.text (faults.Kind kinds.NotInMode))) (font_loaded q.is_global s) (Kept (size s.text.at)) tt (loaded_falls q.is_global s)
  prepared_falls q (assignments.SelectFont font) s =
      either_ok q.is_long (Err (fault_at s.text (faults.Kind kinds.NotInMode))) (in_scene s (font_used font q.is_global s.fonts s.text)) (Kept (size s.text.at)) tt
      (scene_falls (size s.text.at) s (font_used font q.is_global s.fonts s.text) (p.used font q.is_global s.fonts s.text))
  prepared_falls q (assignments.Set target) s = rest_falls q (assignments.Set target) s
  prepared_falls q assignments.DeadCycles s = rest_falls q assignments.DeadCycles s
  prepared_falls q (assignments.Switch param on) s = rest_falls q (assignments.Switch param on) s
  prepared_falls q (assignments.Calculate operation) s = rest_falls q (assignments.Calculate operation) s
  prepared_falls q assignments.Let s = rest_falls q assignments.Let s
  prepared_falls q (assignments.Shorthand shorthand) s = rest_falls q (assignments.Shorthand shorthand) s
  prepared_falls q (assignments.Define defining) s = rest_falls q (assignments.Define defining) s
  prepared_falls q assignments.SetBox s = rest_falls q assignments.SetBox s
  prepared_falls q (assignments.Measure side) s = rest_falls q (assignments.Measure side) s

  assign_falls : (command : AssignCommand) (s : Scene) → IfOk (assign_done command s) (Kept (size s.text.at))
  unfolding assign_done
  assign_falls command s =
      then_ok (ready command s.text) (on_prepared s) (λ r. size r.1.at ≤ size s.text.at) (Kept (size s.text.at)) (p.ready command s.text)
      (λ r less. ok_more (on_prepared s r) (Kept (size r.1.at)) (Kept (size s.text.at)) (prepared_falls r.0.0 r.0.1 (with_text s r.1)) (λ after h. omega (arith, less, h)))

  numbered_falls : (s : Scene) → IfOk (numbered_added s) (Kept (size s.text.at))
  numbered_falls s =
      then_ok (char_read s.text) (λ t. char_added t.0 (with_text s t.1)) (Least (size s.text.at)) (Kept (size s.text.at)) (p.numbered s.text)
      (λ t less. put_falls (size s.text.at) t.0 (with_text s t.1) less)

  hbox_falls : (n : ℕ) (refusal : Option FaultKind) (s : Scene) → size s.text.at ≤ n → IfOk (hbox_unless refusal s) (Kept n)
  hbox_falls n None s less =
      then_ok (hbox_started contexts.ShipOut s.lists s.text) (λ r. Ok (scene r.1 s.fonts r.0)) (Least (size s.text.at)) (Kept n)
      (p.started contexts.ShipOut s.lists s.text) (λ r h. omega (arith, less, h))
  hbox_falls n (Some kind) s less = tt

  wanted_falls : (s : Scene) → IfOk (box_wanted s) (Kept (size s.text.at))
  unfolding box_wanted
  wanted_falls s =
      then_ok (solid_token s.text) (λ t. hbox_unless (no_box (meant t.1.nest t.0)) (with_text s t.1)) (λ t. size t.1.at < size s.text.at) (Kept (size s.text.at)) (p.solid s.text)
      (λ t less. hbox_falls (size s.text.at) (no_box (meant t.1.nest t.0)) (with_text s t.1) (omega (arith, less)))

  inside_falls : (does : Scene → Quiet) (s : Scene) → IfOk (does s) (Kept (size s.text.at)) → IfOk (in_hbox does s) (Kept (size s.text.at))
  inside_falls does s falls = either_ok (is_in_hbox s) (does s) (Err (fault_at s.text (faults.Kind kinds.NotBuilt))) (Kept (size s.text.at)) falls tt

  quiet_falls : (command : QuietCommand) (s : Scene) → IfOk (quiet_done command s) (Kept (size s.text.at))
  unfolding quiet_done
  quiet_falls (quiets.Text command) s = scene_falls (size s.text.at) s (text_done command s.text) (text_falls command s.text)
  quiet_falls (quiets.Assign command) s = assign_falls command s
  quiet_falls (quiets.Put c) s = inside_falls (char_added c) s (put_falls (size s.text.at) c s (omega arith))
  quiet_falls quiets.PutNumbered s = inside_falls numbered_added s (numbered_falls s)
  quiet_falls quiets.Inhibit s = omega arith
  quiet_falls quiets.Space s = either_ok (is_in_hbox s) (Err (fault_at s.text (faults.Kind kinds.NotBuilt))) (Ok s) (Kept (size s.text.at)) tt (omega arith)
  quiet_falls quiets.ShipOut s = wanted_falls s

  -- ---- the others

  calm_falls : (n : ℕ) (boxes : List Asked) (quiet : Quiet) → IfOk quiet (Kept n) → IfOk (calm boxes quiet) (WithIn n)
  calm_falls n boxes (Ok s) less = less
  calm_falls n boxes (Err stop) less = tt

  shipping_falls : (s : Scene) (before : List Asked) (r : Result (List Asked) ShipFault) → IfOk (after_shipping s before r) (WithIn (size s.text.at))
  shipping_falls s before (Ok boxes) =
      calm_falls (size s.text.at) boxes (in_scene s (revived s.text)) (scene_falls (size s.text.at) s (revived s.text) (env_falls s.text (with_fault of_env (int_set s.text.nest (keys.Param DeadCycles) (pos 0) true))))
  shipping_falls s before (Err fault) = tt

  used_falls : (s : Scene) (context : BoxContext) (tree : BoxTree) (boxes : List Asked) → IfOk (box_used s context tree boxes) (WithIn (size s.text.at))
  unfolding box_shipped
  used_falls s contexts.ShipOut tree boxes = shipping_falls s boxes (shipped boxes (asked_in s tree))
  used_falls s (contexts.Append shift) tree boxes = tt
  used_falls s (contexts.Register number is_global) tree boxes = tt

  box_falls : (n : ℕ) (s : Scene) (boxes : List Asked) (r : Outcome (EndedBox × (OpenLists × Text))) → IfOk r (λ b. size b.1.1.at ≤ n) → IfOk (on_box s boxes r) (WithIn n)
  box_falls n s boxes (Ok r) less =
      ok_more (box_used (scene r.1.1 s.fonts r.1.0) r.0.context r.0.node boxes) (WithIn (size r.1.1.at)) (WithIn n) (used_falls (scene r.1.1 s.fonts r.1.0) r.0.context r.0.node boxes) (λ w h. omega (arith, less, h))
  box_falls n s boxes (Err stop) less = tt

  brace_falls : (s : Scene) (boxes : List Asked) → IfOk (brace_ended s boxes) (WithIn (size s.text.at))
  unfolding brace_ended box_ended
  brace_falls s boxes =
      either_ok (ends_box s) (on_box s boxes (hbox_closed s.lists s.text)) (calm boxes (in_scene s (grouped (End Simple) s.text))) (WithIn (size s.text.at))
      (box_falls (size s.text.at) s boxes (hbox_closed s.lists s.text) (p.closed s.lists s.text))
      (calm_falls (size s.text.at) boxes (in_scene s (grouped (End Simple) s.text)) (scene_falls (size s.text.at) s (grouped (End Simple) s.text) (env_falls s.text (group_changed s.text.nest (End Simple)))))

  ended_falls : (s : Scene) (boxes : List Asked) → IfOk (ended s boxes) (WithIn (size s.text.at))
  unfolding ended
  ended_falls s boxes = halted (is_in_hbox s) (is_idle s.text.nest)
    where
      halted : (a b : Bool) → IfOk (cond a (calm boxes (Err (fault_at s.text (faults.Kind kinds.NotInMode)))) (cond b (Err (stopped endings.Ended boxes)) (calm boxes (Err (fault_at s.text (faults.Kind kinds.NotBuilt)))))) (WithIn (size s.text.at))
      halted true b = tt
      halted false true = tt
      halted false false = tt

  acted_falls : (command : Command) (s : Scene) (boxes : List Asked) → IfOk (acted command s boxes) (WithIn (size s.text.at))
  acted_falls (commands.Quiet command) s boxes = calm_falls (size s.text.at) boxes (quiet_done command s) (quiet_falls command s)
  acted_falls commands.CloseBrace s boxes = brace_falls s boxes
  acted_falls commands.End s boxes = ended_falls s boxes

  cut_size : (command : Command) (s : Scene) → size (cut_by command s).text.at ≡ size s.text.at
  cut_size command s = by_cut (cuts command)
    where
      by_cut : (b : Bool) → size (cond b (with_lists s (marked Cut s.lists)) s).text.at ≡ size s.text.at
      by_cut true = refl
      by_cut false = refl

  next_falls : (s : Scene) (boxes : List Asked) (n : ℕ) (r : Outcome (Token × Text)) → IfOk r (λ t. size t.1.at < n) → IfOk (on_next s boxes r) (λ w. rank w < n)
  next_falls s boxes n (Ok t) took =
      let command = command_of (meant t.1.nest t.0) in
      let after = cut_by command (with_text s t.1) in
      let same = cut_size command (with_text s t.1) in
      ok_more (acted command after boxes) (WithIn (size after.text.at)) (λ w. rank w < n) (acted_falls command after boxes) (λ w h. omega (arith, took, same, h))
  next_falls s boxes n (Err stop) took = tt

  pub turn_lowers : (w next : World) → turn_of w ≡ Ok next → rank next < rank w
  unfolding turn_of
  turn_lowers w next is = rw is at (next_falls w.scene w.boxes (rank w) (next_token w.scene.text) (p.next w.scene.text))

  pub run_turns : (w : World) → run_of w ≡ after_turn run_of (turn_of w)
  run_turns w = by_turn (turn_of w) refl
    where
      by_turn : (given : Step) → turn_of w ≡ given → run_of w ≡ after_turn run_of given
      by_turn (Ok next) is = run_more w next is (turn_lowers w next is)
      by_turn (Err s) is = run_last w s is
