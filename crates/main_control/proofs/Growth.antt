-- No step takes a shipped box back.
use Rattle.std.proofs.Common.{List, [], ◌∷◌, ◌++◌, length, Bool, true, false, cond, Result, Ok, Err, refl, sym, ap, ◌∙◌, append_assoc, append-nil}
use Rattle.ts_base.specs.Agreement.{◌>>=◌, with_fault}
use Rattle.tok_lists.specs.declared.token.Token.{Token}
use Rattle.box_tree.specs.Trees.{BoxTree}
use Rattle.expander.specs.Worlds.{World as Text}
use Rattle.open_lists.specs.declared.plan.BoxContext.{BoxContext}
use Rattle.open_lists.specs.declared.plan.BoxContext.TheVariants as contexts
use Rattle.open_lists.specs.declared.plan.EndedBox.{EndedBox}
use Rattle.open_lists.specs.Lists.{OpenLists}
use Rattle.dvi_writer.specs.declared.fault.WriteFault.{WriteFault}
use Rattle.dvi_writer.specs.Reading.{Asked}
use Rattle.dvi_writer.specs.Standing.{permitted_after}
use Rattle.box_tree.specs.Weights.{weight}
use Rattle.shipping.specs.Boxes.{BeginsWith, shipped, total_weight}
use Rattle.shipping.specs.Faults.{of_writer}
use Rattle.control_faults.specs.declared.kind.FaultKind.TheVariants as kinds
use Rattle.assignments.specs.declared.grouping.Grouping.TheVariants.{End}
use Rattle.env_groups.specs.declared.group.GroupKind.TheVariants.{Simple}
use Rattle.assignments.specs.Worlds.{Outcome, refused}
use Rattle.assignments.specs.Commands.{meant}
use Rattle.assignments.specs.Groups.{grouped}
use Rattle.assignments.specs.Reads.{next_token}
use Rattle.list_commands.specs.Boxes.{hbox_closed}
use Rattle.main_control.specs.declared.command.Command.{Command}
use Rattle.main_control.specs.declared.command.Command.TheVariants as commands
use Rattle.main_control.specs.declared.ending.Ending.{Ending}
use Rattle.main_control.specs.declared.ending.Ending.TheVariants as endings
use Rattle.main_control.specs.Commands.{command_of}
use Rattle.main_control.specs.Worlds.{Scene, World, scene, stopped, Quiet, Step, with_text, in_scene, calm, boxes_of}
use Rattle.main_control.specs.Lists.{is_in_hbox, cut_by}
use Rattle.main_control.specs.Boxes.{asked_in, revived, after_shipping, box_shipped, box_used, on_box, box_ended, ends_box, brace_ended}
use Rattle.main_control.specs.Turn.{is_idle, ended, quiet_done, acted, commanded, on_next, turn_of}

pub begins_same : {A : Type 0} (xs : List A) → BeginsWith xs xs
begins_same xs = ([], sym (append-nil xs))

pub begins_then : {A : Type 0} (xs ys zs : List A) → BeginsWith ys xs → BeginsWith zs ys → BeginsWith zs xs
begins_then xs ys zs first second = (first.0 ++ second.0, second.1 ∙ ap (λ (l : List _). l ++ second.0) first.1 ∙ append_assoc xs first.0 second.0)

pub calm_grows : (boxes : List Asked) (quiet : Quiet) → BeginsWith (boxes_of (calm boxes quiet)) boxes
calm_grows boxes (Ok scene) = begins_same boxes
calm_grows boxes (Err stop) = begins_same boxes

either_grows : (b : Bool) (boxes : List Asked) (first second : Step) → BeginsWith (boxes_of first) boxes → BeginsWith (boxes_of second) boxes → BeginsWith (boxes_of (cond b first second)) boxes
either_grows true boxes first second grows other = grows
either_grows false boxes first second grows other = other

-- ---- a box is shipped

shipping_grows : (s : Scene) (boxes : List Asked) (a : Asked) (r : Result (Unit {0}) WriteFault) → BeginsWith (boxes_of (after_shipping s boxes (with_fault of_writer r >>= λ _. Ok (boxes ++ a ∷ [])))) boxes
shipping_grows s boxes a (Ok u) = begins_then boxes (boxes ++ a ∷ []) _ (a ∷ [], refl) (calm_grows (boxes ++ a ∷ []) (in_scene s (revived s.text)))
shipping_grows s boxes a (Err fault) = begins_same boxes

pub shipped_grows : (s : Scene) (tree : BoxTree) (boxes : List Asked) → BeginsWith (boxes_of (box_shipped s tree boxes)) boxes
unfolding box_shipped
shipped_grows s tree boxes = shipping_grows s boxes (asked_in s tree) (permitted_after (length boxes) (total_weight boxes) tree)

used_grows : (s : Scene) (context : BoxContext) (tree : BoxTree) (boxes : List Asked) → BeginsWith (boxes_of (box_used s context tree boxes)) boxes
used_grows s contexts.ShipOut tree boxes = shipped_grows s tree boxes
used_grows s (contexts.Append shift) tree boxes = begins_same boxes
used_grows s (contexts.Register number is_global) tree boxes = begins_same boxes

pub box_grows : (s : Scene) (boxes : List Asked) (r : Outcome (EndedBox × (OpenLists × Text))) → BeginsWith (boxes_of (on_box s boxes r)) boxes
box_grows s boxes (Ok r) = used_grows (scene r.1.1 s.fonts r.1.0) r.0.context r.0.node boxes
box_grows s boxes (Err stop) = begins_same boxes

brace_grows : (s : Scene) (boxes : List Asked) → BeginsWith (boxes_of (brace_ended s boxes)) boxes
unfolding brace_ended box_ended
brace_grows s boxes =
    either_grows (ends_box s) boxes (on_box s boxes (hbox_closed s.lists s.text)) (calm boxes (in_scene s (grouped (End Simple) s.text)))
    (box_grows s boxes (hbox_closed s.lists s.text)) (calm_grows boxes (in_scene s (grouped (End Simple) s.text)))

-- ---- a turn

ended_grows : (s : Scene) (boxes : List Asked) → BeginsWith (boxes_of (ended s boxes)) boxes
unfolding ended
ended_grows s boxes =
    let in_box : Step = calm boxes (Err (refused kinds.NotInMode s.text)) in
    let last : Step = Err (stopped endings.Ended boxes) in
    let page : Step = calm boxes (Err (refused kinds.NotBuilt s.text)) in
    either_grows (is_in_hbox s) boxes in_box (cond (is_idle s.text.nest) last page) (begins_same boxes)
    (either_grows (is_idle s.text.nest) boxes last page (begins_same boxes) (begins_same boxes))

pub acted_grows : (command : Command) (s : Scene) (boxes : List Asked) → BeginsWith (boxes_of (acted command s boxes)) boxes
acted_grows (commands.Quiet command) s boxes = calm_grows boxes (quiet_done command s)
acted_grows commands.CloseBrace s boxes = brace_grows s boxes
acted_grows commands.End s boxes = ended_grows s boxes

pub next_grows : (s : Scene) (boxes : List Asked) (r : Outcome (Token × Text)) → BeginsWith (boxes_of (on_next s boxes r)) boxes
next_grows s boxes (Ok t) =
    let command = command_of (meant t.1.nest t.0) in
    acted_grows command (cut_by command (with_text s t.1)) boxes
next_grows s boxes (Err stop) = begins_same boxes

-- A turn adds boxes behind those that were shipped.
pub turn_grows : (w : World) → BeginsWith (boxes_of (turn_of w)) w.boxes
unfolding turn_of
turn_grows w = next_grows w.scene w.boxes (next_token w.scene.text)
