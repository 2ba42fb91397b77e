-- What a closing brace does, and the box that is shipped (The TeXbook, chapter 23; TeX: The Program, sections 638, 1068 and 1085).
use Rattle.std.specs.Prelude.{ℕ, ℤ, pos, Bool, true, List, [], ◌∷◌, ◌&&◌, not, Result, Ok, Err, if◌then◌else◌}
use Rattle.ts_base.specs.Agreement.{with_fault}
use Rattle.box_tree.specs.Trees.{BoxTree}
use Rattle.env_groups.specs.declared.fault.EnvFault.{EnvFault}
use Rattle.env_groups.specs.declared.group.GroupKind.TheVariants.{Simple}
use Rattle.env_groups.specs.declared.key.IntKey.TheVariants as keys
use Rattle.env_groups.specs.declared.parameter.IntParam.TheVariants.{DeadCycles}
use Rattle.env_groups.specs.Environments.{Nest, int_at, int_set, is_innermost}
use Rattle.expander.specs.Worlds.{World as Text}
use Rattle.open_lists.specs.declared.plan.BoxContext.{BoxContext}
use Rattle.open_lists.specs.declared.plan.BoxContext.TheVariants as contexts
use Rattle.open_lists.specs.declared.plan.EndedBox.{EndedBox}
use Rattle.open_lists.specs.Lists.{OpenLists}
use Rattle.dvi_writer.specs.Reading.{Asked, asked_for}
use Rattle.shipping.specs.declared.fault.ShipFault.{ShipFault}
use Rattle.shipping.specs.Boxes.{shipped}
use Rattle.known_fonts.specs.Tables.{definitions}
use Rattle.control_faults.specs.declared.kind.FaultKind.TheVariants.{NotBuilt}
use Rattle.control_faults.specs.TurnFaults.{of_env, of_ship}
use Rattle.assignments.specs.declared.grouping.Grouping.TheVariants.{End}
use Rattle.assignments.specs.Worlds.{Outcome, stopped as fault_at, refused, in_env}
use Rattle.assignments.specs.Groups.{grouped}
use Rattle.list_commands.specs.Boxes.{hbox_closed}
use Rattle.main_control.specs.Endings.{stopped_as}
use Rattle.main_control.specs.Worlds.{Scene, Acted, Step, scene, stopped, in_scene, calm}
use Rattle.main_control.specs.Lists.{is_in_hbox}

-- ---- a page

abbrev pub or_zero : Result ℤ EnvFault → ℤ
or_zero (Ok n) = n
or_zero (Err fault) = pos 0

abbrev pub count_at : Nest → ℕ → ℤ
count_at nest n = or_zero (int_at nest (keys.Register n))

-- \count0 to \count9
unfoldable pub page_counts : Nest → List ℤ
page_counts nest =
    count_at nest 0 ∷ count_at nest 1 ∷ count_at nest 2 ∷ count_at nest 3 ∷ count_at nest 4
    ∷ count_at nest 5 ∷ count_at nest 6 ∷ count_at nest 7 ∷ count_at nest 8 ∷ count_at nest 9 ∷ []

-- a box as it is shipped in a scene
abbrev pub asked_in : Scene → BoxTree → Asked
asked_in s tree = asked_for (page_counts s.text.nest) (definitions s.fonts) tree

-- Nothing is dead any more: \deadcycles is 0, whatever group is open.
abbrev pub revived : Text → Acted
revived w = in_env w (with_fault of_env (int_set w.nest (keys.Param DeadCycles) (pos 0) true))

abbrev pub after_shipping : Scene → List Asked → Result (List Asked) ShipFault → Step
after_shipping s before (Ok boxes) = calm boxes (in_scene s (revived s.text))
after_shipping s before (Err fault) = Err (stopped (stopped_as (fault_at s.text (of_ship fault))) before)

unfoldable pub box_shipped : Scene → BoxTree → List Asked → Step
box_shipped s tree boxes = after_shipping s boxes (shipped boxes (asked_in s tree))

-- ---- a brace

-- Boxes are shipped so far, and nothing else is done with them.
abbrev pub box_used : Scene → BoxContext → BoxTree → List Asked → Step
box_used s contexts.ShipOut tree boxes = box_shipped s tree boxes
box_used s _ tree boxes = calm boxes (Err (refused NotBuilt s.text))

abbrev pub on_box : Scene → List Asked → Outcome (EndedBox × (OpenLists × Text)) → Step
on_box s boxes (Ok r) = box_used (scene r.1.1 s.fonts r.1.0) r.0.context r.0.node boxes
on_box s boxes (Err stop) = calm boxes (Err stop)

-- the box of the innermost list, when its brace closes
unfoldable pub box_ended : Scene → List Asked → Step
box_ended s boxes = on_box s boxes (hbox_closed s.lists s.text)

-- The list of an \hbox ends where no simple group is inside it.
abbrev pub ends_box : Scene → Bool
ends_box s = is_in_hbox s && not (is_innermost Simple s.text.nest.groups)

unfoldable pub brace_ended : Scene → List Asked → Step
brace_ended s boxes = if ends_box s then box_ended s boxes else calm boxes (in_scene s (grouped (End Simple) s.text))
