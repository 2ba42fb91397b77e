-- The list of an \hbox begins, and ends at its closing brace (The TeXbook, chapter 24; TeX: The Program, sections 403, 645, 1083,
-- 1085 and 1086; pTeX).
use Rattle.std.specs.Prelude.{Result, Ok, Err, if◌then◌else◌}
use Rattle.ts_base.specs.Agreement.{◌>>=◌, with_fault}
use Rattle.tok_lists.specs.declared.token.Token.{Token}
use Rattle.box_tree.specs.declared.node.BoxSize.{BoxSize}
use Rattle.env_groups.specs.declared.group.GroupKind.TheVariants.{Box}
use Rattle.raw_texts.specs.Meanings.{means_category}
use Rattle.scan_syntax.specs.declared.want.Want.TheVariants as wants
use Rattle.scan_syntax.specs.declared.want.Value.{Value}
use Rattle.scan_syntax.specs.declared.want.Value.TheVariants as values
use Rattle.expander.specs.Worlds.{World, world}
use Rattle.open_lists.specs.declared.fault.OpenFault.{OpenFault}
use Rattle.open_lists.specs.declared.fault.OpenFault.TheVariants as open_faults
use Rattle.open_lists.specs.declared.plan.BoxContext.{BoxContext}
use Rattle.open_lists.specs.declared.plan.BoxPlan.{BoxPlan}
use Rattle.open_lists.specs.declared.plan.EndedBox.{EndedBox}
use Rattle.open_lists.specs.EndCodes.{codes_in}
use Rattle.open_lists.specs.Lists.{OpenLists, situation_of, hbox_begun, hbox_ended, around}
use Rattle.control_faults.specs.declared.kind.FaultKind.{FaultKind}
use Rattle.control_faults.specs.declared.kind.FaultKind.TheVariants.{NoNumber, NoBrace, DepthFull}
use Rattle.control_faults.specs.declared.turn_fault.TurnFault.{TurnFault}
use Rattle.control_faults.specs.declared.turn_fault.TurnFault.TheVariants.{Kind, NoMemory}
use Rattle.control_faults.specs.TurnFaults.{of_pack}
use Rattle.assignments.specs.declared.grouping.Grouping.TheVariants.{Begin, End}
use Rattle.assignments.specs.Worlds.{Outcome, stopped, refused, checked}
use Rattle.assignments.specs.Reads.{scanned}
use Rattle.assignments.specs.Seeking.{solid_token}
use Rattle.assignments.specs.Commands.{meant}
use Rattle.assignments.specs.Groups.{grouped}

-- ---- what is read

abbrev pub whole_size : Value → Result BoxSize FaultKind
whole_size (values.BoxSize size) = Ok size
whole_size _ = Err NoNumber

-- to or spread with its dimension, where one of them comes
unfoldable pub size_read : World → Outcome (BoxSize × World)
size_read w = scanned wants.BoxSize w >>= checked whole_size

-- A character of category 1, also by \let; spaces and \relax before it are passed over.
abbrev pub brace_taken : Token × World → Outcome World
brace_taken t = if means_category 1 (meant t.1.nest t.0) then Ok t.1 else Err (refused NoBrace t.1)

unfoldable pub brace_read : World → Outcome World
brace_read w = solid_token w >>= brace_taken

-- ---- the list begins

abbrev pub of_open : OpenFault → TurnFault
of_open open_faults.DepthFull = Kind DepthFull
of_open open_faults.NoMemory = NoMemory

-- The environments' situation is that of the innermost list.
abbrev pub situated : OpenLists → World → World
situated lists w = world w.at (record w.nest { situation = situation_of lists })

abbrev pub plan_of : BoxSize → BoxContext → BoxPlan
plan_of size context = record { size = size; context = context }

-- DepthFull comes before GroupsFull.
abbrev pub list_begun : BoxPlan → OpenLists → World → Outcome (OpenLists × World)
list_begun plan lists w =
    with_fault (λ fault. stopped w (of_open fault)) (hbox_begun plan lists)
    >>= λ more. grouped (Begin Box) w >>= λ v. Ok (more, situated more v)

-- \hbox, whose token was taken: its size and its brace are read, then its list is the innermost one.
unfoldable pub hbox_started : BoxContext → OpenLists → World → Outcome (OpenLists × World)
hbox_started context lists w =
    size_read w >>= λ s. brace_read s.1 >>= λ v. list_begun (plan_of s.0 context) lists v

-- ---- the list ends

abbrev pub list_left : OpenLists → World → EndedBox → EndedBox × (OpenLists × World)
list_left lists w ended = (ended, (lists, situated lists w))

-- The box is packed with the codes as they are inside its group; where that isn't the innermost one, GroupEnd comes before the
-- faults of packing.
unfoldable pub hbox_closed : OpenLists → World → Outcome (EndedBox × (OpenLists × World))
hbox_closed lists w =
    grouped (End Box) w
    >>= λ v. with_fault (λ fault. stopped v (of_pack fault)) (hbox_ended (codes_in w.nest) lists)
    >>= λ ended. Ok (list_left (around lists) v ended)
