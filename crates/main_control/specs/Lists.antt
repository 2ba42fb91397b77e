-- Commands of open lists that ship nothing (The TeXbook, chapter 24; TeX: The Program, sections 1034 to 1083; pTeX).
use Rattle.std.specs.Prelude.{Bool, true, false, Option, Some, None, Result, Ok, Err, if◌then◌else◌}
use Rattle.ts_base.specs.Agreement.{◌>>=◌}
use Rattle.jis_codes.specs.declared.Char.{Char}
use Rattle.tok_lists.specs.declared.token.Token.{Token}
use Rattle.env_groups.specs.declared.situation.Mode.{Mode}
use Rattle.env_groups.specs.declared.situation.Mode.TheVariants as modes
use Rattle.env_groups.specs.declared.prim.PrimitiveName.{PrimitiveName}
use Rattle.env_groups.specs.declared.prim.PrimitiveName.TheVariants as prims
use Rattle.env_groups.specs.declared.meaning.Meaning.{Meaning}
use Rattle.env_groups.specs.declared.meaning.Meaning.TheVariants as meanings
use Rattle.jlist_builder.specs.Entries.{Cut, Inhibit}
use Rattle.expander.specs.Worlds.{World as Text}
use Rattle.open_lists.specs.declared.plan.BoxContext.TheVariants.{ShipOut}
use Rattle.open_lists.specs.Lists.{situation_of, marked}
use Rattle.control_faults.specs.declared.kind.FaultKind.{FaultKind}
use Rattle.control_faults.specs.declared.kind.FaultKind.TheVariants as kinds
use Rattle.assignments.specs.declared.command.Assignment.{Assignment}
use Rattle.assignments.specs.declared.command.Command.{Command as AssignCommand}
use Rattle.assignments.specs.declared.command.Command.TheVariants as assigning
use Rattle.assignments.specs.declared.command.Assignment.TheVariants as assignments
use Rattle.assignments.specs.Worlds.{refused}
use Rattle.assignments.specs.Commands.{meant}
use Rattle.assignments.specs.Seeking.{solid_token}
use Rattle.list_commands.specs.Characters.{char_read, char_put}
use Rattle.list_commands.specs.Boxes.{hbox_started}
use Rattle.main_control.specs.declared.command.TextCommand.TheVariants as texts
use Rattle.main_control.specs.declared.command.QuietCommand.TheVariants as quiets
use Rattle.main_control.specs.declared.command.Command.{Command}
use Rattle.main_control.specs.declared.command.Command.TheVariants as commands
use Rattle.main_control.specs.Commands.{command_of}
use Rattle.main_control.specs.Worlds.{Scene, Quiet, scene, with_text, with_lists}

-- ---- where a command stands

abbrev pub is_restricted : Mode → Bool
is_restricted modes.Restricted = true
is_restricted _ = false

-- The innermost list is that of an \hbox.
abbrev pub is_in_hbox : Scene → Bool
is_in_hbox s = is_restricted ((situation_of s.lists).mode)

-- Outside of boxes a paragraph would begin, which isn't built yet.
abbrev pub in_hbox : (Scene → Quiet) → Scene → Quiet
in_hbox does s = if is_in_hbox s then does s else Err (refused kinds.NotBuilt s.text)

-- ---- characters

abbrev pub char_added : Char → Scene → Quiet
char_added c s = char_put c s.fonts s.text s.lists >>= λ lists. Ok (with_lists s lists)

-- \char
abbrev pub numbered_added : Scene → Quiet
numbered_added s = char_read s.text >>= λ t. char_added t.0 (with_text s t.1)

-- \inhibitglue
abbrev pub inhibited : Scene → Scene
inhibited s = with_lists s (marked Inhibit s.lists)

-- In a vertical list a space does nothing; in that of an \hbox it isn't built yet.
abbrev pub spaced : Scene → Quiet
spaced s = if is_in_hbox s then Err (refused kinds.NotBuilt s.text) else Ok s

-- ---- cuts

-- Characters and \inhibitglue end no run of characters; any other command does.
abbrev pub cuts : Command → Bool
cuts (commands.Quiet (quiets.Put c)) = false
cuts (commands.Quiet quiets.PutNumbered) = false
cuts (commands.Quiet quiets.Inhibit) = false
cuts _ = true

abbrev pub cut_by : Command → Scene → Scene
cut_by command s = if cuts command then with_lists s (marked Cut s.lists) else s

-- ---- a box is wanted

abbrev pub is_hbox_named : PrimitiveName → Bool
is_hbox_named prims.HBox = true
is_hbox_named _ = false

abbrev pub is_hbox : Meaning → Bool
is_hbox (meanings.Primitive prim) = is_hbox_named prim
is_hbox _ = false

-- what would be refused as not built in a turn
abbrev pub is_missing_fault : FaultKind → Bool
is_missing_fault kinds.NotBuilt = true
is_missing_fault _ = false

abbrev pub is_missing_assignment : Assignment → Bool
is_missing_assignment assignments.SetBox = true
is_missing_assignment (assignments.Measure side) = true
is_missing_assignment _ = false

abbrev pub is_missing_assign : AssignCommand → Bool
is_missing_assign (assigning.Assigns assignment) = is_missing_assignment assignment
is_missing_assign _ = false

abbrev pub is_missing : Command → Bool
is_missing (commands.Quiet (quiets.Text (texts.Refuse kind))) = is_missing_fault kind
is_missing (commands.Quiet (quiets.Assign command)) = is_missing_assign command
is_missing _ = false

-- So far an \hbox alone is a box: why another token is none.
abbrev pub no_box : Meaning → Option FaultKind
no_box meaning = if is_hbox meaning then None else (if is_missing (command_of meaning) then Some kinds.NotBuilt else Some kinds.NotInMode)

abbrev pub hbox_unless : Option FaultKind → Scene → Quiet
hbox_unless None s = hbox_started ShipOut s.lists s.text >>= λ r. Ok (scene r.1 s.fonts r.0)
hbox_unless (Some kind) s = Err (refused kind s.text)

-- \shipout: the next token past spaces and \relax begins a box, whose list is the innermost one then.
unfoldable pub box_wanted : Scene → Quiet
box_wanted s = solid_token s.text >>= λ t. hbox_unless (no_box (meant t.1.nest t.0)) (with_text s t.1)

-- ---- all of them
