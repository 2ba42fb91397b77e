-- A turn: the next unexpandable token, and its whole effect on the world.
use Rattle.std.specs.Prelude.{ℤ, pos, List, Bool, false, Result, Ok, Err, if◌then◌else◌}
use Rattle.std.specs.Ordering.{int_eq}
use Rattle.tok_lists.specs.declared.token.Token.{Token}
use Rattle.env_groups.specs.declared.fault.EnvFault.{EnvFault}
use Rattle.env_groups.specs.declared.key.IntKey.TheVariants as keys
use Rattle.env_groups.specs.declared.parameter.IntParam.TheVariants as params
use Rattle.env_groups.specs.Environments.{Nest, int_at}
use Rattle.expander.specs.Worlds.{World as Text}
use Rattle.dvi_writer.specs.Reading.{Asked}
use Rattle.control_faults.specs.declared.kind.FaultKind.TheVariants as kinds
use Rattle.assignments.specs.Worlds.{Outcome, refused}
use Rattle.assignments.specs.Commands.{meant}
use Rattle.assignments.specs.Reads.{next_token}
use Rattle.main_control.specs.declared.command.QuietCommand.{QuietCommand}
use Rattle.main_control.specs.declared.command.QuietCommand.TheVariants as quiets
use Rattle.main_control.specs.declared.command.Command.{Command}
use Rattle.main_control.specs.declared.command.Command.TheVariants as commands
use Rattle.main_control.specs.declared.ending.Ending.TheVariants as endings
use Rattle.main_control.specs.Commands.{command_of}
use Rattle.main_control.specs.Worlds.{Scene, World, world, stopped, Quiet, Step, with_text, in_scene, calm}
use Rattle.main_control.specs.Groups.{text_done}
use Rattle.main_control.specs.Fonts.{assign_done}
use Rattle.main_control.specs.Lists.{in_hbox, is_in_hbox, char_added, numbered_added, inhibited, spaced, box_wanted, cut_by}
use Rattle.main_control.specs.Boxes.{brace_ended}

-- ---- the end

abbrev pub is_zero : Result ℤ EnvFault → Bool
is_zero (Ok n) = int_eq n (pos 0)
is_zero (Err fault) = false

-- No page came out that shipped nothing.
abbrev pub is_idle : Nest → Bool
is_idle nest = is_zero (int_at nest (keys.Param params.DeadCycles))

-- \end ends the run where the page is empty, which it always is so far, and \deadcycles is 0; else a page would be put out,
-- which isn't built yet. In a box it can't stand.
unfoldable pub ended : Scene → List Asked → Step
ended s boxes =
    if is_in_hbox s then calm boxes (Err (refused kinds.NotInMode s.text))
    else (if is_idle s.text.nest then Err (stopped endings.Ended boxes)
    else calm boxes (Err (refused kinds.NotBuilt s.text)))

-- ---- the turn

-- a command that ships nothing
unfoldable pub quiet_done : QuietCommand → Scene → Quiet
quiet_done (quiets.Text command) s = in_scene s (text_done command s.text)
quiet_done (quiets.Assign command) s = assign_done command s
quiet_done (quiets.Put c) s = in_hbox (char_added c) s
quiet_done quiets.PutNumbered s = in_hbox numbered_added s
quiet_done quiets.Inhibit s = Ok (inhibited s)
quiet_done quiets.Space s = spaced s
quiet_done quiets.ShipOut s = box_wanted s

-- the group of a command
abbrev pub acted : Command → Scene → List Asked → Step
acted (commands.Quiet command) s boxes = calm boxes (quiet_done command s)
acted commands.CloseBrace s boxes = brace_ended s boxes
acted commands.End s boxes = ended s boxes

-- what a command does, which ends the run of characters first where it is no character
abbrev pub commanded : Command → Scene → List Asked → Step
commanded command s boxes = acted command (cut_by command s) boxes

abbrev pub on_next : Scene → List Asked → Outcome (Token × Text) → Step
on_next s boxes (Ok t) = commanded (command_of (meant t.1.nest t.0)) (with_text s t.1) boxes
on_next s boxes (Err stop) = calm boxes (Err stop)

unfoldable pub turn_of : World → Step
turn_of w = on_next w.scene w.boxes (next_token w.scene.text)
