-- What a token does in its turn, by what it means (The TeXbook, chapters 24 and 25). What isn't listed isn't built yet.
use Rattle.std.specs.Prelude.{ℕ, Bool, ◌==◌, ◌||◌, Option, Some, None, if◌then◌else◌}
use Rattle.jis_codes.specs.declared.Char.{Char}
use Rattle.jis_codes.specs.declared.Char.TheVariants as chars
use Rattle.tok_lists.specs.declared.token.Token.{Token}
use Rattle.tok_lists.specs.declared.token.Token.TheVariants as tokens
use Rattle.env_groups.specs.declared.group.GroupKind.TheVariants as groups
use Rattle.env_groups.specs.declared.meaning.Meaning.{Meaning}
use Rattle.env_groups.specs.declared.meaning.Meaning.TheVariants as meanings
use Rattle.env_groups.specs.declared.prim.PrimitiveName.{PrimitiveName}
use Rattle.env_groups.specs.declared.prim.PrimitiveName.TheVariants as prims
use Rattle.control_faults.specs.declared.kind.FaultKind.{FaultKind}
use Rattle.control_faults.specs.declared.kind.FaultKind.TheVariants as kinds
use Rattle.assignments.specs.declared.command.Command.{Command as AssignCommand}
use Rattle.assignments.specs.declared.command.Command.TheVariants as assigning
use Rattle.assignments.specs.declared.grouping.Grouping.{Grouping}
use Rattle.assignments.specs.declared.grouping.Grouping.TheVariants.{Begin, End}
use Rattle.assignments.specs.Commands.{command_of as assignment_of}
use Rattle.list_commands.specs.Characters.{char_of}
use Rattle.main_control.specs.declared.command.TextCommand.TheVariants as texts
use Rattle.main_control.specs.declared.command.QuietCommand.{QuietCommand}
use Rattle.main_control.specs.declared.command.QuietCommand.TheVariants as quiets
use Rattle.main_control.specs.declared.command.Command.{Command}
use Rattle.main_control.specs.declared.command.Command.TheVariants as commands

abbrev pub nothing : Command
nothing = commands.Quiet (quiets.Text texts.Nothing)

abbrev pub refuses : FaultKind → Command
refuses kind = commands.Quiet (quiets.Text (texts.Refuse kind))

abbrev pub groups_so : Grouping → Command
groups_so grouping = commands.Quiet (quiets.Text (texts.Group grouping))

abbrev pub puts : Char → Command
puts c = commands.Quiet (quiets.Put c)

-- mathematics, alignments, parameters and scripts
abbrev pub is_left_out : ℕ → Bool
is_left_out cat = (cat == 3) || (cat == 4) || (cat == 6) || (cat == 7) || (cat == 8)

-- a character of one byte, by its category
abbrev pub category_command : ℕ → ℕ → Command
category_command code cat =
    if cat == 1 then groups_so (Begin groups.Simple)
    else (if cat == 2 then commands.CloseBrace
    else (if cat == 10 then commands.Quiet quiets.Space
    else (if (cat == 11) || (cat == 12) then puts (chars.One code)
    else (if is_left_out cat then refuses kinds.LeftOut
    else refuses kinds.NotBuilt))))

abbrev pub letter_command : Token → Command
letter_command (tokens.Char code cat) = category_command code cat
letter_command (tokens.Ja cell) = puts (chars.Ja cell)
letter_command _ = refuses kinds.NotBuilt

abbrev pub primitive_command : PrimitiveName → Command
primitive_command prims.Relax = nothing
primitive_command prims.Par = nothing
primitive_command prims.BeginGroup = groups_so (Begin groups.Semi)
primitive_command prims.EndGroup = groups_so (End groups.Semi)
primitive_command prims.EndCsName = refuses kinds.CsnameEnd
primitive_command prims.IgnoreSpaces = commands.Quiet (quiets.Text texts.IgnoreSpaces)
primitive_command prims.Char = commands.Quiet quiets.PutNumbered
primitive_command prims.InhibitGlue = commands.Quiet quiets.Inhibit
primitive_command prims.ShipOut = commands.Quiet quiets.ShipOut
primitive_command prims.End = commands.End
primitive_command _ = refuses kinds.NotBuilt

-- the character of a code by \chardef
abbrev pub code_command : Option Char → Command
code_command (Some c) = puts c
code_command None = refuses kinds.CodeRange

-- what a token does that neither assigns nor is a prefix
abbrev pub plain_command : Meaning → Command
plain_command (meanings.Primitive prim) = primitive_command prim
plain_command (meanings.Letter token) = letter_command token
plain_command (meanings.Code code) = code_command (char_of code)
plain_command _ = refuses kinds.NotBuilt

abbrev pub command_as : AssignCommand → Meaning → Command
command_as assigning.Other meaning = plain_command meaning
command_as command meaning = commands.Quiet (quiets.Assign command)

abbrev pub command_of : Meaning → Command
command_of meaning = command_as (assignment_of meaning) meaning
