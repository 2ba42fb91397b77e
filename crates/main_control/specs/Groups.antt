-- Commands that touch what is read and the environments alone.
use Rattle.std.specs.Prelude.{Ok, Err}
use Rattle.expander.specs.Worlds.{World as Text}
use Rattle.assignments.specs.Worlds.{refused}
use Rattle.assignments.specs.Groups.{grouped}
use Rattle.assignments.specs.Seeking.{spaces_ignored}
use Rattle.main_control.specs.declared.command.TextCommand.{TextCommand}
use Rattle.main_control.specs.declared.command.TextCommand.TheVariants as commands
use Rattle.main_control.specs.Worlds.{Acted}

unfoldable pub text_done : TextCommand → Text → Acted
text_done commands.Nothing w = Ok w
text_done (commands.Group grouping) w = grouped grouping w
text_done (commands.Refuse kind) w = Err (refused kind w)
text_done commands.IgnoreSpaces w = spaces_ignored w
