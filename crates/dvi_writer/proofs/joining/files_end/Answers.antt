use Rattle.dvi_writer.proofs.Ending.{files_end}
use Rattle.dvi_writer.proofs.joining.files_end.Goals as goal

pub returns : goal.returns
returns c =
    files_end c.commands_lead.ensures c.bytes_lead_on.ensures c.the_last_is_placed.ensures c.bytes_say_commands.ensures.font_def c.bytes_say_commands.ensures.post c.bytes_say_commands.ensures.post_post
