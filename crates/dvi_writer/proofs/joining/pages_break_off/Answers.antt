use Rattle.dvi_writer.proofs.Breaking.{pages_break_off}
use Rattle.dvi_writer.proofs.joining.pages_break_off.Goals as goal

pub returns : goal.returns
returns c =
    pages_break_off c.commands_lead.ensures c.bytes_lead_on.ensures c.bytes_say_commands.ensures.font_def c.bodies_lead_on.ensures.join c.bodies_lead_on.ensures.lead
    c.all_glyphs_are_marked.ensures.fonts c.sheets_grow.ensures
