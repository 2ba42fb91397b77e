use Rattle.dvi_writer.proofs.Pages.{pages_join}
use Rattle.dvi_writer.proofs.joining.pages_join.Goals as goal

pub returns : goal.returns
returns c =
    pages_join c.commands_lead.ensures c.bytes_lead_on.ensures c.bytes_say_commands.ensures.font_def c.bytes_say_commands.ensures.eop c.bodies_lead_on.ensures.join c.bodies_lead_on.ensures.lead
    c.commands_draw.ensures.none c.commands_draw.ensures.one c.commands_draw_on.ensures c.all_glyphs_are_marked.ensures.fonts c.all_glyphs_are_marked.ensures.widths
