use Rattle.std.proofs.Common.{List, ◌++◌, sym, ap}
use Rattle.dvi_commands.specs.declared.font.FontDef.{FontDef}
use Rattle.dvi_writer.specs.Tables.{known}
use Rattle.dvi_writer.proofs.tests.pages_come_back_with_their_fonts.Goals as goal

pub page-requires-clause-begins : goal.page-requires-clause-begins
page-requires-clause-begins g c = (known c.expect-fonts.result, sym (ap (λ (t : List FontDef). t ++ known c.expect-fonts.result) c.new-writer.ensures.empty.fonts))
