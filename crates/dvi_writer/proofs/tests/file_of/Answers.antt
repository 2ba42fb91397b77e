use Rattle.std.proofs.Common.{List, ◌++◌, sym, ap}
use Rattle.dvi_commands.specs.declared.font.FontDef.{FontDef}
use Rattle.dvi_writer.specs.Tables.{known}
use Rattle.dvi_writer.proofs.tests.file_of.Goals as goal

pub page-requires-clause-begins : goal.page-requires-clause-begins
page-requires-clause-begins c = (known c.args.fonts.now, sym (ap (λ (t : List FontDef). t ++ known c.args.fonts.now) c.new-writer.ensures.empty.fonts))
