use Rattle.std.proofs.Common.{◌∙◌, sym}
use Rattle.dvi_writer.proofs.Bounds.{end_none}
use Rattle.dvi_writer.proofs.writer.Writer.finish.Goals as goal

pub returns-then-self-eq0-clause-bytes : goal.returns-then-self-eq0-clause-bytes
returns-then-self-eq0-clause-bytes c = c.new-out.ensures.items ∙ sym (end_none c.args.self.kept c.args.self.fonts c.if-self-eq0.true)
