use Rattle.dvi_writer.proofs.Bounds.{stands_new}
use Rattle.dvi_writer.proofs.writer.Writer.new.Goals as goal

pub returns-clause-stands : goal.returns-clause-stands
returns-clause-stands c = rw (c.new-kept.ensures, c.new.ensures) stands_new
