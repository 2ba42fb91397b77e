use Rattle.dvi_writer.proofs.Ending.{whole}
use Rattle.dvi_writer.proofs.laws.pages_are_whole.Goals as goal

pub returns : goal.returns
returns c = λ w pages bytes widths stands given. whole w.kept w.fonts pages bytes widths stands given
