use Rattle.std.proofs.Common.{arith, sym}
use Rattle.std.proofs.lemmas.List.{length-take-le, take_all}
use Rattle.dvi_writer.specs.Tables.{known}
use Rattle.dvi_writer.proofs.table.known.Goals as goal

pub slice_bounds-result-end : goal.slice_bounds-result-end
slice_bounds-result-end c = sym (length-take-le 256 c.args.fonts.now (omega (arith, c.if-fonts-gt-MOST_FONTS.true)))

pub returns-else-fonts-gt-MOST_FONTS : goal.returns-else-fonts-gt-MOST_FONTS
unfolding known
returns-else-fonts-gt-MOST_FONTS c = sym (take_all 256 c.args.fonts.now c.if-fonts-gt-MOST_FONTS.false)
