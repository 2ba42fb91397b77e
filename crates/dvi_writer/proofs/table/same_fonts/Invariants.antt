use Rattle.std.proofs.Common.{◌≡◌, take}
use Rattle.dvi_writer.proofs.table.same_fonts.Given as goal

abbrev pub invariant-loop-font : goal.invariant-loop-font
invariant-loop-font l = l.copies ≡ take l.font-index l.fonts
