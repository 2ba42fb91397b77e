use Rattle.std.proofs.Common.{◌≡◌, ◌-◌, ◌≤◌, ◌++◌, length, drop, Ok}
use Rattle.ts_base.specs.Agreement.{◌>>=◌}
use Rattle.dvi_structure.specs.Places.{placed}
use Rattle.dvi_code.specs.Straight.{start_reader, reader_of, pages_on}
use Rattle.dvi_code.proofs.pages.pages_with.Given as goal

abbrev pub invariant-commands : goal.invariant-commands
invariant-commands g l = record {
  within : l.at ≤ length l.bytes;
  same : (pages_on (g.W.Widths.width_of l.widths) l.fonts (reader_of l.fonts l.reader) (placed l.at 0 (drop l.at l.bytes)) >>= λ more. Ok (l.pages ++ more)) ≡ pages_on (g.W.Widths.width_of l.widths) l.fonts start_reader (placed 0 0 l.bytes);
}

abbrev pub decreases-commands : goal.decreases-commands
decreases-commands g l = length l.bytes - l.at
