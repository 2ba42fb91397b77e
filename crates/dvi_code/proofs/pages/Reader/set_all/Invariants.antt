use Rattle.std.proofs.Common.{◌≡◌, ◌-◌, ◌≤◌, length, drop}
use Rattle.dvi_structure.specs.Places.{placed}
use Rattle.dvi_code.specs.Straight.{reader_of, pages_on}
use Rattle.dvi_code.proofs.pages.Reader.set_all.Given as goal

abbrev pub invariant-sets : goal.invariant-sets
invariant-sets g l = record {
  on : l.fn.at ≤ l.place;
  within : l.place ≤ length l.bytes;
  same : pages_on (g.W.Widths.width_of l.widths) l.fonts (reader_of l.fonts l.self) (placed l.place 0 (drop l.place l.bytes)) ≡ pages_on (g.W.Widths.width_of l.widths) l.fonts (reader_of l.fonts l.fn.self) (placed l.fn.at 0 (drop l.fn.at l.bytes));
}

abbrev pub decreases-sets : goal.decreases-sets
decreases-sets g l = length l.bytes - l.place
