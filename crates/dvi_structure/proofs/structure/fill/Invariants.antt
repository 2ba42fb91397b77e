use Rattle.std.proofs.Common.{◌≡◌, ◌-◌, ◌≤◌, drop}
use Rattle.dvi_structure.specs.Structure.{filled}
use Rattle.dvi_structure.proofs.structure.fill.Given as goal

abbrev pub invariant-loop-i : goal.invariant-loop-i
invariant-loop-i l = record {
  on : l.fn.at ≤ l.i;
  same : filled {A = Unit {0}} tt l.i (l.i - l.fn.at) (drop l.i l.bytes) ≡ filled {A = Unit {0}} tt l.fn.at 0 (drop l.fn.at l.bytes);
}
