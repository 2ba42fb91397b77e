use Rattle.std.proofs.Common.{◌≡◌, ◌-◌, ◌≤◌, length, take, drop}
use Rattle.dvi_commands.specs.Fields.{counts}
use Rattle.dvi_commands.proofs.Counts.{with_front}
use Rattle.dvi_commands.proofs.field.counts_at.Given as goal

abbrev pub invariant-loop-i : goal.invariant-loop-i
invariant-loop-i l = record {
  on : l.fn.at ≤ l.place;
  place : l.place ≤ length l.bytes;
  len : length l.counts ≡ 10;
  same : with_front (take l.i l.counts) (counts (10 - l.i) (drop l.place l.bytes)) ≡ counts 10 (drop l.fn.at l.bytes);
}
