use Rattle.std.proofs.Common.{◌≡◌, ◌-◌, ℕ, ◌<◌, ◌≤◌, true, false, pos, int_lt}
use Rattle.ts_geometry.specs.Numbers.{badness_of_ratio}
use Rattle.line_break.proofs.weight.limit_above.Given as goal

abbrev pub invariant-loop-low : goal.invariant-loop-low
invariant-loop-low l = record {
  order : l.low ≤ l.high;
  high : l.high ≤ 1291;
  below : (n : ℕ) → n < l.low → int_lt l.fn.threshold (pos (badness_of_ratio n)) ≡ false;
  above : int_lt l.fn.threshold (pos 10000) ≡ true → int_lt l.fn.threshold (pos (badness_of_ratio l.high)) ≡ true;
}

abbrev pub decreases-loop-low : goal.decreases-loop-low
decreases-loop-low l = l.high - l.low
