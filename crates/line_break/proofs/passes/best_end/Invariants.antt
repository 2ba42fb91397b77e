use Rattle.std.proofs.Common.{◌≡◌, ◌<◌, length, IfSome, None}
use Rattle.std.specs.List.{fold, range_with_len}
use Rattle.line_break.specs.Codes.{better_end}
use Rattle.line_break.proofs.passes.best_end.Given as goal

abbrev pub invariant-loop-i : goal.invariant-loop-i
invariant-loop-i l = record {
  value : l.best ≡ fold (better_end l.states l.n) None (range_with_len 0 l.i);
  inside : IfSome l.best (λ j. j < length l.states);
}
