use Rattle.std.proofs.Common.{◌≡◌, ◌≤◌, suc}
use Rattle.macros.specs.Borders.{next_to}
use Rattle.macros.proofs.border.next_match.Given as goal

abbrev pub invariant-loop-many : goal.invariant-loop-many
invariant-loop-many l = record {
  fewer : l.few ≤ l.many;
  same : next_to l.delimiter l.many l.token (suc l.many) ≡ next_to l.delimiter l.many l.token (suc l.few);
}

abbrev pub decreases-loop-many : goal.decreases-loop-many
decreases-loop-many l = l.few
