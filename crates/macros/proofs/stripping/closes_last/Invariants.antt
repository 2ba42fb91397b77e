use Rattle.std.proofs.Common.{◌≡◌, ◌≤◌, ◌+◌, drop}
use Rattle.macros.specs.Delimited.{closes_last}
use Rattle.macros.proofs.stripping.closes_last.Given as goal

abbrev pub invariant-loop-token : goal.invariant-loop-token
invariant-loop-token l = record {
  few : l.groups ≤ l.token-index + 1;
  same : closes_last 1 l.list ≡ closes_last l.groups (drop l.token-index l.list);
}
