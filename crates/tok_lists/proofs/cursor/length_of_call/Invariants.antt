use Rattle.std.proofs.Common.{◌≡◌, ◌≤◌, ◌+◌, length, take}
use Rattle.tok_lists.specs.Pending.{with_arguments}
use Rattle.tok_lists.proofs.cursor.length_of_call.Given as goal

abbrev pub invariant-loop-token : goal.invariant-loop-token
invariant-loop-token l = record {
  counted : l.of_arguments + l.token-index ≡ length (with_arguments l.args (take l.token-index l.body)) + l.params;
  few : l.of_arguments ≤ l.most;
  some : l.params ≤ l.token-index;
}
