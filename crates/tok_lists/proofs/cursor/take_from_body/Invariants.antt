use Rattle.std.proofs.Common.{◌≡◌, [], length}
use Rattle.tok_lists.specs.Pending.{with_arguments}
use Rattle.tok_lists.proofs.cursor.take_from_body.Given as goal

abbrev pub invariant-loop-token : goal.invariant-loop-token
invariant-loop-token l = record {
  read : l.argument ≡ [];
  left : with_arguments l.args l.fn.body ≡ with_arguments l.args l.body;
}

abbrev pub decreases-loop-token : goal.decreases-loop-token
decreases-loop-token l = length l.body
