use Rattle.std.proofs.Common.{◌-◌, length}
use Rattle.macros.proofs.Pieces.{IsAhead}
use Rattle.macros.proofs.parts.next_param.Given as goal

abbrev pub invariant-loop-at : goal.invariant-loop-at
invariant-loop-at l = IsAhead l.params l.from l.at

abbrev pub decreases-loop-at : goal.decreases-loop-at
decreases-loop-at l = length l.params - l.at
