use Rattle.std.proofs.Common.{◌≡◌, ◌-◌, length}
use Rattle.metric_words.specs.Programs.{first_for, visited}
use Rattle.metric_words.proofs.program.find.Given as goal

abbrev pub decreases-loop-at : goal.decreases-loop-at
decreases-loop-at l = length l.commands - l.at

abbrev pub invariant-loop-at : goal.invariant-loop-at
invariant-loop-at l = first_for l.next (visited l.start l.commands) ≡ first_for l.next (visited l.at l.commands)
