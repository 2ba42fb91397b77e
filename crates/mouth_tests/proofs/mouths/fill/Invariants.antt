use Rattle.mouth.specs.Keeping.{KeepsFiles}
use Rattle.mouth_tests.proofs.mouths.fill.Given as goal

abbrev pub invariant-loop-count : goal.invariant-loop-count
invariant-loop-count l = KeepsFiles l.fn.mouth l.mouth
