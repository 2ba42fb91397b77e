use Rattle.mouth.specs.Keeping.{AreOpen, IsReadable}
use Rattle.mouth_tests.proofs.mouths.take.Given as goal

abbrev pub invariant-loop : goal.invariant-loop
invariant-loop g l = record {
  opened : AreOpen l.mouth (g.F.Files.state l.files);
  readable : IsReadable l.mouth;
}
