use Rattle.mouth.specs.Keeping.{AreOpen, IsReadable}
use Rattle.mouth_tests.proofs.mouths.run.Given as goal

abbrev pub invariant-loop-next : goal.invariant-loop-next
invariant-loop-next g l = record {
  opened : AreOpen l.mouth (g.F.Files.state l.files);
  readable : IsReadable l.mouth;
}
