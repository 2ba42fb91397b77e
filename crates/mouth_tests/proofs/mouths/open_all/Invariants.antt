use Rattle.mouth.specs.Keeping.{AreOpen, IsReadable}
use Rattle.mouth_tests.proofs.mouths.open_all.Given as goal

abbrev pub invariant-loop-count : goal.invariant-loop-count
invariant-loop-count g l = record {
  opened : AreOpen l.mouth (g.F.Files.state l.files);
  readable : IsReadable l.mouth;
}
