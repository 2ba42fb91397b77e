use Rattle.mouth.specs.Keeping.{AreOpen, IsReadable}
use Rattle.expander.specs.Holding.{AreFit}
use Rattle.expander_tests.proofs.defined_macros.define_all.Given as goal

abbrev pub invariant-loop : goal.invariant-loop
invariant-loop g l = record {
  opened : AreOpen l.gullet (g.F.Files.state l.files);
  readable : IsReadable l.gullet;
  fit : AreFit l.gullet.names l.env;
}
