use Rattle.std.proofs.Common.{◌≡◌, true, false}
use Rattle.kcat_eyes.proofs.tests.tokens_left.Given as goal

abbrev pub invariant-loop : goal.invariant-loop
invariant-loop g l = record {
  opened : (g.F.Files.state l.files).is_open l.eyes.lines.file ≡ true;
  unfailed : l.eyes.lines.failed ≡ false;
}
