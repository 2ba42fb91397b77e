use Rattle.scan_syntax.specs.Scans.{IsOpen}
use Rattle.scan_syntax.specs.States.{reads}
use Rattle.scan_tests.proofs.scans.ends.Given as goal

abbrev pub invariant-loop-k : goal.invariant-loop-k
invariant-loop-k l = IsOpen (reads l.scan)
