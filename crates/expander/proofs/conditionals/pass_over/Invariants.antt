use Rattle.std.proofs.Common.{◌≡◌, ◌≤◌}
use Rattle.mouth.specs.Sizes.{size}
use Rattle.mouth.specs.Keeping.{reading, AreTold, IsReadable}
use Rattle.expander.specs.Holding.{Goes}
use Rattle.expander.specs.Conditionals.{passed_over}
use Rattle.expander.proofs.conditionals.pass_over.Given as goal

abbrev pub invariant-loop-left : goal.invariant-loop-left
invariant-loop-left g l =
    let old = g.F.Files.state l.fn.files in
    let new = g.F.Files.state l.files in
    record {
      same : AreTold l.fn.mouth old → passed_over l.env l.fn.count (reading l.fn.mouth old) ≡ passed_over l.env l.left (reading l.mouth new);
      goes : Goes l.fn.mouth old l.mouth new;
      readable : IsReadable l.mouth;
      size : size (reading l.mouth new) ≤ size (reading l.fn.mouth old);
      counted : new.faults ≡ old.faults;
    }

abbrev pub decreases-loop-left : goal.decreases-loop-left
decreases-loop-left g l = l.left
