use Rattle.std.proofs.Common.{◌≡◌, ◌≤◌}
use Rattle.mouth.specs.Sizes.{unread, size}
use Rattle.mouth.specs.Keeping.{reading, AreTold, IsReadable}
use Rattle.raw_texts.specs.Runs.{run, Leaves}
use Rattle.raw_texts.proofs.run.read_on.Given as goal

abbrev pub invariant-loop-token : goal.invariant-loop-token
invariant-loop-token g l =
    let old = g.F.Files.state l.fn.files in
    let new = g.F.Files.state l.files in
    let step = g.M.Machine.step in
    record {
      same : AreTold l.fn.mouth old → run l.env step l.fn.machine (reading l.fn.mouth old) ≡ run l.env step l.machine (reading l.mouth new);
      leaves : Leaves l.fn.mouth old l.mouth new;
      readable : IsReadable l.mouth;
      holds : g.M.Machine.holds l.mouth.names l.machine;
      unread : unread (reading l.mouth new) ≤ unread (reading l.fn.mouth old);
      size : size (reading l.mouth new) ≤ size (reading l.fn.mouth old);
      counted : new.faults ≡ old.faults;
    }

abbrev pub decreases-loop-token : goal.decreases-loop-token
decreases-loop-token g l = unread (reading l.mouth (g.F.Files.state l.files))
