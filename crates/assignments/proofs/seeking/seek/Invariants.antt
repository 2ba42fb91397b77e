use Rattle.std.proofs.Common.{◌≡◌, ◌≤◌}
use Rattle.mouth.specs.Sizes.{size}
use Rattle.mouth.specs.Keeping.{reading, AreTold, IsReadable}
use Rattle.expander.specs.Holding.{AreFit, Goes}
use Rattle.assignments.specs.Worlds.{world_of}
use Rattle.assignments.specs.Beside.{IsBeside}
use Rattle.assignments.specs.Seeking.{found}
use Rattle.assignments.proofs.seeking.seek.Given as goal

abbrev pub invariant-loop-token : goal.invariant-loop-token
invariant-loop-token g l =
    let old = g.F.Files.state l.fn.files in
    let new = g.F.Files.state l.files in
    record {
      same : AreTold l.fn.gullet old → found l.fn.what (world_of l.fn.gullet old l.fn.env) ≡ found l.sought (world_of l.gullet new l.env);
      goes : Goes l.fn.gullet old l.gullet new;
      readable : IsReadable l.gullet;
      fit : AreFit l.gullet.names l.env;
      beside : IsBeside l.fn.env l.env;
      size : size (reading l.gullet new) ≤ size (reading l.fn.gullet old);
      counted : new.faults ≡ old.faults;
    }

abbrev pub decreases-loop-token : goal.decreases-loop-token
decreases-loop-token g l = size (reading l.gullet (g.F.Files.state l.files))
