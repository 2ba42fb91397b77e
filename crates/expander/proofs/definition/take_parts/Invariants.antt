use Rattle.std.proofs.Common.{◌≡◌, ◌≤◌}
use Rattle.mouth.specs.Sizes.{size}
use Rattle.mouth.specs.Keeping.{reading, AreTold, IsReadable}
use Rattle.macros.specs.Bodies.{IsBody}
use Rattle.expander.specs.Worlds.{world}
use Rattle.expander.specs.Leaving.{but_meanings}
use Rattle.expander.specs.Holding.{AreFit, Goes}
use Rattle.expander.specs.Definitions.{expanded}
use Rattle.expander.proofs.definition.take_parts.Given as goal

abbrev pub invariant-loop : goal.invariant-loop
invariant-loop g l =
    let old = g.F.Files.state l.fn.files in
    let new = g.F.Files.state l.files in
    record {
      same : AreTold l.fn.mouth old → expanded l.fn.body (world (reading l.fn.mouth old) l.fn.env) ≡ expanded l.body (world (reading l.mouth new) l.env);
      goes : Goes l.fn.mouth old l.mouth new;
      readable : IsReadable l.mouth;
      fit : AreFit l.mouth.names l.env;
      kept : but_meanings l.env ≡ but_meanings l.fn.env;
      body : IsBody l.mouth.names l.body;
      size : size (reading l.mouth new) ≤ size (reading l.fn.mouth old);
      counted : new.faults ≡ old.faults;
    }

abbrev pub decreases-loop : goal.decreases-loop
decreases-loop g l = size (reading l.mouth (g.F.Files.state l.files))
