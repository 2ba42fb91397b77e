use Rattle.ts_outside.proofs.Gains.{prefix_then, part_then}
use Rattle.ts_outside.proofs.laws.sinks_gain.Goals as goal

pub returns-clause-prefix : goal.returns-clause-prefix
returns-clause-prefix c = prefix_then

pub returns-clause-part : goal.returns-clause-part
returns-clause-part c = part_then
