use Rattle.std.proofs.Common.{arith}
use Rattle.layered_tables.proofs.Sound.{sound-empty}
use Rattle.layered_tables.proofs.layers.Layers.new.Goals as goal

pub invariant_of-result : goal.invariant_of-result
invariant_of-result g c = (rw (c.new.ensures.items, c.new-2.ensures.items) sound-empty, omega arith)
