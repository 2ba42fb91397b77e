use Rattle.std.proofs.Common.{arith}
use Rattle.layered_tables.proofs.Sound.{counted, opens_at, sound-later}
use Rattle.layered_tables.proofs.layers.Layers.open.Goals as goal

pub overflow_add-self : goal.overflow_add-self
overflow_add-self g c = let count = counted _ _ _ _ c.self.view_is in omega arith

pub invariant_of-self : goal.invariant_of-self
invariant_of-self g c = let count = counted _ _ _ _ c.self.view_is in (sound-later _ _ _ _ (omega arith) c.self.invariant.0, omega arith)

pub returns : goal.returns
returns g c = rw (← c.self.view_is) (opens_at _ _ _ c.self.invariant.0.saved)
