use Rattle.std.proofs.Common.{arith}
use Rattle.layered_tables.proofs.Sound.{counted, closes_at, sound-later}
use Rattle.layered_tables.proofs.layers.Layers.close.Goals as goal

pub put_back_after-requires : goal.put_back_after-requires
put_back_after-requires g c = sound-later _ _ _ _ (omega arith) c.self.invariant.0

pub returns : goal.returns
returns g c =
    let count = counted _ _ _ _ c.self.view_is in
    rw (← c.self.view_is) (closes_at _ _ _ _ _ (omega arith) c.put_back_after.ensures.sound.saved c.put_back_after.ensures.tables)
