use Rattle.packaging.proofs.Targets.{horizontal_of_items, horizontal_excess}
use Rattle.packaging.proofs.horizontal.hpack.Goals as goal

pub pack-requires-clause-totals : goal.pack-requires-clause-totals
pack-requires-clause-totals c = rw c.target-target.ensures ((horizontal_of_items _ _ _ c.as_slice.ensures c.horizontal_sums-sums.ensures.sums).totals)

pub pack-requires-clause-near : goal.pack-requires-clause-near
pack-requires-clause-near c = rw c.target-target.ensures (horizontal_excess _ _ _ _ c.requires.sound c.requires.size_sound (horizontal_of_items _ _ _ c.as_slice.ensures c.horizontal_sums-sums.ensures.sums))
