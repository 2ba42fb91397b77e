use Rattle.packaging.proofs.Targets.{vertical_of_items, vertical_excess}
use Rattle.packaging.proofs.vertical.vtop.Goals as goal

pub pack-requires-clause-totals : goal.pack-requires-clause-totals
pack-requires-clause-totals c = rw c.target-target.ensures.value ((vertical_of_items _ _ _ c.as_slice.ensures c.vertical_sums-sums.ensures.sums).totals)

pub pack-requires-clause-near : goal.pack-requires-clause-near
pack-requires-clause-near c =
    rw c.target-target.ensures.value
    (vertical_excess _ _ _ _ _ c.requires.sound c.requires.size_sound c.requires.depth_sound (vertical_of_items _ _ _ c.as_slice.ensures c.vertical_sums-sums.ensures.sums))
