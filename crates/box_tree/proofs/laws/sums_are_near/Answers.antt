use Rattle.box_tree.proofs.Near.{item_extent_near, item_part_near, offset_near}
use Rattle.box_tree.proofs.Lists.{running_extents_are_near, running_parts_are_near}
use Rattle.box_tree.proofs.laws.sums_are_near.Goals as goal

pub returns-clause-extent : goal.returns-clause-extent
returns-clause-extent c = item_extent_near

pub returns-clause-part : goal.returns-clause-part
returns-clause-part c = item_part_near

pub returns-clause-offset : goal.returns-clause-offset
returns-clause-offset c = offset_near

pub returns-clause-extents : goal.returns-clause-extents
returns-clause-extents c = running_extents_are_near

pub returns-clause-parts : goal.returns-clause-parts
returns-clause-parts c = running_parts_are_near
