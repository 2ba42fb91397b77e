use Rattle.std.proofs.Common.{arith}
use Rattle.box_tree.specs.declared.node.BoxKind.TheVariants.{Vertical}
use Rattle.packaging.specs.Running.{vertical_with}
use Rattle.packaging.proofs.Near.{are_farther}
use Rattle.packaging.proofs.Running.{next_sound, rest_sound, next_same, next_near, all_done, vertical_ends}
use Rattle.packaging.proofs.vertical.vertical_sums.Goals as goal

pub with_item-sums-requires-clause-near : goal.with_item-sums-requires-clause-near
with_item-sums-requires-clause-near c = are_farther _ _ _ (omega arith) c.loop-item.invariant.near

pub with_item-sums-requires-clause-sound : goal.with_item-sums-requires-clause-sound
with_item-sums-requires-clause-sound c = (c.loop-item.invariant.sound.0, next_sound _ _ _ _ c.loop-item-test.true c.item-item.is c.loop-item.invariant.sound.1)

pub loop-item-preserved : goal.loop-item-preserved
loop-item-preserved c = rw c.with_item-sums.ensures (record {
  same = next_same _ _ _ c.loop-item-test.true c.item-item.is vertical_with _ _ c.loop-item.invariant.same;
  sound = (c.loop-item.invariant.sound.0, rest_sound _ _ _ _ c.loop-item-test.true c.item-item.is c.loop-item.invariant.sound.1);
  near = next_near _ _ _ _ c.loop-item-test.true c.item-item.is Vertical _ c.loop-item.invariant.near c.loop-item.invariant.sound.1;
})

pub returns-clause-near : goal.returns-clause-near
returns-clause-near c = are_farther _ _ _ (omega arith) c.loop-item.invariant.near

pub returns-clause-sums : goal.returns-clause-sums
returns-clause-sums c = vertical_ends _ _ (all_done vertical_with _ _ _ _ c.loop-item-test.false c.loop-item.invariant.same)
