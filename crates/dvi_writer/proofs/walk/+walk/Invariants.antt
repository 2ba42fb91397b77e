use Rattle.std.proofs.Common.{◌+◌, ◌*◌}
use Rattle.box_tree.specs.Nodes.{tree_item}
use Rattle.box_tree.specs.Weights.{weight, item_weight}
use Rattle.dvi_writer.proofs.Walks.{Runs, Framed}
use Rattle.dvi_writer.proofs.walk.+walk.Given as goal

abbrev pub decreases-put_box : goal.decreases-put_box
decreases-put_box l = 2 * weight l.node.now

abbrev pub decreases-put_item : goal.decreases-put_item
decreases-put_item l = 2 * item_weight (tree_item l.item.now) + 1

abbrev pub invariant-put_box-loop-item : goal.invariant-put_box-loop-item
invariant-put_box-loop-item l = record {
  runs : Runs l.fn.pen l.frame l.item-items l.item-index l.sums l.pen;
  framed : Framed l.fn.node l.fn.at l.frame l.item-items;
}
