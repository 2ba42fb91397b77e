use Rattle.std.proofs.Common.{◌≡◌, ◌*◌, ◌^◌, drop}
use Rattle.ts_geometry.specs.declared.direction.Dir.{Dir}
use Rattle.box_tree.specs.Nodes.{tree_items}
use Rattle.box_tree.specs.Sound.{AreSound}
use Rattle.packaging.specs.Running.{no_vertical, vertical_with, AreNear}
use Rattle.packaging.proofs.Running.{fold}
use Rattle.packaging.proofs.vertical.vertical_sums.Given as goal

abbrev pub invariant-loop-item : goal.invariant-loop-item
invariant-loop-item l = record {
  same : fold vertical_with l.sums (tree_items (drop l.item-index l.items)) ≡ fold vertical_with no_vertical (tree_items l.items);
  sound : (dir : Dir) × AreSound dir (tree_items (drop l.item-index l.items));
  near : AreNear (l.item-index * 2 ^ 32) l.sums.totals;
}
