use Rattle.std.proofs.Common.{◌≡◌, length}
use Rattle.box_tree.specs.Nodes.{tree_items}
use Rattle.box_tree.specs.Sound.{AreSound}
use Rattle.line_break.proofs.break_tests.items_of.Given as goal

abbrev pub invariant-loop-letter : goal.invariant-loop-letter
invariant-loop-letter l = record {
  sound : AreSound l.fn._dir (tree_items l.items.items);
  few : length l.items.items ≡ l.letter-index;
}
