use Rattle.std.proofs.Common.{◌≡◌, ◌-◌, ◌≤◌, length, slice_get, take}
use Rattle.node_links.proofs.list.NodeList.to_items.Given as goal

abbrev pub invariant-loop-at : goal.invariant-loop-at
invariant-loop-at l = record {
  many : length l.self.numbers ≡ length l.self.items;
  within : length l.items ≤ length l.self.items;
  so_far : l.items ≡ take (length l.items) l.self.items;
  next : l.at ≡ slice_get l.self.numbers (length l.items);
}

abbrev pub decreases-loop-at : goal.decreases-loop-at
decreases-loop-at l = length l.self.items - length l.items
