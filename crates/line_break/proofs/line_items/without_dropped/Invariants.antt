use Rattle.std.proofs.Common.{◌≡◌, ◌≤◌, ◌-◌, drop, length}
use Rattle.line_break.specs.Lines.{without_dropped}
use Rattle.line_break.proofs.line_items.without_dropped.Given as goal

abbrev pub invariant-loop-first : goal.invariant-loop-first
invariant-loop-first l = record {
  inside : l.first ≤ length l.items;
  rest : without_dropped (drop l.first l.items) ≡ without_dropped l.items;
}

abbrev pub decreases-loop-first : goal.decreases-loop-first
decreases-loop-first l = length l.items - l.first
