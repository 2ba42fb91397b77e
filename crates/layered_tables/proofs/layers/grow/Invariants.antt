use Rattle.std.proofs.Common.{◌≡◌, ◌+◌, ◌-◌, ◌≤◌, length}
use Rattle.layered_tables.specs.Undoing.{table_from}
use Rattle.layered_tables.proofs.layers.grow.Given as goal

abbrev pub invariant-loop-cells : goal.invariant-loop-cells
invariant-loop-cells g l = record {
  same : table_from 0 l.cells.items ≡ table_from 0 l.initial.cells.items;
  longer : length l.initial.cells.items ≤ length l.cells.items;
}

abbrev pub decreases-loop-cells : goal.decreases-loop-cells
decreases-loop-cells g l = l.place + 1 - length l.cells.items
