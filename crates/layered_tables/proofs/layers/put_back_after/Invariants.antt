use Rattle.std.proofs.Common.{◌≡◌, ◌+◌, length, reverse}
use Rattle.layered_tables.specs.Undoing.{table_from, tables_to, IsSound}
use Rattle.layered_tables.proofs.layers.put_back_after.Given as goal

abbrev pub invariant-loop-saved : goal.invariant-loop-saved
invariant-loop-saved g l = record {
  sound : IsSound l.cells.items (reverse l.saves.items) (l.member + 1);
  tables : tables_to l.member (reverse l.saves.items) (table_from 0 l.cells.items)
      ≡ tables_to l.member (reverse l.initial.saves.items) (table_from 0 l.initial.cells.items);
}

abbrev pub decreases-loop-saved : goal.decreases-loop-saved
decreases-loop-saved g l = length l.saves.items
