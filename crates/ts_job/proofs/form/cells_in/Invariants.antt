use Rattle.std.proofs.Common.{◌≡◌, ◌++◌, drop, length}
use Rattle.ts_job.specs.Form.{cells_in}
use Rattle.ts_job.proofs.form.cells_in.Given as goal

abbrev pub invariant-loop-character : goal.invariant-loop-character
invariant-loop-character l = record {
  so_far : cells_in l.characters ≡ l.cells.items ++ cells_in (drop l.character-index l.characters);
  within : length l.cells.items ≡ l.character-index;
}
