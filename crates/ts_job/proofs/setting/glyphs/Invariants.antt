use Rattle.std.proofs.Common.{◌≡◌, ◌++◌, ◌*◌, drop, length, pos, neg_ℤ, ◌≤ℤ◌}
use Rattle.std.specs.List.{All}
use Rattle.ts_job.specs.Meant.{FitsGlyph}
use Rattle.ts_job.specs.Meaning.{glyphs_from}
use Rattle.ts_job.specs.Setting.{HasCell}
use Rattle.ts_job.proofs.setting.glyphs.Given as goal

abbrev pub invariant-loop-cell : goal.invariant-loop-cell
invariant-loop-cell l = record {
  so_far : glyphs_from l.metric (pos 0) l.baseline.0 l.cells ≡ l.glyphs.items ++ glyphs_from l.metric l.x.0 l.baseline.0 (drop l.cell-index l.cells);
  fit : All FitsGlyph l.glyphs.items;
  have : All (HasCell l.metric) l.glyphs.items;
  count : length l.glyphs.items ≡ l.cell-index;
  left : neg_ℤ (pos (10485760 * l.cell-index)) ≤ℤ l.x.0;
  right : l.x.0 ≤ℤ pos (10485760 * l.cell-index);
}
