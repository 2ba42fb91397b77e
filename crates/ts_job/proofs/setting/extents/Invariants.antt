use Rattle.std.proofs.Common.{◌≡◌, take, map, pos, ◌≤ℤ◌, fold}
use Rattle.std.specs.Int.{int_max}
use Rattle.ts_job.specs.Meaning.{height_of, depth_of}
use Rattle.ts_job.proofs.setting.extents.Given as goal

abbrev pub invariant-loop-cell : goal.invariant-loop-cell
invariant-loop-cell l = record {
  height : l.height.0 ≡ fold int_max (pos 0) (map (height_of l.metric) (take l.cell-index l.cells));
  depth : l.depth.0 ≡ fold int_max (pos 0) (map (depth_of l.metric) (take l.cell-index l.cells));
  low : pos 0 ≤ℤ l.height.0;
  high : l.height.0 ≤ℤ pos 10485760;
  shallow : pos 0 ≤ℤ l.depth.0;
  deep : l.depth.0 ≤ℤ pos 10485760;
}
