use Rattle.std.proofs.Common.{ap}
use Rattle.ts_geometry.specs.declared.measure.Measures.{Measures}
use Rattle.ts_job.specs.Meaning.{height_of, depth_of}
use Rattle.ts_job.proofs.Boxes.{greatest_more, greatest_low, greatest_high}
use Rattle.ts_job.proofs.setting.extents.Goals as goal

pub loop-cell-preserved : goal.loop-cell-preserved
loop-cell-preserved c =
    let metric = c.args.metric.now in
    let cells = c.args.cells.now in
    let so_far = c.loop-cell.invariant in
    record {
      height = greatest_more (height_of metric) cells c.loop-cell.cell-index c.cell-item.result _ _ _ c.loop-cell-test.true c.cell-item.is so_far.height (ap (λ (m : Measures). m.ht.0) c.measures-size.ensures.value) c.greater-height.ensures;
      depth = greatest_more (depth_of metric) cells c.loop-cell.cell-index c.cell-item.result _ _ _ c.loop-cell-test.true c.cell-item.is so_far.depth (ap (λ (m : Measures). m.dp.0) c.measures-size.ensures.value) c.greater-depth.ensures;
      low = greatest_low _ _ _ c.greater-height.ensures so_far.low;
      high = greatest_high _ _ _ c.greater-height.ensures so_far.high c.measures-size.ensures.height;
      shallow = greatest_low _ _ _ c.greater-depth.ensures so_far.shallow;
      deep = greatest_high _ _ _ c.greater-depth.ensures so_far.deep c.measures-size.ensures.depth;
    }
