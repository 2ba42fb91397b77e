use Rattle.std.proofs.Common.{arith, ap, length, length-append, [], ◌∷◌}
use Rattle.std.proofs.lemmas.Int.{ints}
use Rattle.std.proofs.lemmas.List.Elements.{All-push}
use Rattle.ts_geometry.specs.declared.measure.Measures.{Measures}
use Rattle.ts_geometry.specs.declared.measure.Sp.{Sp}
use Rattle.ts_job.specs.declared.writer.page.Glyph.{Glyph}
use Rattle.ts_job.specs.Meant.{FitsGlyph}
use Rattle.ts_job.specs.Setting.{HasCell}
use Rattle.ts_job.proofs.Boxes.{glyphs_more}
use Rattle.ts_job.proofs.setting.glyphs.Goals as goal

pub loop-cell-preserved : goal.loop-cell-preserved
loop-cell-preserved c =
    let metric = c.args.metric.now in
    let cells = c.args.cells.now in
    let so_far = c.loop-cell.invariant in
    let items = c.in_ok-push.ensures.items in
    let width = c.measures.ensures.width in
    let on = ap (λ (s : Sp). s.0) c.plus-x.ensures in
    let has : HasCell metric c.glyph.result = record { cell = c.cell-item.result; there = c.glyph.ensures.there; code = ap (λ (g : Glyph). g.code) c.glyph.ensures.value; small = rw c.measures.ensures.value at c.measures.ensures.width } in
    record {
      so_far = glyphs_more metric c.loop-cell.x.0 c.args.baseline.0 _ _ cells c.loop-cell.cell-index c.cell-item.result _ _ _ _ c.loop-cell-test.true c.cell-item.is so_far.so_far c.glyph.ensures.value (ap (λ (m : Measures). m.wd.0) c.measures.ensures.value) on items;
      fit = rw items (All-push FitsGlyph c.loop-cell.glyphs.items c.glyph.result so_far.fit c.glyph.ensures.fits);
      have = rw items (All-push (HasCell metric) c.loop-cell.glyphs.items c.glyph.result so_far.have has);
      count = omega (arith, ap length items, length-append c.loop-cell.glyphs.items (c.glyph.result ∷ []), so_far.count);
      left = omega (arith, ints, so_far.left, width.0, on);
      right = omega (arith, ints, so_far.right, width.1, on);
    }

pub plus-x-requires : goal.plus-x-requires
plus-x-requires c =
    let width = c.measures.ensures.width in
    omega (arith, ints, c.loop-cell.invariant.left, c.loop-cell.invariant.right, width.0, width.1)
