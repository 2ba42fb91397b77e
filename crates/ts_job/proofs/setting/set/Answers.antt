use Rattle.ts_job.specs.FormSeen.{seen}
use Rattle.ts_job.proofs.Boxes.{page_set}
use Rattle.ts_job.proofs.setting.set.Goals as goal

pub returns : goal.returns
returns c = λ widths.
    let pages = rw c.deref-3.ensures.value at c.in_ok-dvi.ensures.pages in
    page_set widths (seen c.args.form.now) c.args.metric.now c.in_ok-font.font c.in_ok-glyphs.glyphs.items _ c.deref.result.now c.deref-2.result.now _ c.in_ok-font.ensures.font c.deref.ensures.value c.deref-2.ensures.value
    c.extents.ensures.height c.in_ok-glyphs.ensures.glyphs c.in_ok-glyphs.ensures.cells (pages widths)
