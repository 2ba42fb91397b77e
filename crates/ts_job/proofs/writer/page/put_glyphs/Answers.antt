use Rattle.ts_job.proofs.Puts.{wrote_more}
use Rattle.ts_job.proofs.writer.page.put_glyphs.Goals as goal

pub loop-glyph-preserved : goal.loop-glyph-preserved
loop-glyph-preserved c = wrote_more _ _ _ _ _ _ c.loop-glyph-test.true c.loop-glyph.invariant c.in_ok-put_glyph.ensures
