use Rattle.ts_outside.proofs.Endings.{ending_more}
use Rattle.ts_outside.proofs.name.has_ending.Goals as goal

pub loop-b-preserved : goal.loop-b-preserved
loop-b-preserved c = ending_more c.args.text.now c.loop-b.b-index _ _ c.loop-b-test.true c.loop-b.invariant c.ending_after-ending.ensures
