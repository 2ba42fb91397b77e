use Rattle.line_break.proofs.ByClass.{end_more}
use Rattle.line_break.proofs.passes.best_end.Goals as goal

pub loop-i-preserved : goal.loop-i-preserved
loop-i-preserved c = record {
  value = end_more c.args.states.now c.args.n c.loop-i.i c.loop-i.best c.better-best.result c.loop-i.invariant.value c.better-best.ensures.value;
  inside = c.better-best.ensures.inside;
}
