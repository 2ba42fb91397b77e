use Rattle.std.proofs.Common.{rules, arith}
use Rattle.ts_outside.proofs.Gains.{gained_more}
use Rattle.shipping.proofs.page_shipper.put_counted.Goals as goal

pub loop-done-preserved : goal.loop-done-preserved
loop-done-preserved g c = record {
  within = search rules;
  gained = gained_more _ _ _ c.loop-done.done _ _ c.loop-done.invariant.gained c.in-Took.ensures.takes.2;
  put = omega (arith, c.loop-done.invariant.put);
  counted = search rules;
}
