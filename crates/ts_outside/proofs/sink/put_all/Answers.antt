use Rattle.std.proofs.Common.{rules, ◌∙◌}
use Rattle.ts_outside.proofs.Gains.{gained_more, not_all}
use Rattle.ts_outside.proofs.sink.put_all.Goals as goal

pub returns-in-Failed-clause-part : goal.returns-in-Failed-clause-part
returns-in-Failed-clause-part g c = (c.loop-done.done, not_all _ _ c.loop-done-test.true, c.in-Failed.ensures.takes ∙ c.loop-done.invariant.gained)

pub loop-done-preserved : goal.loop-done-preserved
loop-done-preserved g c = record {
  within = search rules;
  gained = gained_more _ _ _ c.loop-done.done _ _ c.loop-done.invariant.gained c.in-Took.ensures.takes.2;
  counted = search rules;
}
