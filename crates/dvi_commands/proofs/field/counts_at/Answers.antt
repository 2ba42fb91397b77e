use Rattle.std.proofs.Common.{rules, arith, ◌≡◌, ◌<◌, ◌≤◌, length, take, drop, ◌∙◌, w32}
use Rattle.std.proofs.lemmas.Result.{err_from_is_err_and}
use Rattle.std.proofs.lemmas.Int.{to_z-of_z}
use Rattle.std.proofs.lemmas.List.{take_more_set}
use Rattle.std.proofs.Math.ListN.{length-set}
use Rattle.std.proofs.lemmas.List.{take_all}
use mir.Val.{SFits}
use Rattle.dvi_commands.proofs.Counts.{goes_on, ends, is_done}
use Rattle.dvi_commands.proofs.field.counts_at.Goals as goal

pub returns-in_err-count-clause-exact : goal.returns-in_err-count-clause-exact
returns-in_err-count-clause-exact c =
    let p = err_from_is_err_and c.from_residual.result c.from_residual.ensures.1 in
    rw (p.1, p.2) (ends c.in_err-count.field-0.0 (take c.loop-i.i c.loop-i.counts) c.loop-i.i (drop c.loop-i.place c.args.bytes.now) _ c.loop-i-test.true c.in_err-count.ensures.exact c.loop-i.invariant.same)

pub loop-i-preserved : goal.loop-i-preserved
loop-i-preserved c =
    let fits : SFits w32 c.in_ok-count.count = search rules in
    let back = to_z-of_z w32 c.in_ok-count.count fits in
    let below : c.loop-i.i < length c.loop-i.counts = omega (arith, c.loop-i.invariant.len, c.loop-i-test.true) in
    let more = take_more_set c.loop-i.counts c.loop-i.i c.in_ok-count.count below in
    record {
      on = omega (arith, c.in_ok-count.ensures.on);
      place = c.in_ok-count.ensures.within;
      len = length-set c.loop-i.counts c.loop-i.i _ ∙ c.loop-i.invariant.len;
      same = rw (back, more) (goes_on (take c.loop-i.i c.loop-i.counts) c.loop-i.i (drop c.loop-i.place c.args.bytes.now) c.in_ok-count.count _ _ c.loop-i-test.true c.in_ok-count.ensures.exact c.loop-i.invariant.same);
    }

pub returns-clause-exact : goal.returns-clause-exact
returns-clause-exact c =
    let long : length c.loop-i.counts ≤ c.loop-i.i = omega (arith, c.loop-i.invariant.len, c.loop-i-test.false) in
    let all : take c.loop-i.i c.loop-i.counts ≡ c.loop-i.counts = take_all c.loop-i.i c.loop-i.counts long in
    let done = is_done (take c.loop-i.i c.loop-i.counts) c.loop-i.i (drop c.loop-i.place c.args.bytes.now) _ c.loop-i-test.false c.loop-i.invariant.same in rw all at done
