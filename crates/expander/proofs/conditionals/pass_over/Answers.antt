use Rattle.std.proofs.Common.{◌∙◌, ◌-◌, arith}
use Rattle.mouth.specs.Reading.{at_place}
use Rattle.mouth.specs.Keeping.{reading, place_in}
use Rattle.expander.specs.Faults.{step_cause}
use Rattle.expander.specs.Conditionals.{passed_over}
use Rattle.expander.proofs.Chains.{goes_then}
use Rattle.expander.proofs.Exits.{step_refuses}
use Rattle.expander.proofs.Passing.{over_on, over_done, over_refused}
use Rattle.expander.proofs.conditionals.pass_over.Goals as goal

pub returns-in_err-end_branch-clause-exact : goal.returns-in_err-end_branch-clause-exact
returns-in_err-end_branch-clause-exact g c = λ told.
    let was = c.loop-left.invariant in
    let r = reading c.loop-left.mouth (g.F.Files.state c.loop-left.files) in
    let e = c.in_err-end_branch.field-0.0 in
    let place = place_in c.end_branch.new.mouth in
    let refuses = over_refused (step_cause e) c.args.env.now c.loop-left.left r (at_place place e) (omega arith) (c.in_err-end_branch.ensures.exact (was.goes.told told)) in
    step_refuses _ place c.from_residual.result e _ (passed_over c.args.env.now c.loop-left.left r) c.from_residual.ensures (was.same told) refuses

pub loop-left-preserved : goal.loop-left-preserved
loop-left-preserved g c =
    let was = c.loop-left.invariant in
    let before = g.F.Files.state c.loop-left.files in
    let after = g.F.Files.state c.end_branch.new.files in
    let goes = goes_then c.args.mouth.now c.loop-left.mouth c.end_branch.new.mouth (g.F.Files.state c.args.files.now) before after was.goes c.end_branch.ensures.goes in
    record {
      same = λ told. was.same told ∙ over_on c.args.env.now c.loop-left.left (c.loop-left.left - 1) (reading c.loop-left.mouth before) (reading c.end_branch.new.mouth after)
          (omega (arith, c.loop-left-test.true)) (c.in_ok-end_branch.ensures.exact (was.goes.told told));
      goes = goes;
      readable = c.in_ok-end_branch.ensures.readable;
      size = omega (arith, c.in_ok-end_branch.ensures.size, was.size);
      counted = c.in_ok-end_branch.ensures.counted ∙ was.counted;
    }

pub returns-clause-exact : goal.returns-clause-exact
returns-clause-exact g c = λ told.
    let was = c.loop-left.invariant in
    was.same told ∙ over_done c.args.env.now c.loop-left.left (reading c.loop-left.mouth (g.F.Files.state c.loop-left.files)) (omega (arith, c.loop-left-test.false))
