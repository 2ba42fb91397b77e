use Rattle.std.proofs.Common.{◌≡◌, ◌∙◌, pos, false, true, refl, arith}
use Rattle.mouth.specs.Reading.{at_place}
use Rattle.mouth.specs.Keeping.{reading, place_in}
use Rattle.expander.specs.Choices.{is_or, is_first, case_after}
use Rattle.expander.specs.Faults.{step_cause}
use Rattle.expander.proofs.Chains.{goes_then, goes_itself}
use Rattle.expander.proofs.Exits.{step_refuses}
use Rattle.expander.proofs.Cases.{cases_first, cases_on, cases_done, cases_ended, cases_refused, or_is}
use Rattle.expander.proofs.choices.skip_cases.Goals as goal

pub loop-left-init : goal.loop-left-init
loop-left-init g c = record {
  cases = cases_first _ _ _ _ _;
  goes = goes_itself c.args.mouth.now (g.F.Files.state c.args.files.now) c.requires.opened;
  readable = c.requires.readable;
  size = omega arith;
  counted = refl;
}

pub returns-in_err-ended-clause-exact : goal.returns-in_err-ended-clause-exact
returns-in_err-ended-clause-exact g c = λ told.
    let was = c.loop-left.invariant in
    let r = reading c.loop-left.mouth (g.F.Files.state c.loop-left.files) in
    let e = c.in_err-ended.field-0.0 in
    let place = place_in c.skip.new.mouth in
    let more : is_first c.loop-left.left ≡ false = cc in
    step_refuses _ place c.from_residual.result e _ (case_after c.args.env.now c.args.number was.cases.count r) c.from_residual.ensures (was.cases.same told)
    (cases_refused _ _ _ _ (step_cause e) _ r (at_place place e) was.cases more (c.in_err-ended.ensures.exact (was.goes.told told)))

pub returns-then-not-is_or-clause-exact : goal.returns-then-not-is_or-clause-exact
returns-then-not-is_or-clause-exact g c = λ told.
    let was = c.loop-left.invariant in
    let r = reading c.loop-left.mouth (g.F.Files.state c.loop-left.files) in
    let v = reading c.skip.new.mouth (g.F.Files.state c.skip.new.files) in
    let other : is_or c.in_ok-ended.ended ≡ false = cc in
    let more : is_first c.loop-left.left ≡ false = cc in
    rw (c.end_false.ensures.exact (g.F.Files.state c.skip.new.files))
    (cases_ended _ _ _ _ _ c.in_ok-ended.ended r v was.cases more other (λ told. c.in_ok-ended.ensures.exact (was.goes.told told)) told)

pub loop-left-preserved : goal.loop-left-preserved
loop-left-preserved g c =
    let was = c.loop-left.invariant in
    let before = g.F.Files.state c.loop-left.files in
    let after = g.F.Files.state c.skip.new.files in
    let r = reading c.loop-left.mouth before in
    let v = reading c.skip.new.mouth after in
    let is : is_or c.in_ok-ended.ended ≡ true = cc in
    let more : is_first c.loop-left.left ≡ false = cc in
    let on = cases_on _ _ _ _ _ r v was.cases more c.in_ok-ended.ensures.size (λ told. rw (or_is c.in_ok-ended.ended is) at (c.in_ok-ended.ensures.exact (was.goes.told told))) in
    record {
      cases = rw c.fewer-left.ensures on;
      goes = goes_then c.args.mouth.now c.loop-left.mouth c.skip.new.mouth (g.F.Files.state c.args.files.now) before after was.goes c.skip.ensures.goes;
      readable = c.in_ok-ended.ensures.readable;
      size = omega (arith, c.in_ok-ended.ensures.size, was.size);
      counted = c.in_ok-ended.ensures.counted ∙ was.counted;
    }

pub returns-clause-exact : goal.returns-clause-exact
returns-clause-exact g c = λ told.
    let was = c.loop-left.invariant in
    let none : is_first c.loop-left.left ≡ true = cc in
    rw (c.change_conditional.ensures.exact (g.F.Files.state c.loop-left.files))
    (cases_done _ _ _ _ _ (reading c.loop-left.mouth (g.F.Files.state c.loop-left.files)) was.cases none told)
