use Rattle.std.proofs.Common.{◌∙◌, ap, arith, pos, reverse, List}
use Rattle.line_break.specs.declared.shape.BreakAt.{BreakAt}
use Rattle.line_break.specs.declared.weight.Class.TheVariants.{VeryLoose}
use Rattle.line_break.specs.declared.states.Reached.{Reached}
use Rattle.line_break.specs.Ready.{pass_of}
use Rattle.line_break.proofs.Ends.{back_step, back_stops}
use Rattle.line_break.proofs.passes.ends_back.Goals as goal

nowhere : Reached
nowhere = record { at = 0; class = VeryLoose; sum = pos 0; from = 0 }

pub loop-i-preserved : goal.loop-i-preserved
unfolding nowhere
loop-i-preserved c =
    let step = back_step (pass_of c.args.lines.now) c.args.states.now c.loop-i.i nowhere c.loop-i.ends.items c.push.new.self.items _ c.break_at.result c.requires.chain c.loop-i.invariant.inside c.loop-i-test.true (c.break_at.ensures ∙ c.place.ensures.value) c.in_ok-push.ensures.items c.loop-i.invariant.same in
    record { inside = omega (arith, step.0, c.loop-i.invariant.inside); same = step.1 }

pub returns : goal.returns
unfolding nowhere
returns c =
    c.reverse.ensures.items
    ∙ ap (λ (xs : List BreakAt). reverse xs) (back_stops (pass_of c.args.lines.now) c.args.states.now c.loop-i.i nowhere c.loop-i.ends.items _ c.requires.chain c.loop-i.invariant.inside c.loop-i-test.false c.loop-i.invariant.same)
