use Rattle.std.proofs.Common.{arith, ◌≡◌, true, false, sym, ◌∙◌}
use Rattle.line_break.specs.Lines.{is_legal}
use Rattle.line_break.proofs.Running.{item_sound, here_near, IsNext, next_is, next_legal, next_other}
use Rattle.line_break.proofs.legal.all_breaks.Goals as goal

pub with_before-here-requires-clause-sound : goal.with_before-here-requires-clause-sound
with_before-here-requires-clause-sound c =
    item_sound c.args.items.now _ c.index-items-here.result (omega (arith, c.loop-here.invariant.inside, c.loop-here-test.true)) c.index-items-here.is c.requires.sound

pub with_before-here-requires-clause-near : goal.with_before-here-requires-clause-near
with_before-here-requires-clause-near c = here_near c.args.items.now c.loop-here.here c.requires.few c.requires.sound c.loop-here.invariant.here

pub loop-here-preserved-in-Continue-1 : goal.loop-here-preserved-in-Continue-1
loop-here-preserved-in-Continue-1 c =
    let n : IsNext c.args.items.now c.loop-here.here c.with_before-here.result =
    next_is c.args.items.now c.loop-here.here c.with_before-here.result c.index-items-here.result c.loop-here-test.true c.loop-here.invariant.inside c.loop-here.invariant.here c.index-items-here.is c.with_before-here.ensures in
    let legal : is_legal c.args.items.now c.with_before-here.result.place ≡ true = sym c.is_legal.ensures ∙ c.if-is_legal.true in
    record { inside = n.inside; here = n.is; breaks = next_legal c.args.items.now c.loop-here.here c.with_before-here.result c.loop-here.breaks.items c.push.new.self.items n c.loop-here.invariant.inside legal c.in_ok-push.ensures.items c.loop-here.invariant.breaks }

pub loop-here-preserved : goal.loop-here-preserved
loop-here-preserved c =
    let n : IsNext c.args.items.now c.loop-here.here c.with_before-here.result =
    next_is c.args.items.now c.loop-here.here c.with_before-here.result c.index-items-here.result c.loop-here-test.true c.loop-here.invariant.inside c.loop-here.invariant.here c.index-items-here.is c.with_before-here.ensures in
    let legal : is_legal c.args.items.now c.with_before-here.result.place ≡ false = sym c.is_legal.ensures ∙ c.if-is_legal.false in
    record { inside = n.inside; here = n.is; breaks = next_other c.args.items.now c.loop-here.here c.with_before-here.result c.loop-here.breaks.items n c.loop-here.invariant.inside legal c.loop-here.invariant.breaks }
