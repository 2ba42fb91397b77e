use Rattle.std.proofs.Common.{◌++◌, arith, ◌∙◌}
use Rattle.print_values.specs.Texts.{fraction}
use Rattle.print_values.proofs.Fractions.{last_digit, digit_more, no_digit, left_over}
use Rattle.print_values.proofs.points.push_fraction.Goals as goal

pub returns-then-rest-scale : goal.returns-then-rest-scale
returns-then-rest-scale c =
    c.in_ok-push.ensures.items
    ∙ last_digit c.loop.text.items (c.args.text.now.items ++ fraction c.args.part) c.loop.counter c.loop.rest c.loop.scale c.nearest-near.result c.loop-test.true c.nearest-near.ensures.value c.loop.invariant.text c.if-rest-scale.true

pub loop-preserved : goal.loop-preserved
loop-preserved c = record {
  text = rw c.in_ok-push.ensures.items (digit_more c.loop.text.items (c.args.text.now.items ++ fraction c.args.part) c.loop.counter c.loop.rest c.loop.scale c.nearest-near.result c.loop-test.true c.nearest-near.ensures.value c.loop.invariant.text c.if-rest-scale.false);
  near = let m = left_over c.nearest-near.result in omega (arith, m);
  left = λ _. c.if-rest-scale.false;
  scale = omega (arith, c.loop.invariant.scale);
}

pub returns : goal.returns
returns c = no_digit c.loop.text.items (c.args.text.now.items ++ fraction c.args.part) c.loop.counter c.loop.rest c.loop.scale c.loop-test.false c.loop.invariant.text
