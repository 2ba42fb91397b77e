use Rattle.std.proofs.Common.{◌<◌, ◌≤◌, length, arith}
use Rattle.std.proofs.lemmas.Grind.{common_steps}
use Rattle.ts_geometry.proofs.Fractions.{half_units-drop}
use Rattle.ts_geometry.proofs.numbers.decimal.Goals as goal

pub loop-k-preserved : goal.loop-k-preserved
loop-k-preserved c =
    let above : 0 < c.loop-k.k = grind (arith, common_steps) in
    let few : c.loop-k.k ≤ 17 = grind (arith, common_steps) in
    let there : c.loop-k.k ≤ length c.args.digits.now = grind (arith, common_steps) in
    let step = half_units-drop c.args.digits.now c.loop-k.k above few there in
    (cc, c.half_units_before-half_units.ensures.below_one)
