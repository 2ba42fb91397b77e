use Rattle.std.proofs.Common.{◌≡◌, false}
use Rattle.macros.specs.Calls.{is_param}
use Rattle.macros.proofs.Pieces.{ahead_more}
use Rattle.macros.proofs.parts.next_param.Goals as goal

pub loop-at-preserved : goal.loop-at-preserved
loop-at-preserved c =
    let plain : is_param c.index-params-at.result ≡ false = cc in
    ahead_more c.args.params.now c.args.from c.loop-at.at c.index-params-at.result c.loop-at.invariant c.index-params-at.is c.loop-at-test.true plain
