use Rattle.std.proofs.Common.{arith}
use Rattle.std.proofs.lemmas.Int.{ints}
use Rattle.line_break.proofs.Weights.{long_is}
use Rattle.line_break.proofs.weight.weight_at.Goals as goal

pub returns-else-totals-hsize : goal.returns-else-totals-hsize
returns-else-totals-hsize c =
    long_is c.args.hsize.0 c.args.totals.now c.weight_long.result c.difference-else-totals-hsize.result (omega (arith, ints, c.if-totals-hsize.false)) c.difference-else-totals-hsize.ensures c.weight_long.ensures
