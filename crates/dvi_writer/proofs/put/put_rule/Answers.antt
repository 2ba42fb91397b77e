use Rattle.std.proofs.Common.{arith}
use Rattle.std.proofs.lemmas.Int.{ints}
use Rattle.dvi_writer.proofs.Puts.{wrote_rule}
use Rattle.dvi_writer.proofs.put.put_rule.Goals as goal

pub returns : goal.returns
returns c =
    wrote_rule _ _ _ _ _ _ c.in_ok-push.ensures.items c.in_ok-put_long.ensures c.in_ok-put_long-2.ensures (omega (arith, ints, c.requires.height_fits)) (omega (arith, ints, c.requires.width_fits))
