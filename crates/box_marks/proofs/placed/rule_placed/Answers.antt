use Rattle.std.proofs.Common.{arith}
use Rattle.std.proofs.lemmas.Int.{ints}
use Rattle.box_marks.proofs.Placing.{rule_sound}
use Rattle.box_marks.proofs.placed.rule_placed.Goals as goal

pub returns-clause-sound : goal.returns-clause-sound
returns-clause-sound c =
    rule_sound _ _ c.total_height-height.ensures (omega (arith, ints, c.if-height-le0.false)) (omega (arith, ints, c.if-size-le0.false)) c.requires.sound
