use Rattle.line_break.proofs.Ends.{both_near}
use Rattle.line_break.proofs.passes.background.Goals as goal

pub sum-requires-clause-a_near : goal.sum-requires-clause-a_near
sum-requires-clause-a_near c = both_near c.args.shape.now.left c.args.shape.now.right c.skips-skips.result c.requires.shape_sound.left c.requires.shape_sound.right c.skips-skips.ensures
