use Rattle.line_break.proofs.Ends.{right_near}
use Rattle.line_break.proofs.passes.skips.Goals as goal

pub with_item-requires-clause-near : goal.with_item-requires-clause-near
with_item-requires-clause-near c =
    right_near c.args.shape.now.right c.skip.result c.none.result c.with_item-right.result c.requires.shape_sound.right c.skip.ensures c.none.ensures c.with_item-right.ensures
