use Rattle.input_codings.proofs.Blocks.{skipped, room_left}
use Rattle.input_codings.proofs.block.Block.skip.Goals as goal

pub returns : goal.returns
returns c =
    let few = rw (← c.self.view_is) at c.requires in
    rw (← c.self.view_is) (skipped c.self.inside.bytes.items c.self.inside.start c.args.n c.self.inside.end (room_left _ _ _ _ c.self.invariant.0 few))
