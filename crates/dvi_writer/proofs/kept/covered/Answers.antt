use Rattle.dvi_writer.proofs.Bounds.{high, wide}
use Rattle.dvi_writer.proofs.kept.covered.Goals as goal

pub returns-clause-high : goal.returns-clause-high
returns-clause-high c =
    let sound = rw c.get-node.ensures at c.requires in
    rw c.rect.ensures (high c.get-node.result.now.size c.get-node.result.now.dir sound.0)

pub returns-clause-wide : goal.returns-clause-wide
returns-clause-wide c =
    let sound = rw c.get-node.ensures at c.requires in
    rw c.rect.ensures (wide c.get-node.result.now.size c.get-node.result.now.dir sound.0)
