use Rattle.std.proofs.Common.{arith}
use Rattle.node_links.proofs.Linking.{length-items_at}
use Rattle.node_links.proofs.list.NodeList.len.Goals as goal

pub returns : goal.returns
returns c =
    rw (← c.self.view_is) (omega (arith, c.len.ensures, c.self.invariant.whole, length-items_at c.self.inside.nodes.items _ _ c.self.invariant.follows))
