use Rattle.std.proofs.Common.{arith}
use Rattle.node_links.proofs.Nodes.{node_is}
use Rattle.node_links.proofs.Linking.{within_at, item_is}
use Rattle.node_links.proofs.list.NodeList.item.Goals as goal

pub index-requires : goal.index-requires
index-requires c =
    let here = rw (← c.self.view_is) at c.requires.1 in
    omega (arith, within_at c.self.inside.nodes.items _ _ c.requires.0 c.args.at c.self.invariant.follows here)

pub returns : goal.returns
returns c = λ place is.
    let here = rw (← c.self.view_is) at is in
    let nodes = c.self.inside.nodes.items in
    let within = within_at nodes _ _ place c.args.at c.self.invariant.follows here in
    rw (← c.self.view_is) (item_is nodes _ _ place c.args.at c.index.result.now c.self.invariant.follows here (node_is nodes c.args.at.0 c.index.result.now within c.index.ensures))
