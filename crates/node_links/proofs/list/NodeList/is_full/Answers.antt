use Rattle.std.proofs.Common.{◌≡◌, length, nat_le, ap, arith}
use Rattle.node_links.specs.Chains.{chain, items_at}
use Rattle.node_links.proofs.Linking.{length-items_at}
use Rattle.node_links.proofs.list.NodeList.is_full.Goals as goal

pub returns : goal.returns
returns c =
    let nodes = c.self.inside.nodes.items in
    let many : c.len.result ≡ length (items_at nodes (chain nodes)) = omega (arith, c.len.ensures, c.self.invariant.whole, length-items_at nodes _ _ c.self.invariant.follows) in
    rw (← c.self.view_is) (ap (nat_le 200000) many)
