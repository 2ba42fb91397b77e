use Rattle.std.proofs.Common.{◌≡◌, length, refl, ap, arith}
use Rattle.node_links.specs.Chains.{next_in, next_of}
use Rattle.node_links.proofs.Nodes.{node_is}
use Rattle.node_links.proofs.list.link.Goals as goal

pub returns-clause-nodes : goal.returns-clause-nodes
returns-clause-nodes c =
    let nodes = c.args.nodes.now.items in
    let size : c.len.result ≡ length nodes = omega (arith, c.len.ensures) in
    let next : next_of nodes c.args.at ≡ c.index.result.now.next = ap next_in (node_is nodes c.args.at.0 c.index.result.now c.requires.there c.index.ensures) in
    rw (c.push_reserved.ensures.items, c.set_next.ensures.nodes, size, next) refl
