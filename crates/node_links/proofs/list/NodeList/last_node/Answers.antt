use Rattle.std.proofs.Common.{◌<◌, length, arith, sym}
use Rattle.std.proofs.lemmas.Bool.Decides.{nat_tests}
use Rattle.node_links.specs.Chains.{chain}
use Rattle.node_links.proofs.Linking.{last_place, length-items_at}
use Rattle.node_links.proofs.list.NodeList.last_node.Goals as goal

pub returns-clause-many : goal.returns-clause-many
returns-clause-many c = rw (← c.self.view_is) (sym (length-items_at c.self.inside.nodes.items _ _ c.self.invariant.follows))

pub returns-clause-last : goal.returns-clause-last
returns-clause-last c =
    let some : 0 < length (chain c.self.inside.nodes.items) = grind (arith, nat_tests, c.self.invariant.whole) in
    rw (← c.self.view_is) (last_place c.self.inside.nodes.items _ _ c.self.inside.last c.self.invariant.follows c.self.invariant.ends some)
