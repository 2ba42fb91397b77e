use Rattle.std.proofs.Common.{w64}
use Rattle.std.proofs.lemmas.Int.{to_z-of_z}
use Rattle.node_links.proofs.Linking.{within_at}
use Rattle.node_links.proofs.Valuing.{same_chain, chain_valued, still_linked}
use Rattle.node_links.proofs.list.NodeList.set_penalty.Goals as goal

pub set_value-requires : goal.set_value-requires
set_value-requires c =
    let here = rw (← c.self.view_is) at c.requires.1 in
    within_at c.self.inside.nodes.items _ _ c.requires.0 c.args.at c.self.invariant.follows here.0

pub invariant_of-self : goal.invariant_of-self
invariant_of-self c =
    rw (c.set_value.ensures.nodes, to_z-of_z w64 c.args.value c.ranges.value) (still_linked c.args.value c.self.inside.nodes.items c.args.at c.self.inside.last c.self.invariant)

pub returns-clause-items : goal.returns-clause-items
returns-clause-items c = λ place is.
    let here = rw (← c.self.view_is) at is in
    rw (← c.self.view_is, c.set_value.ensures.nodes, to_z-of_z w64 c.args.value c.ranges.value) (chain_valued c.args.value c.self.inside.nodes.items c.args.at c.self.inside.last c.self.invariant place here)

pub returns-clause-numbers : goal.returns-clause-numbers
returns-clause-numbers c =
    rw (← c.self.view_is, c.set_value.ensures.nodes, to_z-of_z w64 c.args.value c.ranges.value) (same_chain c.args.value c.self.inside.nodes.items c.args.at c.self.inside.last c.self.invariant)
