use Rattle.std.proofs.Common.{◌≡◌, ℕ, ◌+◌, suc, length, arith}
use Rattle.node_links.proofs.Linking.{within_at, chain_after, chain_items, linked_after}
use Rattle.node_links.proofs.Nodes.{length-put}
use Rattle.node_links.proofs.list.NodeList.put_after.Goals as goal

one_more : (place : ℕ) → place + 1 ≡ suc place
one_more place = omega arith

pub link-number-requires-clause-there : goal.link-number-requires-clause-there
link-number-requires-clause-there c =
    let here = rw (← c.self.view_is) at c.requires.here.1 in
    within_at c.self.inside.nodes.items _ _ c.requires.here.0 c.args.at c.self.invariant.follows here

pub returns-clause-items : goal.returns-clause-items
returns-clause-items c = λ place is.
    let here = rw (← c.self.view_is) at is in
    rw (one_more place, ← c.self.view_is, c.link-number.ensures.nodes) (chain_items c.self.inside.nodes.items c.args.at c.args.item c.self.inside.last place c.self.invariant here)

pub returns-clause-numbers : goal.returns-clause-numbers
returns-clause-numbers c = λ place is.
    let here = rw (← c.self.view_is) at is in
    rw (one_more place, ← c.self.view_is, c.link-number.ensures.nodes, c.link-number.ensures.number) (chain_after c.self.inside.nodes.items c.args.at c.args.item c.self.inside.last place c.self.invariant here)

pub invariant_of-self : goal.invariant_of-self
invariant_of-self c =
    let here = rw (← c.self.view_is) at c.requires.here.1 in
    rw (c.link-number.ensures.nodes, c.last_after-self-inside.ensures, c.link-number.ensures.number) (linked_after c.self.inside.nodes.items c.args.at c.args.item c.self.inside.last c.requires.here.0 c.self.invariant here)

pub returns-clause-room : goal.returns-clause-room
returns-clause-room c =
    let here = rw (← c.self.view_is) at c.requires.here.1 in
    let nodes = c.self.inside.nodes.items in
    let within = within_at nodes _ _ c.requires.here.0 c.args.at c.self.invariant.follows here in
    let more : length c.link-number.new.nodes.items ≡ length nodes + 1 = rw c.link-number.ensures.nodes (length-put nodes c.args.at c.args.item within) in
    let room = rw (← c.self.view_is) at c.requires.room in
    rw (← c.self.view_is, more, c.link-number.ensures.room) (omega (arith, room))
