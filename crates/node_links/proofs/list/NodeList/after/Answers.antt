use Rattle.std.proofs.Common.{◌≡◌, ℕ, ◌+◌, suc, ap, sym, ◌∙◌, arith}
use Rattle.node_links.specs.Chains.{next_in, next_of}
use Rattle.node_links.proofs.Nodes.{node_is}
use Rattle.node_links.proofs.Linking.{within_at, next_is}
use Rattle.node_links.proofs.list.NodeList.after.Goals as goal

pub index-requires : goal.index-requires
index-requires c =
    let here = rw (← c.self.view_is) at c.requires.1 in
    omega (arith, within_at c.self.inside.nodes.items _ _ c.requires.0 c.args.at c.self.invariant.follows here)

one_more : (place : ℕ) → place + 1 ≡ suc place
one_more place = omega arith

pub returns : goal.returns
returns c = λ place is.
    let here = rw (← c.self.view_is) at is in
    let nodes = c.self.inside.nodes.items in
    let within = within_at nodes _ _ place c.args.at c.self.invariant.follows here in
    let found : next_of nodes c.args.at ≡ c.index.result.now.next = ap next_in (node_is nodes c.args.at.0 c.index.result.now within c.index.ensures) in
    rw (one_more place, ← c.self.view_is) (sym found ∙ next_is nodes _ _ place c.args.at c.self.invariant.follows here)
