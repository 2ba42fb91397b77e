use Rattle.node_links.proofs.Nodes.{next_is_set}
use Rattle.node_links.proofs.list.set_next.Goals as goal

pub returns-clause-nodes : goal.returns-clause-nodes
returns-clause-nodes c = next_is_set c.args.nodes.now.items c.args.at c.index_mut.result.now c.args.next c.requires c.index_mut.ensures.value
