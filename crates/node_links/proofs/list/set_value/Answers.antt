use Rattle.std.proofs.Common.{w64}
use Rattle.std.proofs.lemmas.Int.{to_z-of_z}
use Rattle.node_links.proofs.Valuing.{value_is_set}
use Rattle.node_links.proofs.list.set_value.Goals as goal

pub returns-clause-nodes : goal.returns-clause-nodes
returns-clause-nodes c =
    rw (c.give_value.ensures, to_z-of_z w64 c.args.value c.ranges.value) (value_is_set c.args.value c.args.nodes.now.items c.args.at c.index_mut.result.now c.requires c.index_mut.ensures.value)
