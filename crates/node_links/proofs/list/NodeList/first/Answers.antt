use Rattle.std.proofs.Common.{sym}
use Rattle.node_links.proofs.Linking.{length-items_at}
use Rattle.node_links.proofs.list.NodeList.first.Goals as goal

pub returns-clause-many : goal.returns-clause-many
returns-clause-many c = rw (← c.self.view_is) (sym (length-items_at c.self.inside.nodes.items _ _ c.self.invariant.follows))
