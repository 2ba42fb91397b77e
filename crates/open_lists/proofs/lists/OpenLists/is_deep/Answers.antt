use Rattle.std.proofs.Common.{◌≡◌, reverse, sym}
use Rattle.open_lists.proofs.Lifting.{deep_is}
use Rattle.open_lists.proofs.lists.OpenLists.is_deep.Goals as goal

pub returns-clause-lists : goal.returns-clause-lists
returns-clause-lists c entries =
    deep_is c.args.self.now c.self.inside.main c.self.inside.innermost (reverse c.self.inside.around.items) entries c.count.result
    (sym c.self.view_is) c.count.ensures c.self.invariant.none
