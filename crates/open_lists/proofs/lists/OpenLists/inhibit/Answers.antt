use Rattle.std.proofs.Common.{reverse, refl}
use Rattle.open_lists.proofs.Lifting.{mark_lifts}
use Rattle.open_lists.proofs.lists.OpenLists.inhibit.Goals as goal

pub returns-clause-list : goal.returns-clause-list
returns-clause-list c entries stand =
    mark_lifts c.args.self.now c.self.inside.main c.in-Some.list c.inhibit.new.self (reverse c.self.inside.around.items) _ entries
    (rw (← c.self.view_is, c.in-Some.is) refl) stand c.inhibit.ensures.list c.inhibit.ensures.stands
