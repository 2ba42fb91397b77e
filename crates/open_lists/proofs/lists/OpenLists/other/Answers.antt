use Rattle.std.proofs.Common.{reverse, Some, refl}
use Rattle.jlist_builder.specs.Entries.{Other}
use Rattle.open_lists.proofs.Lifting.{put_lifts}
use Rattle.open_lists.proofs.lists.OpenLists.other.Goals as goal

pub returns-clause-exact : goal.returns-clause-exact
returns-clause-exact g c entries stand =
    put_lifts c.args.self.now c.self.inside.main c.in-Some.list c.other.new.self (reverse c.self.inside.around.items)
    (λ dir. Some (Other c.args.item)) c.other.result entries
    (rw (← c.self.view_is, c.in-Some.is) refl) stand c.other.ensures.exact
