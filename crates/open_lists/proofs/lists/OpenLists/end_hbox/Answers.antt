use Rattle.std.proofs.Common.{◌≡◌, reverse, Some, refl}
use Rattle.open_lists.proofs.Lifting.{rest_lifts}
use Rattle.open_lists.proofs.lists.OpenLists.end_hbox.Goals as goal

pub returns-clause-left : goal.returns-clause-left
returns-clause-left g c entries stand =
    let value = c.in-Some.ensures.value in
    let top : c.self.inside.innermost ≡ Some c.in-Some.list = cc in
    rest_lifts c.args.self.now _ c.self.inside.main c.in-Some.list (reverse c.self.inside.around.items) entries
    (rw (← c.self.view_is, top) refl) (rw c.pop_list.ensures.lists refl) stand
