use Rattle.macros.proofs.Invariant.{search_more}
use Rattle.macros.specs.contracts.delimited.Delimited.{the_view}
use Rattle.macros.proofs.delimited.Delimited.put.Goals as goal

pub invariant_of-self-2 : goal.invariant_of-self-2
invariant_of-self-2 c =
    let inside = c.self.inside in
    let many = rw (← c.self.view_is) at c.requires.many in
    let par = rw (← c.self.view_is) at c.requires.par in
    rw c.in_ok-push.ensures.ok
    (search_more (the_view inside) inside.level inside.many c.args.token c.in_ok-level.level c.args.many c.self.invariant.0 c.in_ok-level.ensures many par, c.self.invariant.1)
