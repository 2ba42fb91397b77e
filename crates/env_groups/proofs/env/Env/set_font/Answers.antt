use Rattle.std.proofs.Common.{ap, Ok}
use Rattle.env_groups.proofs.Rows.{selected, set_at}
use Rattle.env_groups.proofs.Whole.{whole_selected}
use Rattle.env_groups.proofs.env.Env.set_font.Goals as goal

pub invariant_of-self-2 : goal.invariant_of-self-2
invariant_of-self-2 c =
    whole_selected c.self.inside _ c.args.value c.args.global _ c.in_ok-set.ensures.ok (rw (← c.self.view_is) at c.requires) c.self.invariant

pub returns-clause-exact : goal.returns-clause-exact
returns-clause-exact c =
    let is = rw c.place_of.ensures at c.in_ok-set.ensures.ok in
    rw (← c.self.view_is) (ap Ok (set_at selected c.self.inside _ c.args.value c.args.global _ is c.self.invariant.tall.selected))
