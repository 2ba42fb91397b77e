use Rattle.std.proofs.Common.{ap, Ok}
use Rattle.env_groups.proofs.Rows.{meanings, set_at}
use Rattle.env_groups.proofs.Whole.{whole_meanings}
use Rattle.env_groups.proofs.env.Env.set_meaning.Goals as goal

pub invariant_of-self-2 : goal.invariant_of-self-2
invariant_of-self-2 c =
    whole_meanings c.self.inside _ c.args.value c.args.global _ c.in_ok-set.ensures.ok (rw (← c.self.view_is) at c.requires) c.self.invariant

pub returns-clause-exact : goal.returns-clause-exact
returns-clause-exact c =
    rw (← c.self.view_is)
    (ap Ok (set_at meanings c.self.inside _ c.args.value c.args.global _ c.in_ok-set.ensures.ok c.self.invariant.tall.meanings))
