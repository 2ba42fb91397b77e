use Rattle.std.proofs.Common.{ap, Ok}
use Rattle.env_groups.proofs.Rows.{penalties, set_at}
use Rattle.env_groups.proofs.env.Env.set_penalty.Goals as goal

pub returns-clause-exact : goal.returns-clause-exact
returns-clause-exact c =
    let is = rw (c.char_place-place.ensures, c.new.ensures) at c.in_ok-set.ensures.ok in
    rw (← c.self.view_is) (ap Ok (set_at penalties c.self.inside _ c.args.penalty c.args.global _ is c.self.invariant.tall.penalties))
