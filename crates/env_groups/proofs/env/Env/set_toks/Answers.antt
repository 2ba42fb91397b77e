use Rattle.env_groups.proofs.Rows.{toks, set_by}
use Rattle.env_groups.proofs.env.Env.set_toks.Goals as goal

pub returns-clause-exact : goal.returns-clause-exact
returns-clause-exact c =
    let is = rw c.new.ensures at c.in_ok-set.ensures.ok in
    rw (← c.self.view_is) (set_by toks c.self.inside _ c.args.value c.args.global _ _ c.in_ok-place.ensures is c.self.invariant.tall.toks)
