use Rattle.env_groups.proofs.Rows.{boxes, set_by}
use Rattle.env_groups.proofs.env.Env.set_box.Goals as goal

pub returns-clause-exact : goal.returns-clause-exact
returns-clause-exact c =
    rw (← c.self.view_is)
    (set_by boxes c.self.inside _ c.args.value c.args.global _ _ c.in_ok-place.ensures c.in_ok-set.ensures.ok c.self.invariant.tall.boxes)
