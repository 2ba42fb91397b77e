use Rattle.env_groups.proofs.Rows.{replaced_at}
use Rattle.env_groups.proofs.Whole.{whole_boxes}
use Rattle.env_groups.proofs.env.Env.replace_box.Goals as goal

pub invariant_of-self-2 : goal.invariant_of-self-2
invariant_of-self-2 c =
    whole_boxes c.self.inside _ c.args.value _ c.in_ok-replace.ensures.ok c.self.invariant

pub returns-clause-exact : goal.returns-clause-exact
returns-clause-exact c =
    rw (← c.self.view_is)
    (replaced_at c.self.inside _ c.args.value _ _ c.in_ok-place.ensures c.in_ok-replace.ensures.ok c.self.invariant.tall.boxes)
