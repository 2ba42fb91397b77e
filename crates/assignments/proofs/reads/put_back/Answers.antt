use Rattle.mouth.specs.Keeping.{place_in}
use Rattle.assignments.specs.Reads.{put_back}
use Rattle.assignments.proofs.Refusals.{gullet_refuses_first}
use Rattle.assignments.proofs.reads.put_back.Goals as goal

pub returns-in_err-push-clause-exact : goal.returns-in_err-push-clause-exact
unfolding put_back
returns-in_err-push-clause-exact c = λ state nest.
    gullet_refuses_first _ (place_in c.push.new.self) c.from_residual-in_err-push.result c.in_err-push.field-0.0 _ _ c.from_residual-in_err-push.ensures
    (rw c.in_ok-list.ensures at (c.in_err-push.ensures.exact state))
