use Rattle.mouth.specs.Keeping.{place_in}
use Rattle.assignments.specs.Reads.{next_token}
use Rattle.assignments.proofs.Refusals.{gullet_refuses, gullet_counts}
use Rattle.assignments.proofs.reads.take_next.Goals as goal

pub returns-in_err-next-clause-exact : goal.returns-in_err-next-clause-exact
unfolding next_token
returns-in_err-next-clause-exact g c = λ told.
    gullet_refuses _ (place_in c.next.new.self) c.from_residual.result c.in_err-next.field-0.0 _ c.from_residual.ensures (c.in_err-next.ensures.exact told)

pub returns-in_err-next-clause-counted : goal.returns-in_err-next-clause-counted
returns-in_err-next-clause-counted g c = gullet_counts c.from_residual.result c.in_err-next.field-0.0 _ _ c.from_residual.ensures c.in_err-next.ensures.counted
