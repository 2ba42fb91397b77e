use Rattle.mouth.specs.Keeping.{place_in}
use Rattle.assignments.specs.Reads.{raw_token}
use Rattle.assignments.proofs.Refusals.{gullet_refuses_first, gullet_counts}
use Rattle.assignments.proofs.reads.take_raw.Goals as goal

pub returns-in_err-raw-clause-exact : goal.returns-in_err-raw-clause-exact
unfolding raw_token
returns-in_err-raw-clause-exact g c = λ told.
    gullet_refuses_first _ (place_in c.raw.new.self) c.from_residual.result c.in_err-raw.field-0.0 _ _ c.from_residual.ensures (c.in_err-raw.ensures.exact told)

pub returns-in_err-raw-clause-counted : goal.returns-in_err-raw-clause-counted
returns-in_err-raw-clause-counted g c = gullet_counts c.from_residual.result c.in_err-raw.field-0.0 _ _ c.from_residual.ensures c.in_err-raw.ensures.counted
