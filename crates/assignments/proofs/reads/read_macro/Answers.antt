use Rattle.mouth.specs.Keeping.{place_in}
use Rattle.assignments.specs.Reads.{macro_read}
use Rattle.assignments.proofs.Refusals.{gullet_refuses, gullet_counts}
use Rattle.assignments.proofs.reads.read_macro.Goals as goal

pub returns-in_err-definition-clause-exact : goal.returns-in_err-definition-clause-exact
unfolding macro_read
returns-in_err-definition-clause-exact g c = λ told.
    gullet_refuses _ (place_in c.definition.new.self) c.from_residual.result c.in_err-definition.field-0.0 _ c.from_residual.ensures (c.in_err-definition.ensures.exact told)

pub returns-in_err-definition-clause-counted : goal.returns-in_err-definition-clause-counted
returns-in_err-definition-clause-counted g c = gullet_counts c.from_residual.result c.in_err-definition.field-0.0 _ _ c.from_residual.ensures c.in_err-definition.ensures.counted
