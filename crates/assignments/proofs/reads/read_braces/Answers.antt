use Rattle.mouth.specs.Keeping.{place_in}
use Rattle.assignments.specs.Reads.{braces_read}
use Rattle.assignments.proofs.Refusals.{gullet_refuses_first, gullet_counts}
use Rattle.assignments.proofs.reads.read_braces.Goals as goal

pub returns-in_err-balanced-clause-exact : goal.returns-in_err-balanced-clause-exact
unfolding braces_read
returns-in_err-balanced-clause-exact g c = λ told.
    gullet_refuses_first _ (place_in c.balanced.new.self) c.from_residual.result c.in_err-balanced.field-0.0 _ _ c.from_residual.ensures (c.in_err-balanced.ensures.exact told)

pub returns-in_err-balanced-clause-counted : goal.returns-in_err-balanced-clause-counted
returns-in_err-balanced-clause-counted g c = gullet_counts c.from_residual.result c.in_err-balanced.field-0.0 _ _ c.from_residual.ensures c.in_err-balanced.ensures.counted
