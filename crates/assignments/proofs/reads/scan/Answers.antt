use Rattle.mouth.specs.Keeping.{place_in}
use Rattle.assignments.specs.Reads.{scanned}
use Rattle.assignments.proofs.Refusals.{gullet_refuses, gullet_counts}
use Rattle.assignments.proofs.reads.scan.Goals as goal

pub returns-in_err-scan-clause-exact : goal.returns-in_err-scan-clause-exact
unfolding scanned
returns-in_err-scan-clause-exact g c = λ told.
    gullet_refuses _ (place_in c.scan.new.self) c.from_residual.result c.in_err-scan.field-0.0 _ c.from_residual.ensures (c.in_err-scan.ensures.exact told)

pub returns-in_err-scan-clause-counted : goal.returns-in_err-scan-clause-counted
returns-in_err-scan-clause-counted g c = gullet_counts c.from_residual.result c.in_err-scan.field-0.0 _ _ c.from_residual.ensures c.in_err-scan.ensures.counted
