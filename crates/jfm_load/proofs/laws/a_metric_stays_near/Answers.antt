use Rattle.jfm_load.proofs.Near.{between_near, measures_near}
use Rattle.jfm_load.proofs.laws.a_metric_stays_near.Goals as goal

pub returns-clause-between : goal.returns-clause-between
returns-clause-between c = λ m left right h. between_near m left right h

pub returns-clause-measures : goal.returns-clause-measures
returns-clause-measures c = λ m class z h. measures_near m class z h
