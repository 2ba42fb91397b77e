use Rattle.tfm_load.proofs.Near.{pair_near, measures_near}
use Rattle.tfm_load.proofs.laws.a_metric_stays_near.Goals as goal

pub returns-clause-pair : goal.returns-clause-pair
returns-clause-pair c = λ m left right h. pair_near m left right h

pub returns-clause-measures : goal.returns-clause-measures
returns-clause-measures c = λ m code z h. measures_near m code z h
