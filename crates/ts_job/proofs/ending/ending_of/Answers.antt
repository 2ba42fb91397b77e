use Rattle.ts_job.specs.Promise.{pages_meant, outcome_meant}
use Rattle.std.proofs.Common.{sym, ap}
use Rattle.ts_job.specs.Promise.{outcome_asked}
use Rattle.ts_job.proofs.ending.ending_of.Goals as goal

pub returns-in-Ok-Some-clause-exact : goal.returns-in-Ok-Some-clause-exact
unfolding pages_meant outcome_meant
returns-in-Ok-Some-clause-exact g c = λ held told. rw (← (rw (c.in-Ok-Some.field-0-is, c.deref.ensures.value) at c.in-Ok-Some.ensures)) (c.ending_asked.ensures.exact held told)

pub returns-in-Ok-None-clause-exact : goal.returns-in-Ok-None-clause-exact
unfolding outcome_meant
returns-in-Ok-None-clause-exact g c = λ held told. ap (outcome_asked held) (sym (rw (c.in-Ok-None.field-0-is, c.deref.ensures.value) at c.in-Ok-None.ensures))
