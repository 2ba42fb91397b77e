use Rattle.assignments.proofs.Fitting.{name_fits}
use Rattle.assignments.proofs.namings.given_meaning.Goals as goal

pub returns-in-Name-clause-fit : goal.returns-in-Name-clause-fit
returns-in-Name-clause-fit c = λ names fit is. rw c.get_meaning.ensures.value (name_fits names c.args.env.now _ fit)
