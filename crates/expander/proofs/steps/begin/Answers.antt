use Rattle.mouth.specs.Keeping.{place_in}
use Rattle.expander.proofs.Exits.{mouth_refuses}
use Rattle.expander.proofs.steps.begin.Goals as goal

pub returns-in_err-begin-clause-exact : goal.returns-in_err-begin-clause-exact
returns-in_err-begin-clause-exact c = λ state.
    mouth_refuses _ (place_in c.begin.new.self) c.from_residual.result c.in_err-begin.field-0.0 _ c.from_residual.ensures (c.in_err-begin.ensures.exact state)
