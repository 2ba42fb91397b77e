use Rattle.mouth.specs.Keeping.{place_in}
use Rattle.expander.proofs.Exits.{mouth_refuses}
use Rattle.expander.proofs.naming.intern.Goals as goal

pub returns-in_err-intern-clause-exact : goal.returns-in_err-intern-clause-exact
returns-in_err-intern-clause-exact c = λ state.
    mouth_refuses _ (place_in c.intern.new.self) c.from_residual.result c.in_err-intern.field-0.0 _ c.from_residual.ensures (c.in_err-intern.ensures.exact state)
