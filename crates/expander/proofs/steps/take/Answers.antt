use Rattle.mouth.specs.Keeping.{place_in}
use Rattle.expander.proofs.Exits.{mouth_refuses}
use Rattle.expander.proofs.steps.take.Goals as goal

pub returns-in_err-next-clause-exact : goal.returns-in_err-next-clause-exact
returns-in_err-next-clause-exact g c = λ told.
    mouth_refuses _ (place_in c.next.new.self) c.from_residual.result c.in_err-next.field-0.0 _ c.from_residual.ensures (c.in_err-next.ensures.exact told)
