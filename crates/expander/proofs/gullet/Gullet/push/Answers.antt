use Rattle.mouth.specs.Reading.{mouth_cause}
use Rattle.mouth.specs.Keeping.{place_in}
use Rattle.expander.specs.GulletFaults.{of_mouth_fault}
use Rattle.expander.proofs.Gullets.{mouth_same, refuses_as}
use Rattle.expander.proofs.gullet.Gullet.push.Goals as goal

pub returns-in_err-push_list-clause-exact : goal.returns-in_err-push_list-clause-exact
returns-in_err-push_list-clause-exact c =
    rw (← c.self.view_is) (λ state. refuses_as of_mouth_fault mouth_cause mouth_same _ (place_in c.push_list.new.self) c.from_residual.result c.in_err-push_list.field-0.0 _
    c.from_residual.ensures (c.in_err-push_list.ensures.exact state))
