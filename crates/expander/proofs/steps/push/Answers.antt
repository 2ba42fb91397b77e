use Rattle.mouth.specs.Keeping.{reading, place_in}
use Rattle.expander.proofs.Exits.{mouth_refuses}
use Rattle.expander.proofs.Texts.{list_adds}
use Rattle.expander.proofs.steps.push.Goals as goal

pub returns-in_err-push_list-clause-exact : goal.returns-in_err-push_list-clause-exact
returns-in_err-push_list-clause-exact c = λ state.
    mouth_refuses _ (place_in c.push_list.new.self) c.from_residual.result c.in_err-push_list.field-0.0 _ c.from_residual.ensures (c.in_err-push_list.ensures.exact state)

pub returns-clause-grows : goal.returns-clause-grows
returns-clause-grows c = λ state. list_adds c.args.list.now (reading c.args.mouth.now state) (reading c.push_list.new.self state) (c.in_ok-push_list.ensures.exact state)
