use Rattle.std.proofs.Common.{refl}
use Rattle.mouth.specs.Keeping.{reading, place_in}
use Rattle.expander.specs.Faults.{step_cause}
use Rattle.expander.specs.Numbers.{shown}
use Rattle.expander.proofs.Exits.{step_refuses}
use Rattle.expander.proofs.Printing.{put_plain, shown_refused}
use Rattle.expander.proofs.numbers.put_shown.Goals as goal

pub push-requires-clause-no_param : goal.push-requires-clause-no_param
push-requires-clause-no_param c = (put_plain c.args.mouth.now.names c.args.printing c.args.value.now c.in_ok-list.list c.requires.listed c.in_ok-list.ensures.exact).0

pub push-requires-clause-held : goal.push-requires-clause-held
push-requires-clause-held c = (put_plain c.args.mouth.now.names c.args.printing c.args.value.now c.in_ok-list.list c.requires.listed c.in_ok-list.ensures.exact).1

pub returns-in_err-list-clause-exact : goal.returns-in_err-list-clause-exact
returns-in_err-list-clause-exact c = λ state.
    let e = c.in_err-list.field-0.0 in
    step_refuses _ (place_in c.args.mouth.now) c.from_residual.result e _ _ c.from_residual.ensures refl
    (shown_refused (step_cause e) e (shown c.args.printing c.args.value.now) (reading c.args.mouth.now state) c.in_err-list.ensures.exact)
