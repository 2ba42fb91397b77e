use Rattle.std.proofs.Common.{Ok, refl}
use Rattle.ts_base.proofs.Composing.{first_refuses}
use Rattle.mouth.specs.Reading.{at_place}
use Rattle.mouth.specs.Keeping.{reading, place_in}
use Rattle.expander.specs.Faults.{step_cause}
use Rattle.expander.specs.Worlds.{world, put}
use Rattle.expander.proofs.Exits.{step_refuses}
use Rattle.expander.proofs.scans.give_back.Goals as goal

pub returns-in_err-put_list-clause-exact : goal.returns-in_err-put_list-clause-exact
returns-in_err-put_list-clause-exact c = λ state nest.
    let e = c.in_err-put_list.field-0.0 in
    let place = place_in c.put_list.new.mouth in
    step_refuses _ place c.from_residual.result e _ _ c.from_residual.ensures refl
    (first_refuses (step_cause e) (at_place place e) (put c.args.tokens.now (reading c.args.mouth.now state)) (λ at. Ok (c.args.value, world at nest)) (c.in_err-put_list.ensures.exact state))
