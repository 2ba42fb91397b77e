use Rattle.scan_numbers.specs.Tokens.{fed}
use Rattle.scan_syntax.proofs.MoreStates.{naming_form, naming_further, naming_done, naming_fault}
use Rattle.scan_syntax.proofs.state.naming_fed.Goals as goal

pub returns-in-Ok-Further : goal.returns-in-Ok-Further
returns-in-Ok-Further c =
    let step = rw c.in-Ok-Further.field-0-is at c.in-Ok-Further.ensures in
    ((λ rest. naming_further c.args.naming c.in-Ok-Further.naming _ rest (step rest)), naming_form c.in-Ok-Further.naming)

pub returns-in-Ok : goal.returns-in-Ok
returns-in-Ok c =
    let step = rw c.in-Ok-Done.field-0-is at c.in-Ok-Done.ensures in
    λ rest. naming_done c.args.naming _ _ _ _ _ rest (step rest) c.in-Ok.ensures

pub returns-in-Err : goal.returns-in-Err
returns-in-Err c = naming_fault c.args.naming (fed c.args.token.now c.args.context.now) c.in-Err.fault c.in-Err.ensures
