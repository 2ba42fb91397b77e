use Rattle.scan_numbers.specs.Tokens.{fed}
use Rattle.scan_syntax.proofs.MoreStates.{internal_form, internal_further, internal_done, internal_fault}
use Rattle.scan_syntax.proofs.state.internal_fed.Goals as goal

pub returns-in-Ok-Further : goal.returns-in-Ok-Further
returns-in-Ok-Further c =
    let step = rw c.in-Ok-Further.field-0-is at c.in-Ok-Further.ensures in
    ((λ rest. internal_further c.args.internal c.in-Ok-Further.internal _ rest (step rest)), internal_form c.in-Ok-Further.internal c.is_raw-raw.result c.is_raw-raw.ensures)

pub returns-in-Ok : goal.returns-in-Ok
returns-in-Ok c =
    let step = rw c.in-Ok-Done.field-0-is at c.in-Ok-Done.ensures in
    λ rest. internal_done c.args.internal _ _ _ _ _ rest (step rest) c.in-Ok.ensures

pub returns-in-Err : goal.returns-in-Err
returns-in-Err c = internal_fault c.args.internal (fed c.args.token.now c.args.context.now) c.in-Err.fault c.in-Err.ensures
