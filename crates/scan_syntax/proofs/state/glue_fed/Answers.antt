use Rattle.scan_numbers.specs.Tokens.{fed}
use Rattle.scan_syntax.proofs.States.{glue_further, glue_form, glue_done, glue_fault}
use Rattle.scan_syntax.proofs.state.glue_fed.Goals as goal

pub returns-in-Ok-On : goal.returns-in-Ok-On
returns-in-Ok-On c =
    let step = rw c.in-Ok-On.field-0-is at c.in-Ok-On.ensures in
    ((λ rest. glue_further c.args.glue c.in-Ok-On.glue _ rest (step rest)), glue_form c.in-Ok-On.glue c.is_raw-raw.result c.is_raw-raw.ensures)

pub returns-in-Ok-Done : goal.returns-in-Ok-Done
returns-in-Ok-Done c =
    let step = rw c.in-Ok-Done.field-0-is at c.in-Ok-Done.ensures in
    λ rest. glue_done c.args.glue _ _ _ rest (step rest)

pub returns-in-Err : goal.returns-in-Err
returns-in-Err c = glue_fault c.args.glue (fed c.args.token.now c.args.context.now) c.in-Err.fault c.in-Err.ensures
