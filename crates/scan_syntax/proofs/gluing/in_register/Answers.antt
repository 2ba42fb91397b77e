use Rattle.std.proofs.Common.{[], ◌∷◌}
use Rattle.scan_syntax.specs.declared.gluing.Gluing.TheVariants as gluings
use Rattle.scan_numbers.specs.Tokens.{fed}
use Rattle.scan_syntax.specs.Gluing.{glue_left, quantity_glue_left}
use Rattle.scan_syntax.proofs.Stretches.{register_on, register_done, register_range, register_fault, glue_same}
use Rattle.scan_syntax.proofs.gluing.in_register.Goals as goal

pub returns-in-Ok-Further : goal.returns-in-Ok-Further
returns-in-Ok-Further c =
    let step = rw c.in-Ok-Further.field-0-is at c.in-Ok-Further.ensures in
    λ rest. register_on _ _ _ _ _ rest (step rest)

pub returns-in-Ok : goal.returns-in-Ok
returns-in-Ok c =
    let x = fed c.args.token.now c.args.context.now in
    let step = rw c.in-Ok-Done.field-0-is at c.in-Ok-Done.ensures in
    glue_same glue_left c.args.context.now (x ∷ []) (x ∷ []) (quantity_glue_left c.args.negative c.in-Ok.quantity c.args.context.now c.in-Ok-Done.taken) (glue_left (gluings.Register c.args.negative c.args.register c.args.number)) c.in_quantity.result
    (λ rest. register_done _ _ _ _ _ _ _ _ rest (step rest) c.in-Ok.ensures.value) c.in_quantity.ensures

pub returns-in-Err-read : goal.returns-in-Err-read
returns-in-Err-read c =
    let step = rw c.in-Ok-Done.field-0-is at c.in-Ok-Done.ensures in
    λ rest. register_range _ _ _ _ _ _ _ _ rest (step rest) c.in-Err-read.ensures.value

pub returns-in-Err : goal.returns-in-Err
returns-in-Err c = register_fault c.args.negative c.args.register c.args.number (fed c.args.token.now c.args.context.now) c.args.context.now c.in-Err.fault c.in-Err.ensures
