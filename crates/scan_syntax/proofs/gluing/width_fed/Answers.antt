use Rattle.std.proofs.Common.{true, false, [], ◌∷◌}
use Rattle.scan_syntax.specs.declared.gluing.Gluing.TheVariants as gluings
use Rattle.scan_numbers.specs.Tokens.{fed}
use Rattle.scan_syntax.specs.Gluing.{glue_left, then_stretch}
use Rattle.scan_syntax.proofs.Stretches.{width_on, width_done, width_fault, glue_same}
use Rattle.scan_syntax.proofs.gluing.width_fed.Goals as goal

pub returns-in-Ok-Further : goal.returns-in-Ok-Further
returns-in-Ok-Further c = λ before follows.
    let step = rw (c.in-Ok-Further.is, c.in-Ok-Further.field-0-is) at follows in
    λ rest. width_on before _ _ rest (step rest)

pub returns-in-Ok-Done-default-true : goal.returns-in-Ok-Done-default-true
returns-in-Ok-Done-default-true c = λ before follows.
    let step = rw (c.in-Ok-Done-default-true.is, c.in-Ok-Done-default-true.field-0-is, c.in-Ok-Done-default-true.field-0-1-test) at follows in
    λ rest. width_done before c.in-Ok-Done-default-true.width _ true _ rest (step rest) c.new.ensures

pub returns-in-Ok-Done-default-false : goal.returns-in-Ok-Done-default-false
returns-in-Ok-Done-default-false c = λ before follows.
    let x = fed c.args.token.now c.args.context.now in
    let step = rw (c.in-Ok-Done-default-false.is, c.in-Ok-Done-default-false.field-0-is, c.in-Ok-Done-default-false.field-0-1-test) at follows in
    glue_same glue_left c.args.context.now (x ∷ []) (x ∷ []) (glue_left (gluings.Plus c.in-Ok-Done-default-false.width.size c.new-keyword.result)) (then_stretch before) c.in_plus.result
    (λ rest. width_done before c.in-Ok-Done-default-false.width _ false _ rest (step rest) c.new-keyword.ensures) c.in_plus.ensures

pub returns-in-Err : goal.returns-in-Err
returns-in-Err c = λ before follows.
    let step = rw c.in-Err.is at follows in
    width_fault before (fed c.args.token.now c.args.context.now) c.args.context.now c.in-Err.fault step
