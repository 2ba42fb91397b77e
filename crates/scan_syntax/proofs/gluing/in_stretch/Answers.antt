use Rattle.std.proofs.Common.{true, false, sym, ◌∙◌, [], ◌∷◌}
use Rattle.scan_syntax.specs.declared.gluing.Gluing.TheVariants as gluings
use Rattle.scan_syntax.specs.declared.gluing.Late.TheVariants as lates
use Rattle.scan_numbers.specs.Tokens.{fed}
use Rattle.scan_syntax.specs.Gluing.{late_left, glue_left}
use Rattle.scan_syntax.proofs.Stretches.{stretch_on, stretch_bad, stretch_done, late_is, glue_same, dimen_glue_fault}
use Rattle.scan_syntax.proofs.gluing.in_stretch.Goals as goal

pub returns-in-Ok-Further : goal.returns-in-Ok-Further
returns-in-Ok-Further c =
    let step = rw c.in-Ok-Further.field-0-is at c.in-Ok-Further.ensures in
    λ rest. stretch_on _ _ _ _ rest (step rest)

pub returns-then-taken : goal.returns-then-taken
returns-then-taken c =
    let step = rw (c.in-Ok-Done.field-0-is, c.if-taken.true) at c.in-Ok-Done.ensures in
    λ rest. stretch_done _ c.in-Ok-Done.stretch _ _ true _ rest (step rest) c.new.ensures ∙ sym (late_is _ rest)

pub returns-else-taken : goal.returns-else-taken
returns-else-taken c =
    let x = fed c.args.token.now c.args.context.now in
    let late = lates.Minus c.args.width c.in-Ok-Done.stretch c.new.result in
    let step = rw (c.in-Ok-Done.field-0-is, c.if-taken.false) at c.in-Ok-Done.ensures in
    glue_same glue_left c.args.context.now (x ∷ []) (x ∷ []) (late_left late) (glue_left (gluings.Stretch c.args.width c.args.dimen)) c.as_glue.result
    (λ rest. stretch_done _ c.in-Ok-Done.stretch _ _ false _ rest (step rest) c.new.ensures) (c.as_glue.ensures c.args.context.now (x ∷ []) (late_left late) c.late_fed.ensures)

pub returns-in-Err : goal.returns-in-Err
returns-in-Err c = dimen_glue_fault (gluings.Stretch c.args.width c.args.dimen) c.args.dimen (fed c.args.token.now c.args.context.now) c.args.context.now c.in-Err.fault (λ kind rest is. stretch_bad _ _ kind _ rest is) c.in-Err.ensures
