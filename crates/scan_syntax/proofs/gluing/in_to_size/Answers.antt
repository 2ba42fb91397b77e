use Rattle.std.proofs.Common.{◌∙◌, w64}
use Rattle.std.proofs.lemmas.Int.{to_z-of_z}
use Rattle.scan_syntax.specs.declared.gluing.Gluing.TheVariants as gluings
use Rattle.scan_numbers.specs.Tokens.{fed}
use Rattle.scan_syntax.proofs.Stretches.{to_size_on, to_size_done, to_size_bad, dimen_glue_fault}
use Rattle.scan_syntax.proofs.gluing.in_to_size.Goals as goal

pub returns-in-Ok-Further : goal.returns-in-Ok-Further
returns-in-Ok-Further c =
    let step = rw c.in-Ok-Further.field-0-is at c.in-Ok-Further.ensures in
    λ rest. to_size_on _ _ _ rest (step rest)

pub returns-in-Ok : goal.returns-in-Ok
returns-in-Ok c =
    let step = rw c.in-Ok-Done.field-0-is at c.in-Ok-Done.ensures in
    let value = to_z-of_z w64 c.value.result (record { sfits = c.value.type_inv }) ∙ c.value.ensures.value in
    λ rest. rw value (to_size_done _ _ _ _ _ _ rest (step rest) c.in-Ok.ensures)

pub returns-in-Err : goal.returns-in-Err
returns-in-Err c = dimen_glue_fault (gluings.ToSize c.args.dimen) c.args.dimen (fed c.args.token.now c.args.context.now) c.args.context.now c.in-Err.fault (λ kind rest is. to_size_bad _ kind _ rest is) c.in-Err.ensures
