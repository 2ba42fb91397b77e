use Rattle.std.proofs.Common.{◌∙◌, w64}
use Rattle.std.proofs.lemmas.Int.{to_z-of_z}
use Rattle.scan_numbers.specs.Tokens.{fed}
use Rattle.scan_syntax.proofs.Stretches.{spread_size_on, spread_size_done, spread_size_fault}
use Rattle.scan_syntax.proofs.gluing.spread_size_fed.Goals as goal

pub returns-in-Ok-Further : goal.returns-in-Ok-Further
returns-in-Ok-Further c =
    let step = rw c.in-Ok-Further.field-0-is at c.in-Ok-Further.ensures in
    λ rest. spread_size_on _ _ _ rest (step rest)

pub returns-in-Ok : goal.returns-in-Ok
returns-in-Ok c =
    let step = rw c.in-Ok-Done.field-0-is at c.in-Ok-Done.ensures in
    let value = to_z-of_z w64 c.value.result (record { sfits = c.value.type_inv }) ∙ c.value.ensures.value in
    λ rest. rw value (spread_size_done _ _ _ _ _ _ rest (step rest) c.in-Ok.ensures)

pub returns-in-Err : goal.returns-in-Err
returns-in-Err c = spread_size_fault c.args.dimen (fed c.args.token.now c.args.context.now) c.args.context.now c.in-Err.fault c.in-Err.ensures
