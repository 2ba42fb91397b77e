use Rattle.std.proofs.Common.{◌∙◌, w64}
use Rattle.std.proofs.lemmas.Int.{to_z-of_z}
use Rattle.scan_numbers.specs.Tokens.{fed}
use Rattle.scan_syntax.proofs.States.{dimen_done, dimen_fault}
use Rattle.scan_syntax.proofs.state.dimen_fed.Goals as goal

pub returns-in-Ok : goal.returns-in-Ok
returns-in-Ok c =
    let step = rw c.in-Ok-Done.field-0-is at c.in-Ok-Done.ensures in
    let value = to_z-of_z w64 c.value.result (record { sfits = c.value.type_inv }) ∙ c.value.ensures.value in
    λ rest. rw value (dimen_done _ _ _ _ _ _ rest (step rest) c.in-Ok.ensures)

pub returns-in-Err : goal.returns-in-Err
returns-in-Err c = dimen_fault c.args.dimen (fed c.args.token.now c.args.context.now) c.in-Err.fault c.in-Err.ensures
