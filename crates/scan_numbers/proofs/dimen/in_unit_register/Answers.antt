use Rattle.scan_numbers.specs.declared.dimen.Piece.TheVariants as pieces
use Rattle.scan_numbers.specs.Tokens.{fed}
use Rattle.scan_numbers.specs.Machines.{at, value_of, amount_of, dimen_left, integer_left}
use Rattle.scan_numbers.proofs.Follows.{bad_passes}
use Rattle.scan_numbers.proofs.Dimensions.{unit_register_further, unit_register_done, unit_register_dimen_range, unit_register_range, unit_register_bad}
use Rattle.scan_numbers.proofs.dimen.in_unit_register.Goals as goal

pub returns-in-Ok-Further : goal.returns-in-Ok-Further
returns-in-Ok-Further c =
    let step = rw c.in-Ok-Further.field-0-is at c.in-Ok-Further.ensures in
    λ rest. unit_register_further _ _ _ _ _ _ rest (step rest)

pub returns-in-Ok-finish : goal.returns-in-Ok-finish
returns-in-Ok-finish c =
    let step = rw c.in-Ok-Done.field-0-is at c.in-Ok-Done.ensures in
    let done = rw c.times_quantity.ensures at (c.in-Ok-finish.ensures c.args.context.now) in
    λ rest. unit_register_done _ _ _ _ _ _ _ _ _ _ rest (step rest) c.in-Ok.ensures.value done

pub returns-in-Err-finish : goal.returns-in-Err-finish
returns-in-Err-finish c =
    let step = rw c.in-Ok-Done.field-0-is at c.in-Ok-Done.ensures in
    let done = rw c.times_quantity.ensures at (c.in-Err-finish.ensures c.args.context.now) in
    λ rest. unit_register_dimen_range _ _ _ _ _ _ _ _ _ _ rest (step rest) c.in-Ok.ensures.value done

pub returns-in-Err-read : goal.returns-in-Err-read
returns-in-Err-read c =
    let step = rw c.in-Ok-Done.field-0-is at c.in-Ok-Done.ensures in
    λ rest. unit_register_range _ _ _ _ _ _ _ _ _ rest (step rest) c.in-Err-read.ensures.value

pub returns-in-Err : goal.returns-in-Err
returns-in-Err c = bad_passes value_of amount_of integer_left dimen_left (fed c.args.token.now c.args.context.now) (integer_left c.args.number) (dimen_left (at c.args.manner (pieces.UnitRegister c.args.factor c.args.register c.args.number))) c.in-Err.fault
    (λ kind rest is. unit_register_bad _ _ _ _ _ _ rest is) c.in-Err.ensures
