use Rattle.scan_numbers.specs.declared.dimen.Piece.TheVariants as pieces
use Rattle.scan_numbers.specs.Tokens.{fed}
use Rattle.scan_numbers.specs.Machines.{at, value_of, amount_of, dimen_left, quantity_left, integer_left}
use Rattle.scan_numbers.proofs.Follows.{same_follows, bad_passes}
use Rattle.scan_numbers.proofs.Dimensions.{register_further, register_done, register_range, register_bad}
use Rattle.scan_numbers.proofs.dimen.in_register.Goals as goal

pub returns-in-Ok-Further : goal.returns-in-Ok-Further
returns-in-Ok-Further c =
    let step = rw c.in-Ok-Further.field-0-is at c.in-Ok-Further.ensures in
    λ rest. register_further _ _ _ _ _ rest (step rest)

pub returns-in-Ok : goal.returns-in-Ok
returns-in-Ok c =
    let step = rw c.in-Ok-Done.field-0-is at c.in-Ok-Done.ensures in
    same_follows amount_of dimen_left (fed c.args.token.now c.args.context.now) (quantity_left c.args.manner c.in-Ok.quantity c.args.context.now c.in-Ok-Done.taken) (dimen_left (at c.args.manner (pieces.Register c.args.register c.args.number))) c.from_quantity.result
    (λ rest. register_done _ _ _ _ _ _ _ _ rest (step rest) c.in-Ok.ensures.value) c.from_quantity.ensures

pub returns-in-Err-read : goal.returns-in-Err-read
returns-in-Err-read c =
    let step = rw c.in-Ok-Done.field-0-is at c.in-Ok-Done.ensures in
    λ rest. register_range _ _ _ _ _ _ _ _ rest (step rest) c.in-Err-read.ensures.value

pub returns-in-Err : goal.returns-in-Err
returns-in-Err c = bad_passes value_of amount_of integer_left dimen_left (fed c.args.token.now c.args.context.now) (integer_left c.args.number) (dimen_left (at c.args.manner (pieces.Register c.args.register c.args.number))) c.in-Err.fault
    (λ kind rest is. register_bad _ _ _ _ _ rest is) c.in-Err.ensures
