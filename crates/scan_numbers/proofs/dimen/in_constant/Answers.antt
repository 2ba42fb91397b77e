use Rattle.std.proofs.Common.{true, false}
use Rattle.scan_numbers.specs.declared.dimen.Piece.TheVariants as pieces
use Rattle.scan_numbers.specs.Tokens.{fed}
use Rattle.scan_numbers.specs.Machines.{at, amount_of, dimen_left, constant_left, same}
use Rattle.scan_numbers.proofs.Follows.{same_follows, bad_passes}
use Rattle.scan_numbers.proofs.Dimensions.{constant_further, constant_done, constant_bad}
use Rattle.scan_numbers.proofs.dimen.in_constant.Goals as goal

pub returns-in-Ok-Further : goal.returns-in-Ok-Further
returns-in-Ok-Further c =
    let step = rw c.in-Ok-Further.field-0-is at c.in-Ok-Further.ensures.follows in
    λ rest. constant_further _ _ _ _ rest (step rest)

pub returns-in-Ok-Done-default-true : goal.returns-in-Ok-Done-default-true
returns-in-Ok-Done-default-true c =
    let step = rw c.in-Ok-Done-default-true.field-0-is at c.in-Ok-Done-default-true.ensures.follows in
    λ rest. rw c.whole.ensures (constant_done _ _ _ true _ rest (rw c.in-Ok-Done-default-true.field-0-1-test at (step rest)))

pub returns-in-Ok-Done-default-false : goal.returns-in-Ok-Done-default-false
returns-in-Ok-Done-default-false c =
    let step = rw c.in-Ok-Done-default-false.field-0-is at c.in-Ok-Done-default-false.ensures.follows in
    same_follows amount_of dimen_left (fed c.args.token.now c.args.context.now) (dimen_left (at c.args.manner (pieces.Unit c.whole-in-Ok-Done-default-false.result))) (dimen_left (at c.args.manner (pieces.Constant c.args.constant))) c.in_unit.result
    (λ rest. rw c.whole-in-Ok-Done-default-false.ensures (constant_done _ _ _ false _ rest (rw c.in-Ok-Done-default-false.field-0-1-test at (step rest))))
    c.in_unit.ensures

pub returns-in-Err : goal.returns-in-Err
returns-in-Err c = bad_passes same amount_of constant_left dimen_left (fed c.args.token.now c.args.context.now) (constant_left c.args.constant) (dimen_left (at c.args.manner (pieces.Constant c.args.constant))) c.in-Err.fault
    (λ kind rest is. constant_bad _ _ _ _ rest is) c.in-Err.ensures.follows
