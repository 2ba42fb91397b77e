use Rattle.std.proofs.Common.{refl}
use Rattle.scan_numbers.specs.Machines.{same, value_of, constant_left, integer_left}
use Rattle.scan_numbers.proofs.Follows.{bad_passes}
use Rattle.scan_numbers.proofs.Integers.{constant_further, constant_done, constant_bad_register, constant_bad}
use Rattle.scan_numbers.proofs.integer.Integer.fed.Goals as goal

pub returns-in-Ok-Further : goal.returns-in-Ok-Further
returns-in-Ok-Further c =
    let h = rw c.in-Ok-Further.field-0-is at c.in-Ok-Further.ensures.follows in
    λ rest. constant_further c.args.self _ _ _ _ rest (h rest) refl

pub returns-in-Ok : goal.returns-in-Ok
returns-in-Ok c =
    let h = rw c.in-Ok-Done.field-0-is at c.in-Ok-Done.ensures.follows in
    let k = rw c.positive.ensures at c.in-Ok.ensures in
    λ rest. constant_done c.args.self _ _ _ _ _ rest (h rest) k

pub returns-in-Err-close : goal.returns-in-Err-close
returns-in-Err-close c =
    let h = rw c.in-Ok-Done.field-0-is at c.in-Ok-Done.ensures.follows in
    let k = rw c.positive.ensures at c.in-Err-close.ensures in
    λ rest. constant_bad_register c.args.self _ _ _ _ _ rest (h rest) k

pub returns-in-Err : goal.returns-in-Err
returns-in-Err c = bad_passes same value_of constant_left integer_left _ (constant_left c.args.constant) (integer_left _) _ (λ kind rest is. constant_bad c.args.self _ _ _ rest is) c.in-Err.ensures.follows
