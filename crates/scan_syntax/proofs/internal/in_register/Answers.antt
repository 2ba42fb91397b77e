use Rattle.scan_syntax.specs.declared.internal.Internal.TheVariants as internals
use Rattle.scan_numbers.specs.Tokens.{fed}
use Rattle.scan_numbers.specs.Machines.{value_of, integer_left}
use Rattle.scan_syntax.specs.Internalizing.{internal_left, found_value}
use Rattle.scan_numbers.proofs.Follows.{bad_passes}
use Rattle.scan_syntax.proofs.Internals.{register_on, register_done, register_range, register_bad}
use Rattle.scan_syntax.proofs.internal.in_register.Goals as goal

pub returns-in-Ok-Further : goal.returns-in-Ok-Further
returns-in-Ok-Further c =
    let step = rw c.in-Ok-Further.field-0-is at c.in-Ok-Further.ensures in
    λ rest. register_on _ _ _ _ rest (step rest)

pub returns-in-Ok : goal.returns-in-Ok
returns-in-Ok c =
    let step = rw c.in-Ok-Done.field-0-is at c.in-Ok-Done.ensures in
    λ rest. register_done _ _ _ _ _ _ _ _ rest (step rest) c.in-Ok.ensures.value c.quantity_value-value.ensures.value

pub returns-in-Err-read : goal.returns-in-Err-read
returns-in-Err-read c =
    let step = rw c.in-Ok-Done.field-0-is at c.in-Ok-Done.ensures in
    λ rest. register_range _ _ _ _ _ _ _ rest (step rest) c.in-Err-read.ensures.value

pub returns-in-Err : goal.returns-in-Err
returns-in-Err c = bad_passes value_of found_value integer_left internal_left (fed c.args.token.now c.args.context.now) (integer_left c.args.number) (internal_left (internals.Register c.args.register c.args.number)) c.in-Err.fault
    (λ kind rest is. register_bad _ _ _ _ rest is) c.in-Err.ensures
