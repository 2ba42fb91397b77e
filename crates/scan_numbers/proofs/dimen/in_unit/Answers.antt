use Rattle.std.proofs.Common.{sym}
use Rattle.scan_numbers.proofs.Dimensions.{unit_internal, unit_internal_bad}
use Rattle.scan_numbers.proofs.dimen.in_unit.Goals as goal

pub returns-in-Ok : goal.returns-in-Ok
returns-in-Ok c =
    let done = rw c.times_quantity.ensures at (c.in-Ok.ensures c.args.context.now) in
    λ rest. unit_internal _ _ _ _ _ _ rest (sym c.in-Internal.ensures.value) (done rest)

pub returns-in-Err : goal.returns-in-Err
returns-in-Err c =
    let done = rw c.times_quantity.ensures at (c.in-Err.ensures c.args.context.now) in
    λ rest. unit_internal_bad _ _ _ _ _ _ rest (sym c.in-Internal.ensures.value) (done rest)
