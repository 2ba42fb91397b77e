use Rattle.scan_numbers.proofs.Dimensions.{space_done, space_bad}
use Rattle.scan_numbers.proofs.dimen.in_space.Goals as goal

pub returns-in-Ok : goal.returns-in-Ok
returns-in-Ok c = λ rest. space_done _ _ _ _ _ _ rest c.is_space.ensures (c.in-Ok.ensures c.args.context.now)

pub returns-in-Err : goal.returns-in-Err
returns-in-Err c = λ rest. space_bad _ _ _ _ _ rest (c.in-Err.ensures c.args.context.now)
