use Rattle.std.proofs.Common.{◌∷◌}
use Rattle.scan_numbers.specs.Machines.{left_of}
use Rattle.scan_numbers.proofs.Dimensions.{quantity_whole, quantity_bad}
use Rattle.scan_numbers.proofs.dimen.whole_quantity.Goals as goal

pub returns-in-Ok : goal.returns-in-Ok
returns-in-Ok c = λ x.
    let done = rw c.held.ensures at (c.in-Ok.ensures x.context) in
    λ rest. quantity_whole _ _ _ c.args.taken x rest c.requires (done (left_of c.args.taken (x ∷ rest)))

pub returns-in-Err : goal.returns-in-Err
returns-in-Err c = λ x.
    let done = rw c.held.ensures at (c.in-Err.ensures x.context) in
    λ rest. quantity_bad _ _ _ c.args.taken x rest c.requires (done (left_of c.args.taken (x ∷ rest)))
