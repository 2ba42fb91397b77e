use Rattle.std.proofs.Common.{◌∷◌, sym}
use Rattle.scan_numbers.specs.Tokens.{fed}
use Rattle.scan_numbers.proofs.Dimensions.{infinite_done, infinite_bad}
use Rattle.scan_numbers.proofs.dimen.in_infinite.Goals as goal

pub returns-in-Ok : goal.returns-in-Ok
returns-in-Ok c =
    let done = rw (c.order.ensures, c.of.ensures) at (c.in-Ok.ensures c.args.context.now) in
    let other = rw c.letter.ensures at (sym c.if-is_letter.ensures) in
    λ rest. infinite_done _ _ _ _ _ _ rest c.if-is_space.ensures other (done (fed c.args.token.now c.args.context.now ∷ rest))

pub returns-in-Err : goal.returns-in-Err
returns-in-Err c =
    let done = rw (c.order.ensures, c.of.ensures) at (c.in-Err.ensures c.args.context.now) in
    let other = rw c.letter.ensures at (sym c.if-is_letter.ensures) in
    λ rest. infinite_bad _ _ _ _ _ _ rest c.if-is_space.ensures other (done (fed c.args.token.now c.args.context.now ∷ rest))
