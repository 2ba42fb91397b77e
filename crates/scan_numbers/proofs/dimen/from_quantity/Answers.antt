use Rattle.std.proofs.Common.{true, false}
use Rattle.scan_numbers.specs.declared.dimen.Piece.TheVariants as pieces
use Rattle.scan_numbers.specs.Tokens.{fed}
use Rattle.scan_numbers.specs.Machines.{at, amount_of, dimen_left, quantity_left}
use Rattle.scan_numbers.proofs.Follows.{same_follows}
use Rattle.scan_numbers.proofs.Dimensions.{quantity_integer}
use Rattle.scan_numbers.proofs.dimen.from_quantity.Goals as goal

pub returns-then-taken : goal.returns-then-taken
returns-then-taken c = λ rest.
    rw (c.turned-manner.ensures, c.is_negative.ensures, c.held-factor.ensures, c.if-taken.true) (quantity_integer c.args.manner c.args.quantity _ true _ _ rest c.in-Integer.is)

pub returns-else-taken : goal.returns-else-taken
returns-else-taken c =
    let x = fed c.args.token.now c.args.context.now in
    let next = at c.turned-manner.result (pieces.Unit c.held-factor.result) in
    same_follows amount_of dimen_left x (dimen_left next) (quantity_left c.args.manner c.args.quantity c.args.context.now c.args.taken) c.in_unit.result
    (λ rest. rw (c.turned-manner.ensures, c.is_negative.ensures, c.held-factor.ensures, c.if-taken.false) (quantity_integer c.args.manner c.args.quantity _ false _ _ rest c.in-Integer.is))
    c.in_unit.ensures

pub returns-in-Dimen : goal.returns-in-Dimen
returns-in-Dimen c = c.whole_quantity.ensures (fed c.args.token.now c.args.context.now)
