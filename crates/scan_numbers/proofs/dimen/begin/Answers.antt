use Rattle.std.proofs.Common.{true, sym}
use Rattle.scan_numbers.specs.declared.dimen.Piece.TheVariants as pieces
use Rattle.scan_numbers.specs.Tokens.{fed}
use Rattle.scan_numbers.specs.Machines.{at, amount_of, dimen_left, quantity_left}
use Rattle.scan_numbers.proofs.Follows.{same_follows}
use Rattle.scan_numbers.proofs.Dimensions.{signs_digit, signs_internal}
use Rattle.scan_numbers.proofs.dimen.begin.Goals as goal

pub returns-in-Digit : goal.returns-in-Digit
returns-in-Digit c =
    same_follows amount_of dimen_left (fed c.args.token.now c.args.context.now) (dimen_left (at c.args.manner (pieces.Whole 0))) (dimen_left (at c.args.manner pieces.Signs)) c.in_whole.result
    (λ rest. signs_digit _ _ _ rest (sym c.in-Digit.ensures.value)) c.in_whole.ensures

pub returns-in-Internal : goal.returns-in-Internal
returns-in-Internal c =
    same_follows amount_of dimen_left (fed c.args.token.now c.args.context.now) (quantity_left c.args.manner c.in-Internal.quantity c.args.context.now true) (dimen_left (at c.args.manner pieces.Signs)) c.from_quantity.result
    (λ rest. signs_internal _ _ _ _ rest (sym c.in-Internal.ensures.value)) c.from_quantity.ensures
