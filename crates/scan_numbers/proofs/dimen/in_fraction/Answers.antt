use Rattle.std.proofs.Common.{sym}
use Rattle.scan_numbers.specs.declared.dimen.Piece.TheVariants as pieces
use Rattle.scan_numbers.specs.Tokens.{fed}
use Rattle.scan_numbers.specs.Machines.{at, amount_of, dimen_left}
use Rattle.scan_numbers.proofs.Follows.{same_follows}
use Rattle.scan_numbers.specs.Dimensions.{factor}
use Rattle.scan_numbers.proofs.Dimensions.{fraction_unit_follows}
use Rattle.scan_numbers.proofs.dimen.in_fraction.Goals as goal

pub returns-in-None : goal.returns-in-None
returns-in-None c =
    let x = fed c.args.token.now c.args.context.now in
    same_follows amount_of dimen_left x (dimen_left (at c.args.manner (pieces.Unit (factor c.args.whole c.value.result)))) (dimen_left (at c.args.manner (pieces.Fraction c.args.whole c.args.fraction))) c.in_unit.result
    (λ rest. rw c.value.ensures (fraction_unit_follows _ _ _ _ _ rest (sym c.in-None.ensures.value))) c.in_unit.ensures
