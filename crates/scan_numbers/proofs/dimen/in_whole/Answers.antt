use Rattle.std.proofs.Common.{◌≤◌, sym, ◌∙◌}
use Rattle.scan_numbers.specs.declared.dimen.Piece.TheVariants as pieces
use Rattle.scan_numbers.specs.Tokens.{fed}
use Rattle.scan_numbers.specs.Machines.{at, amount_of, dimen_left}
use Rattle.scan_numbers.proofs.Follows.{same_follows}
use Rattle.scan_numbers.proofs.Dimensions.{whole_unit_follows}
use Rattle.scan_numbers.proofs.dimen.in_whole.Goals as goal

pub returns-in_default : goal.returns-in_default
returns-in_default c =
    let small : c.args.whole ≤ 2147483647 = c.if-whole-gt-GREATEST_WHOLE.false in
    same_follows amount_of dimen_left (fed c.args.token.now c.args.context.now) (dimen_left (at c.args.manner (pieces.Unit c.whole.result))) (dimen_left (at c.args.manner (pieces.Whole c.args.whole))) c.in_unit.result
    (λ rest. rw c.whole.ensures (whole_unit_follows _ _ _ _ rest (sym c.in-None.ensures.value) small (λ point. c.in_default.not-Point (c.start_of.ensures.value ∙ point))))
    c.in_unit.ensures
