use Rattle.std.proofs.Common.{sym}
use Rattle.scan_numbers.specs.declared.constant.Constant.TheVariants as constants
use Rattle.scan_numbers.specs.declared.integer.Part.TheVariants as parts
use Rattle.scan_numbers.specs.declared.start.Radix.TheVariants as radices
use Rattle.scan_numbers.specs.Tokens.{fed}
use Rattle.scan_numbers.specs.Machines.{value_of, integer_left}
use Rattle.scan_numbers.proofs.Follows.{same_follows}
use Rattle.scan_numbers.proofs.Integers.{signs_digit, signs_internal, signs_internal_bad}
use Rattle.scan_numbers.proofs.integer.Integer.begin.Goals as goal

pub returns-in-Digit : goal.returns-in-Digit
returns-in-Digit c =
    let constant = record c.args.self { part = parts.Constant (constants.First radices.Decimal) } in
    same_follows value_of integer_left (fed c.args.token.now c.args.context.now) (integer_left constant) (integer_left c.args.self) c.fed.result
    (λ rest. signs_digit c.args.self _ _ rest c.requires (sym c.in-Digit.ensures.value)) c.fed.ensures

pub returns-in-Ok : goal.returns-in-Ok
returns-in-Ok c =
    let k = rw c.held.ensures at c.in-Ok.ensures in
    λ rest. signs_internal c.args.self _ _ _ _ rest c.requires (sym c.in-Internal.ensures.value) k

pub returns-in-Err : goal.returns-in-Err
returns-in-Err c =
    let k = rw c.held.ensures at c.in-Err.ensures in
    λ rest. signs_internal_bad c.args.self _ _ _ _ rest c.requires (sym c.in-Internal.ensures.value) k
