use Rattle.scan_numbers.specs.declared.integer.Part.TheVariants as parts
use Rattle.scan_numbers.specs.Tokens.{fed}
use Rattle.scan_numbers.specs.Machines.{value_of, integer_left}
use Rattle.scan_numbers.proofs.Follows.{same_follows}
use Rattle.scan_numbers.proofs.Integers.{same_part}
use Rattle.scan_numbers.proofs.integer.Integer.feed.Goals as goal

pub returns-in-Constant : goal.returns-in-Constant
returns-in-Constant c =
    let x = fed c.args.token.now c.args.context.now in
    same_follows value_of integer_left x (integer_left (record c.args.self { part = parts.Constant c.in-Constant.constant })) (integer_left c.args.self) c.fed.result
    (λ rest. same_part c.args.self _ _ c.in-Constant.is) c.fed.ensures
