use Rattle.std.proofs.Common.{◌+◌, length, arith}
use Rattle.std.proofs.lemmas.Bool.Decides.{nat_tests}
use Rattle.tok_lists.specs.Pending.{with_arguments}
use Rattle.tok_lists.proofs.Flat.{next_length, front_is_shorter}
use Rattle.tok_lists.proofs.cursor.length_of_call.Goals as goal

pub returns-then-most-of_arguments : goal.returns-then-most-of_arguments
returns-then-most-of_arguments c =
    let args = c.args.args.now in
    let body = c.args.body.now in
    let i = c.loop-token.token-index in
    let next = next_length args body i c.token-item.result (omega arith) c.token-item.is in
    grind (arith, nat_tests, next, front_is_shorter args body (i + 1), c.argument_length-more.ensures, c.in-Param.is)
