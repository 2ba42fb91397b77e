use Rattle.std.proofs.Common.{◌≤◌, length, take, arith, length-take}
use Rattle.std.proofs.lemmas.Grind.{common_steps}
use Rattle.input_codings.proofs.Short.{answer_short}
use Rattle.input_codings.proofs.decode.line_chars.Goals as goal

pub returns-clause-short : goal.returns-clause-short
returns-clause-short c =
    let few : length c.text_of.result.now ≤ 65535 = grind (arith, common_steps) in
    answer_short c.args.coding c.text_of.result.now c.decode.result few c.decode.ensures.exact
