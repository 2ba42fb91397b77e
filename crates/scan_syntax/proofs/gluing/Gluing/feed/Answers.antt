use Rattle.std.proofs.Common.{[], ◌∷◌}
use Rattle.scan_numbers.specs.Tokens.{fed}
use Rattle.scan_syntax.specs.Gluing.{late_left, glue_left}
use Rattle.scan_syntax.proofs.Stretches.{late_is, glue_same}
use Rattle.scan_syntax.proofs.gluing.Gluing.feed.Goals as goal

pub returns-in-Late : goal.returns-in-Late
returns-in-Late c =
    let x = fed c.args.token.now c.args.context.now in
    glue_same glue_left c.args.context.now (x ∷ []) (x ∷ []) (late_left c.in-Late.late) (glue_left c.args.self) c.as_glue.result
    (λ rest. rw c.in-Late.is (late_is c.in-Late.late (x ∷ rest))) (c.as_glue.ensures c.args.context.now (x ∷ []) (late_left c.in-Late.late) c.late_fed.ensures)
