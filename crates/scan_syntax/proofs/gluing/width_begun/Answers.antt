use Rattle.std.proofs.Common.{[], ◌∷◌}
use Rattle.scan_syntax.specs.declared.gluing.Gluing.TheVariants as gluings
use Rattle.scan_numbers.specs.Tokens.{fed}
use Rattle.scan_syntax.specs.Gluing.{glue_left}
use Rattle.scan_syntax.proofs.Stretches.{begin_width, glue_same}
use Rattle.scan_syntax.proofs.gluing.width_begun.Goals as goal

pub returns : goal.returns
returns c =
    let x = fed c.args.token.now c.args.context.now in
    glue_same glue_left c.args.context.now (x ∷ []) (x ∷ []) (glue_left (gluings.Width c.signed.result)) (glue_left (gluings.Signs c.args.negative)) c.in_width.result
    (λ rest. begin_width c.args.negative _ _ _ rest c.requires c.signed.ensures) c.in_width.ensures
