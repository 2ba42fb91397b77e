use Rattle.std.proofs.Common.{true, sym, [], ◌∷◌}
use Rattle.scan_syntax.specs.declared.gluing.Gluing.TheVariants as gluings
use Rattle.scan_numbers.specs.Tokens.{fed}
use Rattle.scan_syntax.specs.Gluing.{glue_left, quantity_glue_left}
use Rattle.scan_syntax.proofs.Stretches.{begin_internal, glue_same}
use Rattle.scan_syntax.proofs.gluing.begin.Goals as goal

pub returns-in-Internal : goal.returns-in-Internal
returns-in-Internal c =
    let x = fed c.args.token.now c.args.context.now in
    glue_same glue_left c.args.context.now (x ∷ []) (x ∷ []) (quantity_glue_left c.args.negative c.in-Internal.quantity c.args.context.now true) (glue_left (gluings.Signs c.args.negative)) c.in_quantity.result
    (λ rest. begin_internal _ _ _ _ rest (sym c.in-Internal.ensures.value)) c.in_quantity.ensures
