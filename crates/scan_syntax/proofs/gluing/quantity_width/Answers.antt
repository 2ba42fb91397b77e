use Rattle.std.proofs.Common.{false, [], ◌∷◌}
use Rattle.scan_numbers.specs.declared.dimen.Manner.{Manner}
use Rattle.scan_numbers.specs.Tokens.{fed}
use Rattle.scan_numbers.specs.Machines.{quantity_left}
use Rattle.scan_syntax.specs.Gluing.{glue_left, quantity_glue_left, then_stretch}
use Rattle.scan_syntax.proofs.Stretches.{quantity_then, glue_same}
use Rattle.scan_syntax.proofs.gluing.quantity_width.Goals as goal

pub returns : goal.returns
returns c =
    let x = fed c.args.token.now c.args.context.now in
    let manner : Manner = record { negative = c.args.negative; infinite = false } in
    let before = quantity_left manner c.args.quantity c.args.context.now c.args.taken in
    glue_same glue_left c.args.context.now (x ∷ []) (x ∷ []) (then_stretch before) (quantity_glue_left c.args.negative c.args.quantity c.args.context.now c.args.taken) c.width_fed.result
    (λ rest. quantity_then c.args.negative c.args.quantity c.args.taken c.args.context.now (x ∷ rest) c.requires) (c.width_fed.ensures before c.from_quantity-step.ensures)
