use Rattle.std.proofs.Common.{[], ◌∷◌}
use Rattle.scan_syntax.specs.declared.gluing.Gluing.TheVariants as gluings
use Rattle.scan_numbers.specs.Tokens.{fed}
use Rattle.scan_numbers.specs.Machines.{dimen_left}
use Rattle.scan_syntax.specs.Gluing.{glue_left, then_stretch}
use Rattle.scan_syntax.proofs.Stretches.{width_then, glue_same}
use Rattle.scan_syntax.proofs.gluing.in_width.Goals as goal

pub returns : goal.returns
returns c =
    let x = fed c.args.token.now c.args.context.now in
    glue_same glue_left c.args.context.now (x ∷ []) (x ∷ []) (then_stretch (dimen_left c.args.dimen)) (glue_left (gluings.Width c.args.dimen)) c.width_fed.result
    (λ rest. width_then c.args.dimen (x ∷ rest)) (c.width_fed.ensures (dimen_left c.args.dimen) c.feed-step.ensures)
