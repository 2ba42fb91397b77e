use Rattle.scan_syntax.proofs.Stretches.{quantity_whole}
use Rattle.scan_syntax.proofs.gluing.in_quantity.Goals as goal

pub returns-in-Ok : goal.returns-in-Ok
returns-in-Ok c = λ rest. quantity_whole _ _ _ _ c.args.taken _ _ _ rest c.in-Glue.is c.in-Ok.ensures c.signed_glue-glue.ensures.value
