use Rattle.std.proofs.Common.{◌∙◌}
use Rattle.scan_numbers.proofs.Integers.{out_bad}
use Rattle.scan_numbers.proofs.integer.outward.Goals as goal

pub returns-in-Err : goal.returns-in-Err
returns-in-Err c = λ rest. c.loop-innermost.invariant rest ∙ out_bad _ _ _ _ _ _ _ c.in-Some.ensures.items c.in-Err.ensures.value
