use Rattle.std.proofs.Common.{sym, ◌∙◌}
use Rattle.scan_syntax.proofs.Stretches.{late_is}
use Rattle.scan_syntax.proofs.gluing.as_glue.Goals as goal

pub returns-in-Ok-On : goal.returns-in-Ok-On
returns-in-Ok-On c = λ context tokens before moves rest.
    let given = rw (c.in-Ok-On.is, c.in-Ok-On.field-0-is) at moves in
    given rest ∙ sym (late_is c.in-Ok-On.late rest)
