use Rattle.std.proofs.Common.{sym}
use Rattle.scan_syntax.proofs.Internals.{begin_internal}
use Rattle.scan_syntax.proofs.internal.quantity_begun.Goals as goal

pub returns-in-Internal : goal.returns-in-Internal
returns-in-Internal c = λ rest. begin_internal _ _ _ _ rest c.requires (sym c.in-Internal.ensures.value) c.quantity_value-value.ensures.value
