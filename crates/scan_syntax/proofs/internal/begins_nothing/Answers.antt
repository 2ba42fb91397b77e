use Rattle.scan_syntax.proofs.Internals.{begin_nothing}
use Rattle.scan_syntax.proofs.internal.begins_nothing.Goals as goal

pub returns : goal.returns
returns c = λ rest. begin_nothing _ _ rest c.requires.listed c.requires.none
