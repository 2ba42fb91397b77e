use Rattle.std.proofs.Common.{sym}
use Rattle.tok_lists.proofs.Numbered.{found}
use Rattle.tok_lists.proofs.names.number_of.Goals as goal

pub returns-in-Some-clause-spelt : goal.returns-in-Some-clause-spelt
returns-in-Some-clause-spelt c = found _ _ _ (sym c.in-Some.ensures.index)
