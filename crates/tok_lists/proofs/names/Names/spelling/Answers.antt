use Rattle.std.proofs.Common.{subst}
use Rattle.tok_lists.proofs.Numbered.{one_number}
use Rattle.tok_lists.specs.Names.{HaveOneNumberEach}
use Rattle.tok_lists.proofs.names.Names.spelling.Goals as goal

pub returns-clause-distinct : goal.returns-clause-distinct
returns-clause-distinct c = subst HaveOneNumberEach c.self.view_is (one_number _ c.self.invariant.distinct)
