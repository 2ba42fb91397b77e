use Rattle.tok_lists.proofs.Numbered.{one_number}
use Rattle.tok_lists.proofs.names.Names.intern.Goals as goal

pub returns-in_err-refill-clause-distinct : goal.returns-in_err-refill-clause-distinct
returns-in_err-refill-clause-distinct c = one_number _ c.self.invariant.distinct

pub returns-clause-distinct : goal.returns-clause-distinct
returns-clause-distinct c = one_number _ c.number_of.ensures.few.distinct
