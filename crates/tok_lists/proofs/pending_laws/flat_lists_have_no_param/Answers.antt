use Rattle.tok_lists.proofs.Flat.{call_no_param}
use Rattle.tok_lists.proofs.pending_laws.flat_lists_have_no_param.Goals as goal

pub returns-clause-call : goal.returns-clause-call
returns-clause-call c = call_no_param
