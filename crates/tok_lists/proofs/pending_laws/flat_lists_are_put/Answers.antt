use Rattle.tok_lists.proofs.Flat.{put_is, unchanged}
use Rattle.tok_lists.proofs.pending_laws.flat_lists_are_put.Goals as goal

pub returns-clause-put : goal.returns-clause-put
returns-clause-put c = put_is

pub returns-clause-unchanged : goal.returns-clause-unchanged
returns-clause-unchanged c = unchanged
