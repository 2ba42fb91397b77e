use Rattle.layered_tables.proofs.Values.{have_none}
use Rattle.layered_tables.proofs.laws.values_keep_what_all_have.Goals as goal

pub returns-clause-start : goal.returns-clause-start
returns-clause-start g c = have_none _
