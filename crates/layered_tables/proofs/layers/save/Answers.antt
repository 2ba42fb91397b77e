use Rattle.std.proofs.Common.{Some}
use Rattle.layered_tables.proofs.Writing.{write_undone}
use Rattle.layered_tables.proofs.layers.save.Goals as goal

pub returns-in-Err-clause-same : goal.returns-in-Err-clause-same
returns-in-Err-clause-same g c =
    let returned = rw c.in-Err.ensures.value_returned at c.exchange-kept.ensures.table in
    write_undone c.args.place (Some c.args.kept) _ _ _ _ c.exchange-old.ensures.table c.exchange-old.ensures.old returned
