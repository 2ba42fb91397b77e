-- The lemmas that calls cite.
use Rattle.std.proofs.lemmas.Grind.{common_steps}
use Rattle.layered_tables.proofs.Writing.{table-read, table-set, write_old, write_again, get-table, table_from-push}

pub ruleset tables = (common_steps, table-read, table-set, get-table, write_old, write_again, table_from-push)
