use Rattle.print_values.proofs.Plain.{texts_are_plain, names_are_plain}
use Rattle.print_values.proofs.laws.printed_tokens_are_plain.Goals as goal

pub returns-clause-texts : goal.returns-clause-texts
returns-clause-texts c = texts_are_plain

pub returns-clause-names : goal.returns-clause-names
returns-clause-names c = names_are_plain
