use Rattle.tok_lists.specs.Names.{AreHeld, HasNoParam}
use Rattle.print_values.proofs.Plain.{names_are_plain}
use Rattle.expander.proofs.Exits.{given_has}
use Rattle.expander.proofs.plain.spelt.Goals as goal

pub returns-in-Name-clause-plain : goal.returns-in-Name-clause-plain
returns-in-Name-clause-plain c = given_has HasNoParam c.name.result _ (names_are_plain c.args.names.now c.spelling.result.now).0 c.name.ensures

pub returns-in-Name-clause-held : goal.returns-in-Name-clause-held
returns-in-Name-clause-held c = given_has (AreHeld c.args.names.now) c.name.result _ (names_are_plain c.args.names.now c.spelling.result.now).1 c.name.ensures
