use Rattle.macros.proofs.argument.read_delimited.Goals as goal

pub returns-clause-tokens : goal.returns-clause-tokens
returns-clause-tokens g c = c.in_ok-argument.ensures.tokens c.read_on.new.mouth.names c.in_ok-read_on.ensures.holds
