use Rattle.metric_words.proofs.Chain.{characters_chained}
use Rattle.metric_words.proofs.characters.Characters.read.Goals as goal

pub returns-clause-exact : goal.returns-clause-exact
returns-clause-exact c = rw (← characters_chained c.args.bytes.now c.args.lengths.now) c.parts.ensures.exact
