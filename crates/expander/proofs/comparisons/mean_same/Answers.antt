use Rattle.raw_texts.specs.Meanings.{meaning_of}
use Rattle.expander.proofs.Comparing.{same_is}
use Rattle.expander.proofs.comparisons.mean_same.Goals as goal

pub returns : goal.returns
returns c = same_is c.mean_the_same.result (meaning_of c.args.env.now c.args.first.now) (meaning_of c.args.env.now c.args.second.now) c.mean_the_same.ensures
