use Rattle.std.proofs.Common.{refl}
use Rattle.kcat_eyes.proofs.Finds.{active}
use Rattle.kcat_eyes.proofs.find.of_category.Goals as goal

pub returns-in-13-clause-value : goal.returns-in-13-clause-value
returns-in-13-clause-value g c = λ skipped. rw (active c.args.line.now c.args.at _ c.requires.least c.requires.most c.requires.here, ← c.cat.ensures.value, c.in-13.is) refl
