use Rattle.line_break.specs.Ready.{pass_of}
use Rattle.line_break.proofs.Opened.{stays_is}
use Rattle.line_break.proofs.search.Met.take.Goals as goal

pub returns-then-not-stays-clause-stays : goal.returns-then-not-stays-clause-stays
returns-then-not-stays-clause-stays c = stays_is (pass_of c.args.lines.now) c.args.end.now.at c.args.x.now c.weigh-line.result c.args.end.now.penalty c.is_forced.result c.stays_open-stays.result c.weigh-line.ensures c.requires.end.penalty c.is_forced.ensures c.stays_open-stays.ensures

pub returns-else-not-stays-clause-stays : goal.returns-else-not-stays-clause-stays
returns-else-not-stays-clause-stays c = stays_is (pass_of c.args.lines.now) c.args.end.now.at c.args.x.now c.weigh-line.result c.args.end.now.penalty c.is_forced.result c.stays_open-stays.result c.weigh-line.ensures c.requires.end.penalty c.is_forced.ensures c.stays_open-stays.ensures
