use Rattle.line_break.proofs.Prepared.{from_60, background_60}
use Rattle.line_break.proofs.search.Lines.before_end.Goals as goal

pub minus-requires-clause-near : goal.minus-requires-clause-near
minus-requires-clause-near c = background_60 c.args.self.now c.requires.prepared

pub minus-requires-clause-other_near : goal.minus-requires-clause-other_near
minus-requires-clause-other_near c = from_60 c.args.self.now c.args.b _ c.requires.prepared c.requires.inside
