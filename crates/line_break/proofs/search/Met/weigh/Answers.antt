use Rattle.line_break.specs.Ready.{pass_of}
use Rattle.line_break.proofs.Weights.{found_none}
use Rattle.line_break.proofs.search.Met.weigh.Goals as goal

pub returns-then-is_too_loose-clause-found : goal.returns-then-is_too_loose-clause-found
returns-then-is_too_loose-clause-found c =
    let loose = c.is_too_loose.ensures c.if-is_too_loose.true in
    found_none (pass_of c.args.lines.now) c.args.end.now.at c.args.i c.args.self.now.found c.args.x.now loose.unfit
