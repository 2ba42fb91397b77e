use Rattle.std.proofs.Common.{rules, SFits, w32, w64}
use Rattle.std.proofs.lemmas.Int.{to_z-of_z}
use Rattle.line_break.proofs.Loose.{not_forced}
use Rattle.line_break.proofs.Prepared.{inside}
use Rattle.line_break.proofs.search.Lines.until.Goals as goal

pub bounds-self-b : goal.bounds-self-b
bounds-self-b c = inside c.args.self.now c.args.b c.requires.prepared c.requires.inside

pub returns-then-penalty-gtminus10000-clause-passes : goal.returns-then-penalty-gtminus10000-clause-passes
returns-then-penalty-gtminus10000-clause-passes c =
    let fits : SFits w32 c.args.self.now.threshold = search rules in
    let penalty_fits : SFits w64 c.args.penalty = c.ranges.penalty in
    let low = simp to_z-of_z at c.if-self-lt10000.true in
    let high = simp to_z-of_z at c.if-penalty-gtminus10000.true in
    λ _. (low, not_forced c.args.penalty high)
