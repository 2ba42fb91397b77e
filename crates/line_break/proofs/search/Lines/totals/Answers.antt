use Rattle.std.proofs.Common.{arith, ◌≤◌, ◌∙◌}
use Rattle.line_break.specs.Best.{last_break}
use Rattle.line_break.specs.Ready.{pass_of}
use Rattle.line_break.proofs.Prepared.{before_60, after_60, background_58, line_58, line_is, line_none}
use Rattle.line_break.proofs.search.Lines.totals.Goals as goal

pub plus-requires-clause-near : goal.plus-requires-clause-near
plus-requires-clause-near c = before_60 c.args.self.now c.args.end.now.at c.args.end.now.before c.requires.prepared c.requires.end.inside c.requires.end.before

pub plus-requires-clause-other_near : goal.plus-requires-clause-other_near
plus-requires-clause-other_near c = let in_ = c.requires.end.inside in let lt = c.requires.before in after_60 c.args.self.now c.args.s _ c.requires.prepared (omega (arith, lt, in_))

pub returns-then-start-self-clause-value : goal.returns-then-start-self-clause-value
returns-then-start-self-clause-value c =
    c.plus.ensures
    ∙ line_is c.args.self.now c.args.s c.args.end.now.at _ c.args.end.now.before c.requires.prepared c.requires.before c.requires.end.inside c.requires.end.before c.if-start-self.true

pub returns-then-start-self-clause-near : goal.returns-then-start-self-clause-near
returns-then-start-self-clause-near c =
    let in_ = c.requires.end.inside in
    let lt = c.requires.before in
    let low : c.args.s ≤ last_break (pass_of c.args.self.now) = omega (arith, lt, in_) in
    line_58 c.args.self.now c.args.s c.args.end.now.at _ c.args.end.now.before c.plus.result c.requires.prepared low in_ c.requires.end.before c.plus.ensures

pub returns-else-start-self-clause-value : goal.returns-else-start-self-clause-value
returns-else-start-self-clause-value c = line_none c.args.self.now c.args.s c.args.end.now.at _ c.requires.prepared c.requires.before c.requires.end.inside c.if-start-self.false

pub returns-else-start-self-clause-near : goal.returns-else-start-self-clause-near
returns-else-start-self-clause-near c = background_58 c.args.self.now c.requires.prepared
