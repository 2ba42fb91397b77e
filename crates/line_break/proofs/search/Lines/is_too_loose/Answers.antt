use Rattle.std.proofs.Common.{arith, ◌≤◌, ◌∙◌}
use Rattle.line_break.specs.Best.{last_break}
use Rattle.line_break.specs.Ready.{pass_of}
use Rattle.line_break.proofs.Loose.{until_line, past_is_loose}
use Rattle.line_break.proofs.Prepared.{before_60, after_60, line_near}
use Rattle.line_break.proofs.search.Lines.is_too_loose.Goals as goal

pub plus-requires-clause-near : goal.plus-requires-clause-near
plus-requires-clause-near c = before_60 c.args.self.now c.args.end.now.at c.args.end.now.before c.requires.prepared c.requires.end.inside c.requires.end.before

pub plus-requires-clause-other_near : goal.plus-requires-clause-other_near
plus-requires-clause-other_near c = let in_ = c.requires.end.inside in let lt = c.requires.before in after_60 c.args.self.now c.args.s _ c.requires.prepared (omega (arith, lt, in_))

pub is_past-requires-clause-near : goal.is_past-requires-clause-near
is_past-requires-clause-near c =
    let in_ = c.requires.end.inside in
    let lt = c.requires.before in
    let low : c.args.s ≤ last_break (pass_of c.args.self.now) = omega (arith, lt, in_) in
    line_near c.args.self.now c.args.s c.args.end.now.at _ c.args.end.now.before c.plus.result c.requires.prepared low in_ c.requires.end.before c.plus.ensures

pub returns-then-start-end : goal.returns-then-start-end
returns-then-start-end c =
    let l = c.args.self.now in
    let e = c.args.end.now in
    let is = c.plus.ensures ∙ until_line l e c.args.s _ c.requires.prepared c.requires.end c.requires.before c.if-start-end.true in
    λ past. past_is_loose l e c.args.s _ c.plus.result c.is_past.result c.requires.prepared c.requires.end c.if-start-end.true is c.is_past.ensures past
