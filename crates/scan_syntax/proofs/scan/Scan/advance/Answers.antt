use Rattle.scan_numbers.specs.Tokens.{fed}
use Rattle.scan_syntax.proofs.States.{raw_steps, expanded_steps, done_steps, fault_steps}
use Rattle.scan_syntax.proofs.scan.Scan.advance.Goals as goal

pub returns-in-Ok-On-default-true-clause-steps : goal.returns-in-Ok-On-default-true-clause-steps
returns-in-Ok-On-default-true-clause-steps c =
    let moves = rw (c.in-Ok-On-default-true.field-0-is, c.in-Ok-On-default-true.field-0-1-test, c.replace.ensures.value) at c.in-Ok-On-default-true.ensures in
    raw_steps c.args.self.now _ (fed c.args.token.now c.args.context.now) moves.0 moves.1

pub returns-in-Ok-On-default-false-clause-steps : goal.returns-in-Ok-On-default-false-clause-steps
returns-in-Ok-On-default-false-clause-steps c =
    let moves = rw (c.in-Ok-On-default-false.field-0-is, c.in-Ok-On-default-false.field-0-1-test, c.replace.ensures.value) at c.in-Ok-On-default-false.ensures in
    expanded_steps c.args.self.now _ (fed c.args.token.now c.args.context.now) moves.0 moves.1

pub returns-in-Ok-Done-clause-steps : goal.returns-in-Ok-Done-clause-steps
returns-in-Ok-Done-clause-steps c =
    let moves = rw (c.in-Ok-Done.field-0-is, c.replace.ensures.value) at c.in-Ok-Done.ensures in
    λ rest. rw c.from.ensures (done_steps c.args.self.now _ _ _ rest (moves rest))

pub returns-in-Err-clause-steps : goal.returns-in-Err-clause-steps
returns-in-Err-clause-steps c = fault_steps c.args.self.now _ c.replace.result (fed c.args.token.now c.args.context.now) c.in-Err.fault c.replace.ensures.value c.in-Err.ensures
