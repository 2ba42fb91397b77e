use Rattle.scan_numbers.specs.Contexts.{around}
use Rattle.scan_numbers.specs.Tokens.{fed}
use Rattle.scan_syntax.specs.States.{reads}
use Rattle.scan_syntax.proofs.States.{exact_step, stands_step}
use Rattle.scan_syntax.proofs.scan.Scan.feed.Goals as goal

pub returns-clause-exact : goal.returns-clause-exact
returns-clause-exact c = λ want before stands.
    let steps = rw c.new.ensures at c.advance.ensures.steps in
    exact_step want before (reads c.args.self.now) (reads c.advance.new.self) (fed c.args.token (around c.args.env.now c.args.names.now)) c.advance.result steps stands

pub returns-clause-stands : goal.returns-clause-stands
returns-clause-stands c = λ want before stands.
    let steps = rw c.new.ensures at c.advance.ensures.steps in
    stands_step want before (reads c.args.self.now) (reads c.advance.new.self) (fed c.args.token (around c.args.env.now c.args.names.now)) c.advance.result steps stands
