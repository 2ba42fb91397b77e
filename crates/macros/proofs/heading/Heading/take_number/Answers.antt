use Rattle.std.proofs.Common.{◌≡◌, true}
use Rattle.macros.specs.Headings.{is_next}
use Rattle.macros.proofs.Headed.{heading_numbered}
use Rattle.macros.proofs.heading.Heading.take_number.Goals as goal

pub returns-clause-holds : goal.returns-clause-holds
returns-clause-holds c = λ names is.
    let next : is_next c.args.self.now.count c.args.token.now ≡ true = cc in
    rw c.in_ok-push.ensures.ok (heading_numbered names c.args.self.now c.args.token.now is next)
