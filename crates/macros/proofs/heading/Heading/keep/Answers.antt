use Rattle.macros.proofs.Headed.{heading_kept}
use Rattle.macros.proofs.heading.Heading.keep.Goals as goal

pub returns-clause-holds : goal.returns-clause-holds
returns-clause-holds c = λ names token is. rw c.in_ok-push.ensures.ok (heading_kept names c.args.self.now c.args.token is token c.requires)
