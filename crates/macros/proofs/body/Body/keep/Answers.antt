use Rattle.macros.proofs.Bodied.{body_kept}
use Rattle.macros.proofs.body.Body.keep.Goals as goal

pub returns-clause-holds : goal.returns-clause-holds
returns-clause-holds c = λ names held within is. rw c.in_ok-push.ensures.ok (body_kept names c.args.self.now c.args.token c.args.level is held within)
