use Rattle.std.proofs.Common.{subst, sym, take}
use Rattle.macros.specs.declared.body.Body.{Body}
use Rattle.macros.specs.Bodies.{IsBody}
use Rattle.macros.proofs.Bodied.{body_stored}
use Rattle.macros.proofs.Slices.{tokens_take}
use Rattle.macros.proofs.body.Body.store.Goals as goal

pub returns-clause-holds : goal.returns-clause-holds
returns-clause-holds c = λ names are is.
    let list = c.args.list.now in
    let at = c.loop-token.token-index in
    let B : Body → Type 0 = λ b. IsBody names b in
    subst B (sym c.loop-token.invariant) (body_stored names c.args.self.now (take at list) (tokens_take names at list are) is)
