use Rattle.std.proofs.Common.{◌≡◌, take}
use Rattle.macros.specs.Bodies.{stored}
use Rattle.macros.proofs.body.Body.store.Given as goal

abbrev pub invariant-loop-token : goal.invariant-loop-token
invariant-loop-token l = l.self ≡ stored l.fn.self (take l.token-index l.list)
