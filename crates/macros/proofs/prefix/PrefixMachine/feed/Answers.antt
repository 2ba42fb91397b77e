use Rattle.std.proofs.Common.{arith, ◌≡◌, ◌<◌, true, false}
use Rattle.macros.specs.Same.{is_same}
use Rattle.macros.proofs.Prefixes.{prefix_refuses, prefix_ends, prefix_goes_on}
use Rattle.macros.proofs.prefix.PrefixMachine.feed.Goals as goal

pub returns-then-not-is_same-clause-exact : goal.returns-then-not-is_same-clause-exact
returns-then-not-is_same-clause-exact c =
    let inside = c.self.inside in
    let less : inside.from < inside.to = omega (arith, c.if-self.false, c.self.invariant.order) in
    let at = rw c.as_slice.ensures at c.index-as_slice-self.is in
    let differs : is_same c.args.token c.index-as_slice-self.result ≡ false = cc in
    rw (← c.self.view_is) (prefix_refuses c.args._env.now inside.params inside.from inside.to c.args.token c.index-as_slice-self.result at less c.self.invariant.most differs)

pub returns-then-self-2-clause-exact : goal.returns-then-self-2-clause-exact
returns-then-self-2-clause-exact c =
    let inside = c.self.inside in
    let less : inside.from < inside.to = omega (arith, c.if-self.false, c.self.invariant.order) in
    let at = rw c.as_slice.ensures at c.index-as_slice-self.is in
    let same : is_same c.args.token c.index-as_slice-self.result ≡ true = cc in
    rw (← c.self.view_is) (prefix_ends c.args._env.now inside.params inside.from inside.to c.args.token c.index-as_slice-self.result at less c.self.invariant.most same c.if-self-2.true)

pub returns-clause-exact : goal.returns-clause-exact
returns-clause-exact c =
    let inside = c.self.inside in
    let less : inside.from < inside.to = omega (arith, c.if-self.false, c.self.invariant.order) in
    let at = rw c.as_slice.ensures at c.index-as_slice-self.is in
    let same : is_same c.args.token c.index-as_slice-self.result ≡ true = cc in
    rw (← c.self.view_is) (prefix_goes_on c.args._env.now inside.params inside.from inside.to c.args.token c.index-as_slice-self.result at less c.self.invariant.most same c.if-self-2.false)
