use Rattle.std.proofs.Common.{arith}
use Rattle.ts_base.proofs.Composing.{exit_agrees}
use Rattle.font_store.specs.Loading.{load_cause}
use Rattle.font_store.proofs.Fronts.{starts, for_any, short_file, long_file}
use Rattle.font_store.proofs.loading.read_metric.Goals as goal

pub returns-in_err-read_on-clause-exact : goal.returns-in_err-read_on-clause-exact
returns-in_err-read_on-clause-exact g c = λ left is.
    exit_agrees _ load_cause c.from_residual.result _ _ c.from_residual.ensures (for_any _ _ _ _ (c.in_err-read_on.ensures.exact left (starts left _ _ c.new-bytes.ensures.items is)))

pub returns-then-len-lt-FRONT-clause-exact : goal.returns-then-len-lt-FRONT-clause-exact
returns-then-len-lt-FRONT-clause-exact g c = λ left is.
    short_file left _ (c.in_ok-read_on.ensures.exact left (starts left _ _ c.new-bytes.ensures.items is)) (omega arith)

pub read_on-requires-2-clause-room : goal.read_on-requires-2-clause-room
read_on-requires-2-clause-room g c = omega (arith, c.read_on.ensures.within, c.size_of-most.ensures.least)

pub returns-in_err-read_on-2-clause-exact : goal.returns-in_err-read_on-2-clause-exact
returns-in_err-read_on-2-clause-exact g c = λ left is.
    let front = c.in_ok-read_on.ensures.front left (starts left _ _ c.new-bytes.ensures.items is) in
    exit_agrees _ load_cause c.from_residual-in_err-read_on-2.result _ _ c.from_residual-in_err-read_on-2.ensures (for_any _ _ _ _ (c.in_err-read_on-2.ensures.exact left front))

pub returns-clause-exact : goal.returns-clause-exact
returns-clause-exact g c = λ left is.
    let front = c.in_ok-read_on.ensures.front left (starts left _ _ c.new-bytes.ensures.items is) in
    let size = rw c.deref.ensures.value at c.size_of-most.ensures.value in
    long_file left _ _ c.size_of-most.result (c.in_ok-read_on.ensures.exact left (starts left _ _ c.new-bytes.ensures.items is)) size (c.in_ok-read_on-2.ensures.exact left front)
