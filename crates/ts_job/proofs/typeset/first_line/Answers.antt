use Rattle.std.proofs.Common.{refl}
use Rattle.ts_base.proofs.Composing.{exit_agrees}
use Rattle.ts_job.specs.Asked.{request}
use Rattle.ts_job.specs.Meaning.{stop_cause}
use Rattle.ts_job.proofs.FirstLine.{first_line-missing, first_line-refused, first_line-given}
use Rattle.ts_job.proofs.typeset.first_line.Goals as goal

pub returns-in_err-lines-clause-exact : goal.returns-in_err-lines-clause-exact
returns-in_err-lines-clause-exact g c = λ held told.
    let opens = rw told at c.in_err-lines.ensures.opens in
    exit_agrees _ stop_cause c.from_residual.result _ _ c.from_residual.ensures (first_line-missing held (request c.args.asked.now) c.in_err-lines.field-0.0 opens)

pub returns-in_err-line-clause-exact : goal.returns-in_err-line-clause-exact
returns-in_err-line-clause-exact g c = λ held told.
    let opens = rw told at c.in_ok-lines.ensures.opens in
    let there = c.in_ok-lines.ensures.told (rw told refl) in
    exit_agrees _ stop_cause c.from_residual-in_err-line.result _ _ c.from_residual-in_err-line.ensures
    (first_line-refused held (request c.args.asked.now) _ c.in_err-line.field-0.0 opens (c.in_err-line.ensures.exact there))

pub returns-clause-exact : goal.returns-clause-exact
returns-clause-exact g c = λ held told.
    let opens = rw told at c.in_ok-lines.ensures.opens in
    let there = c.in_ok-lines.ensures.told (rw told refl) in
    first_line-given held (request c.args.asked.now) _ _ c.in_ok-line.field-0 opens (c.in_ok-line.ensures.exact there)
