use Rattle.ts_job.specs.Asked.{request}
use Rattle.ts_job.specs.FormSeen.{seen}
use Rattle.ts_job.specs.Meaning.{page_of}
use Rattle.ts_job.specs.Promise.{held_widths}
use Rattle.ts_job.proofs.Sources.{widths_held, typeset-is}
use Rattle.std.proofs.Common.{◌∙◌}
use Rattle.ts_job.proofs.typeset.typeset.Goals as goal

pub returns-in-Ok-clause-exact : goal.returns-in-Ok-clause-exact
returns-in-Ok-clause-exact g c = λ held told.
    let form = seen c.in_ok-form.form in
    let metric = c.in_ok-metric.metric in
    let source = c.in_ok-form.ensures.exact held told in
    let font = c.in_ok-metric.ensures.exact held (c.in_ok-form.ensures.kept.0 ∙ told) in
    (page_of form metric, typeset-is held (request c.args.asked.now) form metric source font, c.in-Ok.ensures (held_widths held) (widths_held held form metric font))
