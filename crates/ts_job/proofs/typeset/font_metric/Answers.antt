use Rattle.std.proofs.Common.{◌≡◌, Ok}
use Rattle.ts_outside.specs.Endings.{with_ending, metric_ending}
use Rattle.ts_outside.specs.Reading.{bytes_of}
use Rattle.ts_job.specs.FormSeen.{seen}
use Rattle.ts_job.specs.Loading.{first_of}
use Rattle.ts_job.proofs.Sources.{font_metric-read, named_is, counts_quiet}
use Rattle.ts_job.proofs.typeset.font_metric.Goals as goal

pub returns-clause-exact : goal.returns-clause-exact
returns-clause-exact g c = λ held told.
    let form = seen c.args.form.now in
    let named = rw c.deref.ensures.value at c.in-Ok.ensures in
    let name : with_ending metric_ending form.name ≡ c.in-Ok.name = named_is _ _ named in
    let read : first_of 262140 (bytes_of held (with_ending metric_ending form.name)) ≡ Ok c.in_ok-bytes.bytes.items = rw name (c.in_ok-bytes.ensures.exact held told) in
    let holds = rw c.deref-2.ensures.value at c.hold_metric.ensures in
    let same = font_metric-read held form c.in_ok-bytes.bytes.items read holds in
    rw same (rw c.deref-3.ensures.value at c.built_metric.ensures.exact)

pub returns-clause-counted : goal.returns-clause-counted
returns-clause-counted g c = counts_quiet _ _ _ c.built_metric.ensures.quiet c.in_ok-bytes.ensures.counted
