use Rattle.std.proofs.Common.{◌∙◌, sym}
use Rattle.ts_outside.specs.Reading.{bytes_of}
use Rattle.font_store.proofs.Fronts.{found, loaded_whole, counts_quiet}
use Rattle.font_store.proofs.loading.load.Goals as goal

pub returns-in_ok-bytes-in-Found-clause-exact : goal.returns-in_ok-bytes-in-Found-clause-exact
returns-in_ok-bytes-in-Found-clause-exact g c = λ held told.
    let opens = rw told at c.in-Found.ensures.opens in
    let there = found (bytes_of held c.args.name.now) c.in-Found.file _ opens in
    loaded_whole c.metric_in.result _ there.0 c.deref.result.now there.1.0 _ c.deref.ensures.value (c.in_ok-bytes-in-Found.ensures.exact there.0 there.1.1) c.metric_in.ensures.exact

pub returns-in_ok-bytes-in-Found-clause-counted : goal.returns-in_ok-bytes-in-Found-clause-counted
returns-in_ok-bytes-in-Found-clause-counted g c =
    counts_quiet c.metric_in.result _ _ c.metric_in.ensures.quiet (c.close.ensures.counted ∙ c.in_ok-bytes-in-Found.ensures.counted ∙ c.in-Found.ensures.counted)
