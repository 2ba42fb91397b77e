use Rattle.std.proofs.Common.{arith}
use Rattle.std.specs.Prelude.{string_bytes}
use Rattle.source_job.proofs.Asking.{asked_some}
use Rattle.source_job.proofs.words.asked.Goals as goal

pub returns : goal.returns
returns c =
    let is = asked_some string_bytes c.args.words.now c.index-words-1.result c.index-words-2.result (omega (arith, c.if-words-lt3.false)) c.index-words-1.is c.index-words-2.is in
    rw is (rw (← c.options_of-options.ensures, ← c.as_str.ensures.value, ← c.as_str-2.ensures.value) c.asked_in.ensures)
