use Rattle.std.proofs.Common.{arith}
use Rattle.std.specs.Prelude.{string_bytes}
use Rattle.source_job.proofs.Asking.{options_five, options_seven}
use Rattle.source_job.proofs.words.options_of.Goals as goal

pub returns-in-5 : goal.returns-in-5
returns-in-5 c =
    let is = options_five string_bytes c.args.words.now c.index-words-3.result c.index-words-4.result (omega (arith, c.in-5.is)) c.index-words-3.is c.index-words-4.is in
    rw is (rw (← c.as_str.ensures.value, ← c.as_str-in-5.ensures.value) c.one_option.ensures)

pub returns-in-7 : goal.returns-in-7
returns-in-7 c =
    let is = options_seven string_bytes c.args.words.now c.index-words-3-in-7.result c.index-words-4-in-7.result c.index-words-5.result c.index-words-6.result (omega (arith, c.in-7.is)) c.index-words-3-in-7.is c.index-words-4-in-7.is c.index-words-5.is
    c.index-words-6.is in
    rw is (rw (← c.as_str-in-7.ensures.value, ← c.as_str-in-7-2.ensures.value, ← c.as_str-in-7-3.ensures.value, ← c.as_str-in-7-4.ensures.value) c.two_options.ensures)
