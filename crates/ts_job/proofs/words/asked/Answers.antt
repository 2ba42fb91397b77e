use Rattle.std.proofs.Common.{sym}
use Rattle.std.specs.Prelude.{string_bytes}
use Rattle.ts_job.proofs.Asking.{asked_three, asked_five, asked_other, is_held}
use Rattle.ts_job.proofs.words.asked.Goals as goal

pub returns-then-words-eq3 : goal.returns-then-words-eq3
returns-then-words-eq3 c =
    let is = asked_three string_bytes c.args.words.now c.index-words-1.result c.index-words-2.result c.if-words-eq3.true c.index-words-1.is c.index-words-2.is in
    rw is (rw (← c.as_str.ensures.value, ← c.as_str-then-words-eq3.ensures.value) c.asked_in.ensures)

pub returns-then-words-ne5 : goal.returns-then-words-ne5
returns-then-words-ne5 c = sym (asked_other string_bytes c.args.words.now c.if-words-eq3.false c.if-words-ne5.true)

pub returns : goal.returns
returns c =
    let is = asked_five string_bytes c.args.words.now c.index-words-1-2.result c.index-words-2-2.result c.index-words-3.result c.index-words-4.result c.if-words-ne5.false c.index-words-1-2.is c.index-words-2-2.is c.index-words-3.is c.index-words-4.is in
    let same = is_held _ _ (rw c.as_str-2.ensures.value at c.if-ne.ensures) is in
    let coding = rw c.as_str-3.ensures.value at c.coding_of-coding.ensures in
    rw same (rw (← coding, ← c.as_str-4.ensures.value, ← c.as_str-5.ensures.value) c.asked_in-2.ensures)
