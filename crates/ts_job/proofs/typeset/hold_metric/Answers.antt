use Rattle.std.proofs.Common.{ap, sym, ◌∙◌, ◌≡◌, ℕ, ◌≤◌, arith, length, length-take, min}
use Rattle.std.proofs.lemmas.List.{take_all}
use Rattle.metric_words.specs.Words.{halfword}
use Rattle.jfm_load.specs.Metrics.{metric_of}
use Rattle.ts_job.specs.Meaning.{built}
use Rattle.ts_job.proofs.Sources.{built_same}
use Rattle.ts_job.proofs.typeset.hold_metric.Goals as goal

pub returns-then-bytes-ge28 : goal.returns-then-bytes-ge28
returns-then-bytes-ge28 c = λ file is.
    let law = c.a_metric_is_in_its_first_words.ensures in
    let cut : length c.args.bytes.now ≡ min 262140 (length file) = ap length (sym is) ∙ length-take 262140 file in
    let halfwords = λ (i : ℕ) (few : i ≤ 12). sym (law.halfwords file 262140 i (omega arith)) ∙ ap (λ b. halfword b i) is in
    let count : halfword file 2 ≡ c.halfword_at-count.result = halfwords 2 (omega arith) ∙ sym c.halfword_at-count.ensures in
    let metric : metric_of file ≡ metric_of c.args.bytes.now = sym (law.metric file 262140 (omega arith) (omega (arith, count))) ∙ ap metric_of is in
    built_same file c.args.bytes.now (omega (arith, cut)) (omega arith) halfwords metric

pub returns-else-bytes-ge28 : goal.returns-else-bytes-ge28
returns-else-bytes-ge28 c = λ file is.
    let cut : length c.args.bytes.now ≡ min 262140 (length file) = ap length (sym is) ∙ length-take 262140 file in
    let short : length file ≤ 262140 = omega (arith, cut) in
    ap built (sym (take_all 262140 file short) ∙ is)
