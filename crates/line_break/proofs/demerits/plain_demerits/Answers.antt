use Rattle.std.proofs.Common.{◌≡◌, ◌∙◌, ap, pos, ◌+ℤ◌, ℤ, rules, SFits, w32, w64}
use Rattle.std.proofs.lemmas.Int.{to_z-of_z}
use Rattle.line_break.specs.Lines.{of_badness, of_penalty}
use Rattle.line_break.proofs.demerits.plain_demerits.Goals as goal

pub returns-clause-value : goal.returns-clause-value
returns-clause-value c =
    let line_fits : SFits w32 c.args.line_penalty = search rules in
    let penalty_fits : SFits w64 c.args.penalty = search rules in
    let sum_fits : SFits w64 c.with_badness.result = search rules in
    let badness_fits : SFits w64 c.of_badness.result = search rules in
    let of_penalty_fits : SFits w64 c.of_penalty.result = search rules in
    let all_fits : SFits w64 c.total.result = search rules in
    let sum = simp to_z-of_z at c.with_badness.ensures in
    let bad = simp to_z-of_z at c.of_badness.ensures.value in
    let pen = simp to_z-of_z at c.of_penalty.ensures.value in
    let all = simp to_z-of_z at c.total.ensures in
    let is : c.total.result ≡ of_badness (c.args.line_penalty +ℤ pos c.args.badness) +ℤ of_penalty c.args.penalty =
    all ∙ ap (λ (z : ℤ). z +ℤ c.of_penalty.result) (bad ∙ ap of_badness sum) ∙ ap (λ (z : ℤ). of_badness (c.args.line_penalty +ℤ pos c.args.badness) +ℤ z) pen in
    simp to_z-of_z is
