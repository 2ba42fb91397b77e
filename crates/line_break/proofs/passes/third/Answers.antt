use Rattle.std.proofs.Common.{◌∙◌, ap, true, ℤ, rules, SFits, w32}
use Rattle.std.proofs.lemmas.Int.{to_z-of_z}
use Rattle.line_break.specs.Paragraphs.{made_pass}
use Rattle.line_break.proofs.passes.third.Goals as goal

pub returns-clause-pass : goal.returns-clause-pass
returns-clause-pass c =
    let tolerance_fits : SFits w32 c.args.shape.now.tolerance = search rules in
    let fits : SFits w32 c.capped.result = search rules in
    let is = simp to_z-of_z at c.capped.ensures in
    let pass = simp to_z-of_z at c.new.ensures.pass in
    pass ∙ ap (λ (z : ℤ). made_pass c.args.items.now c.args.shape.now z (c.args.shape.now.emergency.0) (true)) is
