use Rattle.std.proofs.Common.{◌∙◌, sym, rules, SFits, w32, w64}
use Rattle.std.proofs.lemmas.Int.{to_z-of_z}
use Rattle.line_break.specs.Ready.{pass_of}
use Rattle.line_break.proofs.Weights.{found_in, found_out, reach_is}
use Rattle.line_break.proofs.search.find_from.Goals as goal

pub returns-then-is_fit : goal.returns-then-is_fit
returns-then-is_fit c =
    let p = pass_of c.args.lines.now in
    let fits : SFits w64 c.demerits_after-demerits.result = search rules in
    let threshold_fits : SFits w32 c.args.lines.now.threshold = search rules in
    let fit = simp to_z-of_z at c.is_fit.ensures in
    let made = simp to_z-of_z at c.reach.ensures in
    let new = reach_is p c.args.end.now.at c.args.i c.args.x.now c.reach.result c.args.line c.demerits_after-demerits.result c.requires.line c.demerits_after-demerits.ensures.value made in
    found_in p c.args.end.now.at c.args.i c.args.found.now _ c.args.x.now c.reach.result c.args.line c.requires.line (sym fit ∙ c.if-is_fit.true) new c.offer.ensures

pub returns-else-is_fit : goal.returns-else-is_fit
returns-else-is_fit c =
    let threshold_fits : SFits w32 c.args.lines.now.threshold = search rules in
    let fit = simp to_z-of_z at c.is_fit.ensures in
    found_out (pass_of c.args.lines.now) c.args.end.now.at c.args.i c.args.found.now c.args.x.now c.args.line c.requires.line (sym fit ∙ c.if-is_fit.false)
