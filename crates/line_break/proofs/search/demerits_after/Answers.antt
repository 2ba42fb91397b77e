use Rattle.std.proofs.Common.{◌≡◌, ◌∙◌, sym, ap, ◌+ℤ◌, pos, cond, arith, rules, SFits, w32, w64}
use Rattle.std.proofs.lemmas.Int.{ints, to_z-of_z}
use Rattle.line_break.specs.Lines.{demerits}
use Rattle.line_break.specs.Ready.{pass_of}
use Rattle.line_break.proofs.Weights.{demerits_is}
use Rattle.line_break.proofs.search.demerits_after.Goals as goal

pub returns-then-are_apart-clause-value : goal.returns-then-are_apart-clause-value
returns-then-are_apart-clause-value c =
    let p = pass_of c.args.lines.now in
    let x = c.args.x.now in
    let b = c.args.end.now.at in
    let r = c.plain_demerits-plain.result in
    let line_fits : SFits w32 c.args.lines.now.shape.line_penalty = search rules in
    let penalty_fits : SFits w64 c.args.end.now.penalty = search rules in
    let adj_fits : SFits w32 c.adj_demerits.result = search rules in
    let wide_fits : SFits w64 c.adj_demerits.result = search rules in
    let plain_fits : SFits w64 c.plain_demerits-plain.result = search rules in
    let all_fits : SFits w64 (c.plain_demerits-plain.result +ℤ c.adj_demerits.result) = search rules in
    let is = simp to_z-of_z at c.plain_demerits-plain.ensures.value in
    let all : c.plain_demerits-plain.result +ℤ c.adj_demerits.result ≡ demerits p x.class x.at b =
    ap (λ z. r +ℤ z) c.adj_demerits.ensures
    ∙ sym (ap (λ u. r +ℤ cond u p.shape.adj_demerits (pos 0)) c.if-are_apart.true)
    ∙ demerits_is p x.at b x.class c.args.line c.args.end.now.penalty r c.are_apart.result c.requires.line c.requires.end.penalty is c.are_apart.ensures in
    simp to_z-of_z all

pub returns-else-are_apart-clause-value : goal.returns-else-are_apart-clause-value
returns-else-are_apart-clause-value c =
    let p = pass_of c.args.lines.now in
    let x = c.args.x.now in
    let b = c.args.end.now.at in
    let r = c.plain_demerits-plain.result in
    let line_fits : SFits w32 c.args.lines.now.shape.line_penalty = search rules in
    let penalty_fits : SFits w64 c.args.end.now.penalty = search rules in
    let plain_fits : SFits w64 c.plain_demerits-plain.result = search rules in
    let is = simp to_z-of_z at c.plain_demerits-plain.ensures.value in
    let none : r ≡ r +ℤ pos 0 = omega (arith, ints) in
    let all : c.plain_demerits-plain.result ≡ demerits p x.class x.at b =
    none
    ∙ sym (ap (λ u. r +ℤ cond u p.shape.adj_demerits (pos 0)) c.if-are_apart.false)
    ∙ demerits_is p x.at b x.class c.args.line c.args.end.now.penalty r c.are_apart.result c.requires.line c.requires.end.penalty is c.are_apart.ensures in
    simp to_z-of_z all
