use Rattle.std.proofs.Common.{◌≡◌, ◌∙◌, rules, SFits, w64}
use Rattle.std.proofs.lemmas.Int.{to_z-of_z}
use Rattle.line_break.specs.Lines.{penalty}
use Rattle.line_break.specs.Ready.{pass_of}
use Rattle.line_break.proofs.Prepared.{penalty_is}
use Rattle.line_break.proofs.search.Lines.penalty.Goals as goal

pub returns : goal.returns
returns c =
    let fits : SFits w64 c.penalty_at.result = search rules in
    let is : c.penalty_at.result ≡ penalty (pass_of c.args.self.now) c.args.b =
    c.penalty_at.ensures ∙ penalty_is c.args.self.now c.args.b c.place.result c.index-self-place.result c.requires.prepared c.requires.start c.requires.inside c.place.ensures.value in
    simp to_z-of_z is
