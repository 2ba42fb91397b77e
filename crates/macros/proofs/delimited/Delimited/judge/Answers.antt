use Rattle.std.proofs.Common.{subst, ◌∙◌, ap, length, List}
use Rattle.tok_lists.specs.declared.token.Token.{Token}
use Rattle.macros.specs.Matching.{Search}
use Rattle.macros.specs.Searches.{IsSearch}
use Rattle.macros.proofs.Invariant.{par_done}
use Rattle.macros.proofs.delimited.Delimited.judge.Goals as goal

pub returns-then-many-delimiter-clause-par : goal.returns-then-many-delimiter-clause-par
returns-then-many-delimiter-clause-par c =
    let inside = c.self.inside in
    let S : Search → Type 0 = λ s. IsSearch s inside.level inside.many in
    let is = subst S c.self.view_is c.self.invariant.0 in
    let whole = c.if-many-delimiter.true ∙ ap (λ (d : List Token). length d) c.delimiter.ensures in
    par_done c.args.self.now inside.level inside.many c.args.token.now c.args.many is c.requires.going c.requires.many whole
