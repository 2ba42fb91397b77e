use Rattle.std.proofs.Common.{ap, ◌∙◌, subst}
use Rattle.std.proofs.Common.{List}
use Rattle.tok_lists.specs.declared.token.Token.{Token}
use Rattle.macros.specs.Matching.{Search}
use Rattle.macros.specs.Borders.{next_match}
use Rattle.macros.specs.Searches.{IsSearch}
use Rattle.macros.proofs.Invariant.{many_less, next_closed}
use Rattle.macros.proofs.delimited.Delimited.next_many.Goals as goal

pub next_match-requires : goal.next_match-requires
next_match-requires c =
    let inside = c.self.inside in
    let S : Search → Type 0 = λ s. IsSearch s inside.level inside.many in
    let is = subst S c.self.view_is c.self.invariant.0 in
    rw c.delimiter.ensures (many_less c.args.self.now inside.level inside.many is c.requires)

pub returns : goal.returns
returns c =
    let inside = c.self.inside in
    let S : Search → Type 0 = λ s. IsSearch s inside.level inside.many in
    let is = subst S c.self.view_is c.self.invariant.0 in
    c.next_match.ensures ∙ ap (λ (d : List Token). next_match d inside.many c.args.token.now) c.delimiter.ensures
    ∙ next_closed c.args.self.now inside.level inside.many c.args.token.now is c.requires c.if-self-gt0.false
