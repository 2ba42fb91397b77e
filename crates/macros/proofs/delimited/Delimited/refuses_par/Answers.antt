use Rattle.std.proofs.Common.{ap, ◌∙◌, ◌-◌, ◌++◌, ◌∷◌, [], suc, take, subst, sym, List}
use Rattle.tok_lists.specs.declared.token.Token.{Token}
use Rattle.macros.specs.Matching.{Search, has_par}
use Rattle.macros.specs.Searches.{IsSearch}
use Rattle.macros.proofs.Invariant.{many_most, next_many_most, par_after}
use Rattle.macros.proofs.delimited.Delimited.refuses_par.Goals as goal

pub lets_par_in-requires-clause-most : goal.lets_par_in-requires-clause-most
lets_par_in-requires-clause-most c =
    let inside = c.self.inside in
    let S : Search → Type 0 = λ s. IsSearch s inside.level inside.many in
    let is = subst S c.self.view_is c.self.invariant.0 in
    rw c.delimiter.ensures (many_most c.args.self.now inside.level inside.many is)

pub lets_par_in-requires-clause-next : goal.lets_par_in-requires-clause-next
lets_par_in-requires-clause-next c =
    let inside = c.self.inside in
    let S : Search → Type 0 = λ s. IsSearch s inside.level inside.many in
    let is = subst S c.self.view_is c.self.invariant.0 in
    next_many_most c.args.self.now inside.level inside.many c.args.token.now c.args.many is c.requires

pub returns : goal.returns
returns c =
    let inside = c.self.inside in
    let S : Search → Type 0 = λ s. IsSearch s inside.level inside.many in
    let is = subst S c.self.view_is c.self.invariant.0 in
    let short = ap (λ (s : Search). s.long) (sym c.self.view_is) ∙ c.if-self.false in
    c.lets_par_in.ensures
    ∙ ap (λ (d : List Token). has_par (take (suc inside.many - c.args.many) (take inside.many d ++ c.args.token.now ∷ []))) c.delimiter.ensures
    ∙ par_after c.args.self.now inside.level inside.many c.args.token.now c.args.many is short c.requires
