use Rattle.std.proofs.Common.{Bool, ap, ◌∙◌}
use Rattle.std.specs.Cmp.Lexicographic.{pointwise}
use Rattle.tok_lists.specs.declared.token.Token.{Token}
use Rattle.macros.proofs.Equal.{tests_same}
use Rattle.macros.proofs.same.are_same.Goals as goal

pub returns : goal.returns
returns c = c.eq.ensures ∙ ap (λ (same : Token → Token → Bool). pointwise same c.args.first.now c.args.second.now) (λ i a b. tests_same a b i)
