use Rattle.std.proofs.Common.{ap, ◌∙◌, take}
use Rattle.tok_lists.specs.declared.token.Token.{Token}
use Rattle.std.proofs.Common.{List}
use Rattle.macros.specs.Same.{are_same}
use Rattle.macros.proofs.Searching.{border_slice}
use Rattle.macros.proofs.border.is_border.Goals as goal

pub returns : goal.returns
returns c =
    let d = c.args.delimiter.now in
    c.are_same.ensures ∙ ap (λ (l : List Token). are_same l (take c.args.few d)) (border_slice d c.args.many c.args.few c.requires.fewer c.requires.most)
