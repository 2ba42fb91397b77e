-- An environment with another situation.
use Rattle.std.proofs.Common.{◌≡◌, List}
use Rattle.tok_lists.specs.declared.spelling.Spelling.{Spelling}
use Rattle.env_groups.specs.Environments.{Nest}
use Rattle.env_groups.specs.declared.situation.Situation.{Situation}
use Rattle.expander.specs.Holding.{AreFit}

-- Expansion doesn't look at the situation.
pub situated_fits : (names : List Spelling) (old new : Nest) (s : Situation) → new ≡ record old { situation = s } → AreFit names old → AreFit names new
unfolding AreFit
situated_fits names old new s is fit = rw is fit
