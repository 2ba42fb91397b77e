-- Tokens as the mouth gives them.
use Rattle.std.specs.Prelude.{List}
use Rattle.tok_lists.specs.declared.spelling.Spelling.{Spelling}
use Rattle.tok_lists.specs.declared.token.Token.{Token}
use Rattle.tok_lists.specs.Names.{AreHeld, HasNoParam}

-- No parameter stands in the list, and each of its names is held by the names.
pub record AreTokens (names : List Spelling) (list : List Token) : Type 0 where
  pub held : AreHeld names list
  pub no_param : HasNoParam list
