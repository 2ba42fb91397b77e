-- Lists of tokens that grow.
use Rattle.std.proofs.Common.{List, [], ◌∷◌, ◌++◌}
use Rattle.tok_lists.specs.declared.spelling.Spelling.{Spelling}
use Rattle.tok_lists.specs.declared.token.Token.{Token}
use Rattle.tok_lists.proofs.Flat.{held_together, no_param_together}
use Rattle.mouth.specs.Keeping.{IsToken}
use Rattle.raw_texts.specs.Holding.{AreTokens}

pub no_tokens : (names : List Spelling) → AreTokens names []
no_tokens names = record { held = tt; no_param = tt }

pub tokens_last : (names : List Spelling) (list : List Token) (token : Token) → AreTokens names list → IsToken names token → AreTokens names (list ++ token ∷ [])
tokens_last names list token are is = record {
  held = held_together names list (token ∷ []) are.held (is.0, tt);
  no_param = no_param_together list (token ∷ []) are.no_param (is.1, tt);
}
