-- Tokens stay as the mouth gives them while names come.
use Rattle.std.specs.Prelude.{List}
use Rattle.tok_lists.specs.declared.spelling.Spelling.{Spelling}
use Rattle.tok_lists.specs.declared.token.Token.{Token}
use Rattle.tok_lists.specs.Names.{Grew}
use Rattle.tok_lists.proofs.Growing.{held_still, all_held_still}
use Rattle.mouth.specs.Keeping.{IsToken}
use Rattle.raw_texts.specs.Holding.{AreTokens}

pub tokens_still : (old new : List Spelling) (list : List Token) → Grew old new → AreTokens old list → AreTokens new list
tokens_still old new list grew are = record { held = all_held_still old new list grew are.held; no_param = are.no_param }

pub token_still : (old new : List Spelling) (token : Token) → Grew old new → IsToken old token → IsToken new token
token_still old new token grew is = (held_still old new token grew is.0, is.1)
