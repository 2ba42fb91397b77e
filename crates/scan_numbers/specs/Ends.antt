-- The ends of lists of tokens that are fed.
use Rattle.std.specs.Prelude.{◌≡◌, List, ◌++◌, map}
use Rattle.tok_lists.specs.declared.token.Token.{Token}
use Rattle.scan_numbers.specs.Tokens.{FedToken}

-- the tokens of a list, without that with which they were fed
abbrev pub tokens_of : List FedToken → List Token
tokens_of list = map (λ (x : FedToken). x.token) list

-- Tokens are the last ones of a list, in its order.
abbrev pub AreLast : List Token → List Token → Type 0
AreLast list last = (before : List Token) × (before ++ last ≡ list)
