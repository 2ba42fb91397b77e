-- What the code keeps of the pending tokens: the rests of the lists that were put, the one that is read first at the end.
use Rattle.std.specs.Prelude.{◌≡◌, ℕ, ◌≤◌, List, [], ◌∷◌, ◌++◌, length}
use Rattle.tok_lists.specs.declared.token.Token.{Token}
use Rattle.tok_lists.specs.Names.{HasNoParam}
use Rattle.tok_lists.specs.Pending.{most_pending}

-- the tokens of all rests, those of the last first
abbrev pub flat : List (List Token) → List Token
flat [] = []
flat (rest ∷ rests) = flat rests ++ rest

abbrev pub IsUnread : List Token → Type 0
IsUnread [] = ⊥
IsUnread (token ∷ rest) = Unit {0}

-- Each rest has a token.
abbrev pub AreUnread : List (List Token) → Type 0
AreUnread [] = Unit {0}
AreUnread (rest ∷ rests) = IsUnread rest × AreUnread rests

-- what is true of the rests, of which so many tokens are counted
pub record AreCounted (rests : List (List Token)) (left : ℕ) : Type 0 where
  pub counted : left ≡ length (flat rests)
  pub few : left ≤ most_pending
  pub unread : AreUnread rests
  pub no_param : HasNoParam (flat rests)
