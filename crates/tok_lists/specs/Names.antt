-- How names are numbered.
use Rattle.std.specs.Prelude.{ℕ, Bool, not, nat_le, ◌&&◌, List, [], ◌∷◌, ◌++◌, length, if◌then◌else◌, Result, Ok, Err, slice_get, ◌≡◌, ◌≤◌, ◌<◌, Some, take}
use Rattle.std.specs.List.{list_any, position_or_len, IsDistinct}
use Rattle.tok_lists.specs.declared.spelling.Spelling.{Spelling}
use Rattle.tok_lists.specs.declared.token.Token.{Token}
use Rattle.tok_lists.specs.declared.token.Token.TheVariants as tokens
use Rattle.tok_lists.specs.declared.fault.NamesFault.{NamesFault}
use Rattle.tok_lists.specs.declared.fault.NamesFault.TheVariants.{NamesFull, NoMemory}
use Rattle.tok_lists.specs.Same.{is_same}
use Rattle.ts_base.specs.Agreement.{Cause, Determined, Free}

-- where names end
abbrev pub most_names : ℕ
most_names = 50000

abbrev pub is_known : List Spelling → Spelling → Bool
is_known names spelling = list_any (is_same spelling) names

-- the number of a spelling: its place among the names, or the next number where it is new
abbrev pub number_in : List Spelling → Spelling → ℕ
number_in names spelling = position_or_len (is_same spelling) names

-- the names, with this one: a new one comes last
abbrev pub with_name : List Spelling → Spelling → List Spelling
with_name names spelling = if is_known names spelling then names else names ++ spelling ∷ []

-- the number that a spelling gets, or NamesFull where it is new and there is no number left
abbrev pub numbered : List Spelling → Spelling → Result ℕ NamesFault
numbered names spelling =
    if not (is_known names spelling) && nat_le most_names (length names) then Err NamesFull
    else Ok (number_in names spelling)

abbrev pub names_cause : NamesFault → Cause
names_cause NamesFull = Determined
names_cause NoMemory = Free

-- no spelling has two numbers
abbrev pub HaveOneNumberEach : List Spelling → Type 0
HaveOneNumberEach names = (m n : ℕ) (s : Spelling) → slice_get names m ≡ Some s → slice_get names n ≡ Some s → m ≡ n

-- The names grew: the old ones stand first, at their numbers.
abbrev pub Grew : List Spelling → List Spelling → Type 0
Grew old new = take (length old) new ≡ old

-- A name that a token has is held by the names.
abbrev pub IsHeld : List Spelling → Token → Type 0
IsHeld names (tokens.Char code cat) = Unit {0}
IsHeld names (tokens.Ja cell) = Unit {0}
IsHeld names (tokens.Name name) = name.0 < length names
IsHeld names (tokens.Kept name) = name.0 < length names
IsHeld names (tokens.Param n) = Unit {0}

-- Each name that the tokens of a list have is held by the names.
abbrev pub AreHeld : List Spelling → List Token → Type 0
AreHeld names [] = Unit {0}
AreHeld names (token ∷ list) = IsHeld names token × AreHeld names list

abbrev pub IsNoParam : Token → Type 0
IsNoParam (tokens.Char code cat) = Unit {0}
IsNoParam (tokens.Ja cell) = Unit {0}
IsNoParam (tokens.Name name) = Unit {0}
IsNoParam (tokens.Kept name) = Unit {0}
IsNoParam (tokens.Param n) = ⊥

-- No parameter stands in a list.
abbrev pub HasNoParam : List Token → Type 0
HasNoParam [] = Unit {0}
HasNoParam (token ∷ list) = IsNoParam token × HasNoParam list

-- what is true of the names at all times
pub record AreFewAndDistinct (names : List Spelling) : Type 0 where
  pub few : length names ≤ most_names
  pub distinct : IsDistinct is_same names
