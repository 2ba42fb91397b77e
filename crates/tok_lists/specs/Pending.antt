-- The flat list of pending tokens, the next one first: lists are put in front of it, and macro calls as their bodies with the
-- arguments put in place (The TeXbook, chapter 20).
use Rattle.std.specs.Prelude.{◌≡◌, ℕ, ◌+◌, ◌-◌, ◌≤◌, nat_le, List, [], ◌∷◌, ◌++◌, length, slice_index_or, if◌then◌else◌, Option, Some, None, Result, Ok, Err}
use Rattle.std.specs.List.{flat_map}
use Rattle.tok_lists.specs.declared.spelling.Spelling.{Spelling}
use Rattle.tok_lists.specs.declared.token.Token.{Token}
use Rattle.tok_lists.specs.declared.token.Token.TheVariants as tokens
use Rattle.tok_lists.specs.declared.pending_fault.PendingFault.{PendingFault}
use Rattle.tok_lists.specs.declared.pending_fault.PendingFault.TheVariants.{TokensFull, NoMemory}
use Rattle.tok_lists.specs.Names.{AreHeld, HasNoParam}
use Rattle.ts_base.specs.Agreement.{Cause, Determined, Free}

-- the argument of a number, counted from 1
abbrev pub argument : List (List Token) → ℕ → List Token
argument args number = slice_index_or args (number - 1) []

-- what stands in the place of a token of a body: the argument of a parameter, and any other token itself
abbrev pub in_place : List (List Token) → Token → List Token
in_place args (tokens.Char code cat) = tokens.Char code cat ∷ []
in_place args (tokens.Ja cell) = tokens.Ja cell ∷ []
in_place args (tokens.Name name) = tokens.Name name ∷ []
in_place args (tokens.Kept name) = tokens.Kept name ∷ []
in_place args (tokens.Param n) = argument args n

-- a body with its arguments put in place
abbrev pub with_arguments : List (List Token) → List Token → List Token
with_arguments args body = flat_map (in_place args) body

-- how many tokens may be pending
abbrev pub most_pending : ℕ
most_pending = 1000000

-- the pending tokens after a list is put in front of them
abbrev pub put_before : List Token → List Token → Result (List Token) PendingFault
put_before list pending = if nat_le (length list + length pending) most_pending then Ok (list ++ pending) else Err TokensFull

abbrev pub pending_cause : PendingFault → Cause
pending_cause TokensFull = Determined
pending_cause NoMemory = Free

-- The first of the old tokens is taken, and the new ones are left; nothing is taken exactly where there is none.
abbrev pub Takes : List Token → Option Token → List Token → Type 0
Takes old None new = (old ≡ []) × (new ≡ [])
Takes old (Some token) new = old ≡ token ∷ new

-- A parameter is one of the first so many.
abbrev pub IsParamWithin : ℕ → Token → Type 0
IsParamWithin count (tokens.Char code cat) = Unit {0}
IsParamWithin count (tokens.Ja cell) = Unit {0}
IsParamWithin count (tokens.Name name) = Unit {0}
IsParamWithin count (tokens.Kept name) = Unit {0}
IsParamWithin count (tokens.Param n) = (1 ≤ n) × (n ≤ count)

-- Each parameter of a list is one of the first so many.
abbrev pub AreParamsWithin : ℕ → List Token → Type 0
AreParamsWithin count [] = Unit {0}
AreParamsWithin count (token ∷ list) = IsParamWithin count token × AreParamsWithin count list

-- No parameter stands in any of the lists.
abbrev pub HaveNoParam : List (List Token) → Type 0
HaveNoParam [] = Unit {0}
HaveNoParam (list ∷ lists) = HasNoParam list × HaveNoParam lists

-- Each name that the tokens of the lists have is held by the names.
abbrev pub AllHeld : List Spelling → List (List Token) → Type 0
AllHeld names [] = Unit {0}
AllHeld names (list ∷ lists) = AreHeld names list × AllHeld names lists
