-- Keywords (The TeXbook, chapter 24): letters in small or capital form, after spaces that are lost.
use Rattle.std.specs.Prelude.{ℕ, ◌==◌, Bool, true, false, List, [], ◌∷◌, if◌then◌else◌, Option, Some, None}
use Rattle.scan_numbers.specs.Contexts.{Context}
use Rattle.scan_numbers.specs.declared.fault.ScanKind.TheVariants.{NoNumber}
use Rattle.scan_numbers.specs.Tokens.{FedToken, fed, is_space, letter}
use Rattle.scan_numbers.specs.Answers.{Answer, Got, Needs, Bad, Expanded, ◌>>=◌}

abbrev pub is_letter : ℕ → Option ℕ → Bool
is_letter letter (Some c) = c == letter
is_letter letter None = false

-- Where a word isn't there, the tokens that were looked at are left, to be met again with the environment of the last one.
abbrev pub or_left : FedToken → Bool → Context → List FedToken → Answer Bool
or_left x true context rest = Got true context rest
or_left x false context rest = Got false context (fed x.token context ∷ rest)

-- whether the letters of a word are at the front
unfoldable pub letters : List ℕ → List FedToken → Answer Bool
letters [] list = Bad NoNumber
letters (c ∷ cs) [] = Needs Expanded
letters (c ∷ []) (x ∷ rest) = if is_letter c (letter x.token) then Got true x.context rest else Got false x.context (x ∷ rest)
letters (c ∷ d ∷ ds) (x ∷ rest) = if is_letter c (letter x.token) then letters (d ∷ ds) rest >>= or_left x else Got false x.context (x ∷ rest)

-- Spaces before a keyword are lost, also where it isn't there.
unfoldable pub keyword : List ℕ → List FedToken → Answer Bool
keyword word [] = Needs Expanded
keyword word (x ∷ rest) = if is_space x.token x.context then keyword word rest else letters word (x ∷ rest)
