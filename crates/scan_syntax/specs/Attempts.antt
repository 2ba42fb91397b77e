-- What is still to be read of a keyword.
use Rattle.std.specs.Prelude.{◌≡◌, ℕ, Bool, true, false, List, [], ◌∷◌, ◌++◌, length, drop, Result, Ok, Err}
use Rattle.scan_numbers.specs.Contexts.{Context}
use Rattle.tok_lists.specs.declared.token.Token.{Token}
use Rattle.scan_numbers.specs.declared.fault.ScanFault.{ScanFault}
use Rattle.scan_numbers.specs.declared.fault.ScanFault.TheVariants.{Kind, NoMemory}
use Rattle.scan_syntax.specs.declared.keyword.Keyword.{Keyword}
use Rattle.scan_syntax.specs.declared.keyword.Attempt.{Attempt}
use Rattle.scan_syntax.specs.declared.keyword.Attempt.TheVariants.{On, There, Not}
use Rattle.scan_numbers.specs.Tokens.{FedToken, put_back}
use Rattle.scan_numbers.specs.Answers.{Answer, Got, ◌>>=◌}
use Rattle.scan_numbers.specs.Keywords.{letters, keyword}
use Rattle.scan_syntax.specs.Words.{letters_of}

-- Where a word isn't there, the letters before are left too.
abbrev pub or_back : List Token → Bool → Context → List FedToken → Answer Bool
or_back back true context rest = Got true context rest
or_back back false context rest = Got false context (put_back context back ++ rest)

-- what is still to be read of a word, of which these tokens were the first letters
unfoldable pub within_left : List Token → List ℕ → List FedToken → Answer Bool
within_left ms word list = letters (drop (length ms) word) list >>= or_back ms

unfoldable pub word_left : List Token → List ℕ → List FedToken → Answer Bool
word_left [] word list = keyword word list
word_left (m ∷ ms) word list = within_left (m ∷ ms) word list

unfoldable pub keyword_left : Keyword → List FedToken → Answer Bool
keyword_left k list = word_left k.matched.items (letters_of k.word) list

abbrev pub Attempts : FedToken → (List FedToken → Answer Bool) → Result Attempt ScanFault → Type 0
Attempts x before (Ok (On k)) = (rest : List FedToken) → before (x ∷ rest) ≡ keyword_left k rest
Attempts x before (Ok There) = (rest : List FedToken) → before (x ∷ rest) ≡ Got true x.context rest
Attempts x before (Ok (Not back)) = (rest : List FedToken) → before (x ∷ rest) ≡ Got false x.context (put_back x.context back.items ++ rest)
Attempts x before (Err (Kind kind)) = ⊥
Attempts x before (Err NoMemory) = Unit {0}
