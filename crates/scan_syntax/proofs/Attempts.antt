-- Steps of keywords.
use Rattle.std.proofs.Common.{◌≡◌, ℕ, ◌+◌, ◌<◌, Bool, true, false, List, [], ◌∷◌, ◌++◌, length, drop, refl, sym, ap, ◌∙◌, arith, length-append, slice_index, Result, Ok, Err}
use Rattle.scan_numbers.specs.declared.fault.ScanFault.{ScanFault}
use Rattle.scan_numbers.specs.declared.fault.ScanFault.TheVariants.{Kind, NoMemory}
use Rattle.scan_syntax.specs.declared.keyword.Attempt.{Attempt}
use Rattle.scan_syntax.specs.declared.keyword.Attempt.TheVariants.{On, There, Not}
use Rattle.std.specs.Prelude.{◌==◌}
use Rattle.std.proofs.lemmas.Bool.Decides.{nat_tests}
use Rattle.std.proofs.lemmas.List.{drop_more, drop_all}
use Rattle.scan_numbers.specs.Contexts.{Context}
use Rattle.tok_lists.specs.declared.token.Token.{Token}
use Rattle.scan_syntax.specs.declared.keyword.Keyword.{Keyword}
use Rattle.scan_numbers.specs.Tokens.{FedToken, fed, put_back, is_space, letter}
use Rattle.scan_numbers.specs.Answers.{Answer, Got, Needs, Bad, Expanded, ◌>>=◌}
use Rattle.scan_numbers.specs.Keywords.{letters, keyword, is_letter, or_left}
use Rattle.scan_syntax.specs.Words.{letters_of}
use Rattle.scan_syntax.specs.Attempts.{Attempts, or_back, within_left, word_left, keyword_left}

pub fresh : (k : Keyword) (list : List FedToken) → k.matched.items ≡ [] → keyword_left k list ≡ keyword (letters_of k.word) list
unfolding keyword_left word_left
fresh k list is = rw is refl

-- ---- the next letter

left_back : (ms : List Token) (token : Token) (context : Context) (rest : List FedToken) → put_back context (ms ++ token ∷ []) ++ rest ≡ put_back context ms ++ fed token context ∷ rest
left_back [] token context rest = refl
left_back (m ∷ ms) token context rest = ap (λ left. fed m context ∷ left) (left_back ms token context rest)

unchanged : (a : Answer Bool) → a >>= or_back [] ≡ a
unchanged (Got true context rest) = refl
unchanged (Got false context rest) = refl
unchanged (Needs form) = refl
unchanged (Bad kind) = refl

further_back : (ms : List Token) (token : Token) (context : Context) (a : Answer Bool) → (a >>= or_left (fed token context)) >>= or_back ms ≡ a >>= or_back (ms ++ token ∷ [])
further_back ms token context (Got true at rest) = refl
further_back ms token context (Got false at rest) = ap (λ left. Got false at left) (sym (left_back ms token at rest))
further_back ms token context (Needs form) = refl
further_back ms token context (Bad kind) = refl

letters_not : (c : ℕ) (cs : List ℕ) (token : Token) (context : Context) (rest : List FedToken) → is_letter c (letter token) ≡ false
    → letters (c ∷ cs) (fed token context ∷ rest) ≡ Got false context (fed token context ∷ rest)
unfolding letters
letters_not c [] token context rest no_letter = rw no_letter refl
letters_not c (d ∷ ds) token context rest no_letter = rw no_letter refl

pub next_letter : (word : List ℕ) (n : ℕ) → n < length word → drop n word ≡ slice_index word n ∷ drop (n + 1) word
next_letter word n short = drop_more word n 0 short

pub within_not : (ms back : List Token) (word : List ℕ) (token : Token) (context : Context) (rest : List FedToken) → length ms < length word
    → is_letter (slice_index word (length ms)) (letter token) ≡ false → back ≡ ms ++ token ∷ []
    → within_left ms word (fed token context ∷ rest) ≡ Got false context (put_back context back ++ rest)
unfolding within_left
within_not ms back word token context rest short other is =
    rw (next_letter word (length ms) short, letters_not (slice_index word (length ms)) (drop (length ms + 1) word) token context rest other, is) (ap (λ left. Got false context left) (sym (left_back ms token context rest)))

pub within_there : (ms : List Token) (word : List ℕ) (token : Token) (context : Context) (rest : List FedToken) → length ms + 1 ≡ length word
    → is_letter (slice_index word (length ms)) (letter token) ≡ true
    → within_left ms word (fed token context ∷ rest) ≡ Got true context rest
unfolding within_left letters
within_there ms word token context rest last here =
    let short : length ms < length word = omega arith in
    let none : drop (length ms + 1) word ≡ [] = drop_all (length ms + 1) word (omega arith) in
    rw (next_letter word (length ms) short, none, here) refl

pub within_on : (ms more : List Token) (word : List ℕ) (token : Token) (context : Context) (rest : List FedToken) → length ms + 1 < length word
    → is_letter (slice_index word (length ms)) (letter token) ≡ true → more ≡ ms ++ token ∷ []
    → within_left ms word (fed token context ∷ rest) ≡ within_left more word rest
unfolding within_left letters
within_on ms more word token context rest short here is =
    let before : length ms < length word = omega arith in
    let count : length (ms ++ token ∷ []) ≡ length ms + 1 = length-append ms (token ∷ []) in
    rw (is, count, next_letter word (length ms) before, next_letter word (length ms + 1) short, here) (further_back ms token context (letters (slice_index word (length ms + 1) ∷ drop (length ms + 1 + 1) word) rest))

pub ruleset attempts = (within_not, within_there)

none_matched : (ms : List Token) → true ≡ (length ms == 0) → ms ≡ []
none_matched [] is = refl
none_matched (m ∷ ms) is = absurd (grind (arith, nat_tests))

some_matched : (ms : List Token) → false ≡ (length ms == 0) → 0 < length ms
some_matched [] is = absurd (grind (arith, nat_tests))
some_matched (m ∷ ms) is = omega arith

pub space_on : (k : Keyword) (token : Token) (context : Context) (rest : List FedToken) → true ≡ (length k.matched.items == 0) → true ≡ is_space token context → keyword_left k (fed token context ∷ rest) ≡ keyword_left k rest
unfolding keyword_left word_left keyword
space_on k token context rest none space = rw (none_matched k.matched.items none, ← space) refl

first_attempt : (ms : List Token) (word : List ℕ) (token : Token) (context : Context) (rest : List FedToken) → true ≡ (length ms == 0) → false ≡ is_space token context
    → word_left ms word (fed token context ∷ rest) ≡ within_left ms word (fed token context ∷ rest)
unfolding word_left within_left keyword
first_attempt ms word token context rest none dark = rw (none_matched ms none, ← dark, unchanged (letters word (fed token context ∷ rest))) refl

next_attempt : (ms : List Token) (word : List ℕ) (list : List FedToken) → 0 < length ms → word_left ms word list ≡ within_left ms word list
unfolding word_left
next_attempt [] word list some = absurd (omega arith)
next_attempt (m ∷ ms) word list some = refl

same_attempt : (x : FedToken) (before before' : List FedToken → Answer Bool) (result : Result Attempt ScanFault)
    → ((rest : List FedToken) → before' (x ∷ rest) ≡ before (x ∷ rest)) → Attempts x before result → Attempts x before' result
same_attempt x before before' (Ok (On k)) same follows = λ rest. same rest ∙ follows rest
same_attempt x before before' (Ok There) same follows = λ rest. same rest ∙ follows rest
same_attempt x before before' (Ok (Not back)) same follows = λ rest. same rest ∙ follows rest
same_attempt x before before' (Err (Kind kind)) same follows = follows
same_attempt x before before' (Err NoMemory) same follows = tt

pub first_follows : (k : Keyword) (token : Token) (context : Context) (result : Result Attempt ScanFault) → true ≡ (length k.matched.items == 0) → false ≡ is_space token context
    → Attempts (fed token context) (within_left k.matched.items (letters_of k.word)) result → Attempts (fed token context) (keyword_left k) result
unfolding keyword_left
first_follows k token context result none dark follows =
    same_attempt (fed token context) (within_left k.matched.items (letters_of k.word)) (keyword_left k) result (λ rest. first_attempt k.matched.items (letters_of k.word) token context rest none dark) follows

pub next_follows : (k : Keyword) (x : FedToken) (result : Result Attempt ScanFault) → false ≡ (length k.matched.items == 0)
    → Attempts x (within_left k.matched.items (letters_of k.word)) result → Attempts x (keyword_left k) result
unfolding keyword_left
next_follows k x result some follows =
    same_attempt x (within_left k.matched.items (letters_of k.word)) (keyword_left k) result (λ rest. next_attempt k.matched.items (letters_of k.word) (x ∷ rest) (some_matched k.matched.items some)) follows

pub matched_on : (j : Keyword) (ms : List Token) (word : List ℕ) (token : Token) (context : Context) (rest : List FedToken) → length ms < length word → (length ms + 1 ≡ length word → ⊥)
    → is_letter (slice_index word (length ms)) (letter token) ≡ true → j.matched.items ≡ ms ++ token ∷ [] → letters_of j.word ≡ word
    → within_left ms word (fed token context ∷ rest) ≡ keyword_left j rest
unfolding keyword_left
matched_on j ms word token context rest before last here is same =
    let short : length ms + 1 < length word = omega arith in
    let count : length (ms ++ token ∷ []) ≡ length ms + 1 = length-append ms (token ∷ []) in
    let some : 0 < length (ms ++ token ∷ []) = omega arith in
    rw (is, same) (within_on ms (ms ++ token ∷ []) word token context rest short here refl ∙ sym (next_attempt (ms ++ token ∷ []) word rest some))

word_needs : (ms : List Token) (word : List ℕ) → length ms < length word → word_left ms word [] ≡ Needs Expanded
unfolding word_left within_left keyword letters
word_needs [] word short = refl
word_needs (m ∷ ms) word short = rw (next_letter word (length (m ∷ ms)) short) refl

pub keyword_needs : (k : Keyword) → keyword_left k [] ≡ Needs Expanded
unfolding keyword_left
keyword_needs k = word_needs k.matched.items (letters_of k.word) k.shorter
