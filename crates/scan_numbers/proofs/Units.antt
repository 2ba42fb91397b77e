-- The names of units, by their letters.
use Rattle.std.proofs.Common.{◌≡◌, ℕ, Bool, true, false, cond, List, [], ◌∷◌, Option, Some, None, refl, sym, subst, ◌∙◌, inl, inr}
use Rattle.std.specs.Prelude.{if◌then◌else◌, ◌==◌}
use Rattle.std.proofs.lemmas.Bool.Decides.{eqb_tells}
use Rattle.scan_numbers.specs.Contexts.{Context}
use Rattle.tok_lists.specs.declared.token.Token.{Token}
use Rattle.tok_lists.specs.declared.token.Token.TheVariants.{Char, Ja, Name, Kept, Param}
use Rattle.scan_numbers.specs.declared.fault.ScanKind.TheVariants.{NoUnit}
use Rattle.scan_numbers.specs.declared.letters.First.{First}
use Rattle.scan_numbers.specs.declared.letters.First.TheVariants as firsts
use Rattle.scan_numbers.specs.declared.measure.Unit.{Unit}
use Rattle.scan_numbers.specs.declared.measure.Unit.TheVariants.{Point, Pica, Inch, BigPoint, Centimeter, Millimeter, Didot, Cicero, Scaled, Quarter, Em, Ex, Zw, Zh}
use Rattle.scan_numbers.specs.Tokens.{FedToken, fed, start, is_space, letter}
use Rattle.scan_numbers.specs.Answers.{Answer, Got, Needs, Bad, Expanded, ◌>>=◌}
use Rattle.scan_numbers.specs.Keywords.{keyword, letters, is_letter, or_left}
use Rattle.scan_numbers.specs.Dimensions.{one_of, unit_names}
use Rattle.scan_numbers.specs.Machines.{second, first_of, second_letter, found, one_way, two_ways}

-- ---- a table of names of one or two letters, read letter by letter

-- what further names give, with the environment of the last token
abbrev other_letter : ℕ → Unit → List FedToken → (Context → List FedToken → Answer Unit) → Answer Unit
other_letter d u [] further = Needs Expanded
other_letter d u (y ∷ rest) further = if is_letter d (letter y.token) then Got u y.context rest else further y.context (y ∷ rest)

abbrev row : List ℕ → Unit → Option ℕ → Context → List FedToken → (Context → List FedToken → Answer Unit) → Answer Unit
row (c ∷ []) u o context rest further = if is_letter c o then Got u context rest else further context rest
row (c ∷ d ∷ []) u o context rest further = if is_letter c o then other_letter d u rest further else further context rest
row _ u o context rest further = further context rest

abbrev rows : List (List ℕ × Unit) → Option ℕ → Context → List FedToken → Answer Unit
rows [] o context rest = Bad NoUnit
rows (name ∷ names) o context rest = row name.0 name.1 o context rest (rows names o)

abbrev IsShort : List ℕ → Type 0
IsShort (c ∷ []) = Prim.Unit {0}
IsShort (c ∷ d ∷ []) = Prim.Unit {0}
IsShort _ = ⊥

abbrev AreShort : List (List ℕ × Unit) → Type 0
AreShort [] = Prim.Unit {0}
AreShort (name ∷ names) = IsShort name.0 × AreShort names

-- what a token is that is dark in every environment
abbrev pub IsDark : Token → Type 0
IsDark token = (context : Context) → is_space token context ≡ false

row_is : (w : List ℕ) (u : Unit) (more : List (List ℕ × Unit)) (further : Context → List FedToken → Answer Unit) (token : Token) (context : Context) (rest : List FedToken) → IsShort w → IsDark token
    → ((at : Context) (list : List FedToken) → one_of more (fed token at ∷ list) ≡ further at list)
    → one_of ((w, u) ∷ more) (fed token context ∷ rest) ≡ row w u (letter token) context rest further
unfolding one_of keyword letters
row_is [] u more further token context rest short dark is = absurd short
row_is (c ∷ []) u more further token context rest short dark is =
    rw (dark context, ← is context rest) (one_letter (is_letter c (letter token)))
  where
    one_letter : (b : Bool) → ((cond b (Got true context rest) (Got false context (fed token context ∷ rest))) >>= λ there at left. if there then Got u at left else one_of more left)
        ≡ (if b then Got u context rest else one_of more (fed token context ∷ rest))
    one_letter true = refl
    one_letter false = refl
row_is (c ∷ d ∷ []) u more further token context [] short dark is =
    rw (dark context, ← is context []) (two_letters (is_letter c (letter token)))
  where
    two_letters : (b : Bool) → ((cond b (Needs Expanded >>= or_left (fed token context)) (Got false context (fed token context ∷ []))) >>= λ there at left. if there then Got u at left else one_of more left)
        ≡ (if b then Needs Expanded else one_of more (fed token context ∷ []))
    two_letters true = refl
    two_letters false = refl
row_is (c ∷ d ∷ []) u more further token context (y ∷ rest) short dark is =
    rw (dark context, ← is context (y ∷ rest), ← is y.context (y ∷ rest)) (two_letters (is_letter c (letter token)) (is_letter d (letter y.token)))
  where
    two_letters : (b e : Bool) → ((cond b ((cond e (Got true y.context rest) (Got false y.context (y ∷ rest))) >>= or_left (fed token context)) (Got false context (fed token context ∷ y ∷ rest)))
        >>= λ there at left. if there then Got u at left else one_of more left)
        ≡ (if b then (if e then Got u y.context rest else one_of more (fed token y.context ∷ y ∷ rest)) else one_of more (fed token context ∷ y ∷ rest))
    two_letters true true = refl
    two_letters true false = refl
    two_letters false e = refl
row_is (c ∷ d ∷ e ∷ w) u more further token context rest short dark is = absurd short

rows_are : (names : List (List ℕ × Unit)) (token : Token) (context : Context) (rest : List FedToken) → AreShort names → IsDark token
    → one_of names (fed token context ∷ rest) ≡ rows names (letter token) context rest
rows_are [] token context rest short dark = empty (fed token context ∷ rest)
  where
    empty : (list : List FedToken) → one_of [] list ≡ Bad NoUnit
    empty list = unfold one_of in refl
rows_are (name ∷ names) token context rest short dark =
    row_is name.0 name.1 names (rows names (letter token)) token context rest short.0 dark (λ at list. rows_are names token at list short.1 dark)

-- A letter is one in every environment.
same_start : (token : Token) (context at : Context) (a : ℕ) → letter token ≡ Some a → start token context ≡ start token at
unfolding start letter
same_start (Char code cat) context at a is = refl
same_start (Ja code) context at a is = refl
same_start (Name name) context at a is = cc
same_start (Kept name) context at a is = refl
same_start (Param n) context at a is = refl

pub dark_always : (token : Token) (context : Context) (a : ℕ) → letter token ≡ Some a → is_space token context ≡ false → IsDark token
dark_always token context a is dark = λ at. rw (same_start token at context a is) dark

unit_rows : (token : Token) (context : Context) (rest : List FedToken) → IsDark token
    → one_of unit_names (fed token context ∷ rest) ≡ rows unit_names (letter token) context rest
unit_rows token context rest dark = rows_are unit_names token context rest (unfold unit_names in (tt, (tt, (tt, (tt, (tt, (tt, (tt, (tt, (tt, (tt, (tt, (tt, (tt, (tt, (tt, tt)))))))))))))))) dark

-- no letter
none_by_word : (w : List ℕ) (u : Unit) (names : List (List ℕ × Unit)) (token : Token) (context : Context) (rest : List FedToken) → is_space token context ≡ false → letter token ≡ None
    → IsShort w → one_of names (fed token context ∷ rest) ≡ Bad NoUnit → one_of ((w, u) ∷ names) (fed token context ∷ rest) ≡ Bad NoUnit
unfolding one_of keyword letters
none_by_word [] u names token context rest dark is short more = absurd short
none_by_word (c ∷ []) u names token context rest dark is short more = rw (dark, is) more
none_by_word (c ∷ d ∷ []) u names token context rest dark is short more = rw (dark, is) more
none_by_word (c ∷ d ∷ e ∷ w) u names token context rest dark is short more = absurd short

none_by : (names : List (List ℕ × Unit)) (token : Token) (context : Context) (rest : List FedToken) → is_space token context ≡ false → letter token ≡ None
    → AreShort names → one_of names (fed token context ∷ rest) ≡ Bad NoUnit
unfolding one_of keyword letters
none_by [] token context rest dark is short = refl
none_by (name ∷ names) token context rest dark is short = none_by_word name.0 name.1 names token context rest dark is short.0 (none_by names token context rest dark is short.1)

pub first_none : (token : Token) (context : Context) (rest : List FedToken) → is_space token context ≡ false → letter token ≡ None
    → one_of unit_names (fed token context ∷ rest) ≡ Bad NoUnit
first_none token context rest dark is = none_by unit_names token context rest dark is (unfold unit_names in (tt, (tt, (tt, (tt, (tt, (tt, (tt, (tt, (tt, (tt, (tt, (tt, (tt, (tt, (tt, tt))))))))))))))))

-- ---- the first of two letters

-- a unit that one second letter makes
one_second : (b : ℕ) (u : Unit) (y : FedToken) (rest : List FedToken) (name : Option ℕ → Option Unit) (o : Option ℕ) → name None ≡ None → ((c : ℕ) → name (Some c) ≡ one_way c b u)
    → (if is_letter b o then Got u y.context rest else Bad NoUnit) ≡ found (name o) y rest
one_second b u y rest name None none some = rw none refl
one_second b u y rest name (Some c) none some = rw (some c) (by_test (c == b))
  where
    by_test : (is : Bool) → (if is then Got u y.context rest else Bad NoUnit) ≡ found (if is then Some u else None) y rest
    by_test true = refl
    by_test false = refl

-- two units that two second letters make
two_seconds : (b d : ℕ) (u v : Unit) (y : FedToken) (rest : List FedToken) (name : Option ℕ → Option Unit) (o : Option ℕ) → name None ≡ None → ((c : ℕ) → name (Some c) ≡ two_ways c b u d v)
    → (if is_letter b o then Got u y.context rest else (if is_letter d o then Got v y.context rest else Bad NoUnit)) ≡ found (name o) y rest
two_seconds b d u v y rest name None none some = rw none refl
two_seconds b d u v y rest name (Some c) none some = rw (some c) (by_tests (c == b) (c == d))
  where
    by_tests : (is also : Bool) → (if is then Got u y.context rest else (if also then Got v y.context rest else Bad NoUnit)) ≡ found (if is then Some u else (if also then Some v else None)) y rest
    by_tests true also = refl
    by_tests false true = refl
    by_tests false false = refl

rows_101 : (context : Context) (rest : List FedToken) → rows unit_names (Some 101) context rest ≡ second 101 rest
unfolding unit_names second
rows_101 context [] = refl
rows_101 context (y ∷ rest) = two_seconds 109 120 Em Ex y rest (second_letter 101) (letter y.token) refl (λ c. refl)

rows_122 : (context : Context) (rest : List FedToken) → rows unit_names (Some 122) context rest ≡ second 122 rest
unfolding unit_names second
rows_122 context [] = refl
rows_122 context (y ∷ rest) = two_seconds 119 104 Zw Zh y rest (second_letter 122) (letter y.token) refl (λ c. refl)

rows_105 : (context : Context) (rest : List FedToken) → rows unit_names (Some 105) context rest ≡ second 105 rest
unfolding unit_names second
rows_105 context [] = refl
rows_105 context (y ∷ rest) = one_second 110 Inch y rest (second_letter 105) (letter y.token) refl (λ c. refl)

rows_112 : (context : Context) (rest : List FedToken) → rows unit_names (Some 112) context rest ≡ second 112 rest
unfolding unit_names second
rows_112 context [] = refl
rows_112 context (y ∷ rest) = two_seconds 116 99 Point Pica y rest (second_letter 112) (letter y.token) refl (λ c. refl)

rows_99 : (context : Context) (rest : List FedToken) → rows unit_names (Some 99) context rest ≡ second 99 rest
unfolding unit_names second
rows_99 context [] = refl
rows_99 context (y ∷ rest) = two_seconds 109 99 Centimeter Cicero y rest (second_letter 99) (letter y.token) refl (λ c. refl)

rows_109 : (context : Context) (rest : List FedToken) → rows unit_names (Some 109) context rest ≡ second 109 rest
unfolding unit_names second
rows_109 context [] = refl
rows_109 context (y ∷ rest) = one_second 109 Millimeter y rest (second_letter 109) (letter y.token) refl (λ c. refl)

rows_98 : (context : Context) (rest : List FedToken) → rows unit_names (Some 98) context rest ≡ second 98 rest
unfolding unit_names second
rows_98 context [] = refl
rows_98 context (y ∷ rest) = one_second 112 BigPoint y rest (second_letter 98) (letter y.token) refl (λ c. refl)

rows_100 : (context : Context) (rest : List FedToken) → rows unit_names (Some 100) context rest ≡ second 100 rest
unfolding unit_names second
rows_100 context [] = refl
rows_100 context (y ∷ rest) = one_second 100 Didot y rest (second_letter 100) (letter y.token) refl (λ c. refl)

rows_115 : (context : Context) (rest : List FedToken) → rows unit_names (Some 115) context rest ≡ second 115 rest
unfolding unit_names second
rows_115 context [] = refl
rows_115 context (y ∷ rest) = one_second 112 Scaled y rest (second_letter 115) (letter y.token) refl (λ c. refl)

-- ---- any letter

abbrev pub first_answer : First → ℕ → Context → List FedToken → Answer Unit
first_answer (firsts.Whole u) a context rest = Got u context rest
first_answer firsts.Begins a context rest = second a rest
first_answer firsts.Nothing a context rest = Bad NoUnit

abbrev HeadMisses : List ℕ → Option ℕ → Type 0
HeadMisses [] o = Prim.Unit {0}
HeadMisses (c ∷ cs) o = is_letter c o ≡ false

abbrev Misses : List (List ℕ × Unit) → Option ℕ → Type 0
Misses [] o = Prim.Unit {0}
Misses (name ∷ names) o = HeadMisses name.0 o × Misses names o

row_misses : (w : List ℕ) (u : Unit) (o : Option ℕ) (context : Context) (rest : List FedToken) (further : Context → List FedToken → Answer Unit) → HeadMisses w o
    → row w u o context rest further ≡ further context rest
row_misses [] u o context rest further misses = refl
row_misses (c ∷ []) u o context rest further misses = rw misses refl
row_misses (c ∷ d ∷ []) u o context rest further misses = rw misses refl
row_misses (c ∷ d ∷ e ∷ w) u o context rest further misses = refl

rows_miss : (names : List (List ℕ × Unit)) (o : Option ℕ) (context : Context) (rest : List FedToken) → Misses names o → rows names o context rest ≡ Bad NoUnit
rows_miss [] o context rest misses = refl
rows_miss (name ∷ names) o context rest misses = row_misses name.0 name.1 o context rest (rows names o) misses.0 ∙ rows_miss names o context rest misses.1

rows_113 : (context : Context) (rest : List FedToken) → rows unit_names (Some 113) context rest ≡ Got Quarter context rest
unfolding unit_names
rows_113 context rest = refl

rows_104 : (context : Context) (rest : List FedToken) → rows unit_names (Some 104) context rest ≡ Got Quarter context rest
unfolding unit_names
rows_104 context rest = refl

-- none of the first letters
abbrev IsNone : ℕ → Type 0
IsNone a = (a == 113 ≡ false) × (a == 104 ≡ false) × (a == 101 ≡ false) × (a == 122 ≡ false) × (a == 105 ≡ false) × (a == 112 ≡ false) × (a == 99 ≡ false) × (a == 109 ≡ false) × (a == 98 ≡ false) × (a == 100 ≡ false) × (a == 115 ≡ false)

all_miss : (a : ℕ) → IsNone a → Misses unit_names (Some a)
unfolding unit_names
all_miss a none = (none.2, (none.2, (none.3, (none.3, (none.4, (none.5, (none.5, (none.6, (none.7, (none.8, (none.9, (none.6, (none.10, (none.0, (none.1, tt)))))))))))))))

no_first : (a : ℕ) (context : Context) (rest : List FedToken) → IsNone a → Bad NoUnit ≡ first_answer (first_of a) a context rest
no_first a context rest none = rw (none.0, none.1, none.2, none.3, none.4, none.5, none.6, none.7, none.8, none.9, none.10) refl

no_rows : (a : ℕ) (context : Context) (rest : List FedToken) → IsNone a → rows unit_names (Some a) context rest ≡ first_answer (first_of a) a context rest
no_rows a context rest none = rows_miss unit_names (Some a) context rest (all_miss a none) ∙ no_first a context rest none

abbrev Read : ℕ → Context → List FedToken → Type 0
Read a context rest = rows unit_names (Some a) context rest ≡ first_answer (first_of a) a context rest

-- a letter is this one, or another
or_other : (a k : ℕ) (context : Context) (rest : List FedToken) → Read k context rest → (a == k ≡ false → Read a context rest) → Read a context rest
or_other a k context rest this other =
    elim (eqb_tells a k) [
      | inl here ↦ subst (λ n. Read n context rest) (sym here.1) this
      | inr unlike ↦ other unlike.0
    ]

first_rows : (a : ℕ) (context : Context) (rest : List FedToken) → Read a context rest
first_rows a context rest =
    or_other a 113 context rest (rows_113 context rest) (λ no113.
    or_other a 104 context rest (rows_104 context rest) (λ no104.
    or_other a 101 context rest (rows_101 context rest) (λ no101.
    or_other a 122 context rest (rows_122 context rest) (λ no122.
    or_other a 105 context rest (rows_105 context rest) (λ no105.
    or_other a 112 context rest (rows_112 context rest) (λ no112.
    or_other a 99 context rest (rows_99 context rest) (λ no99.
    or_other a 109 context rest (rows_109 context rest) (λ no109.
    or_other a 98 context rest (rows_98 context rest) (λ no98.
    or_other a 100 context rest (rows_100 context rest) (λ no100.
    or_other a 115 context rest (rows_115 context rest) (λ no115.
    no_rows a context rest (no113, no104, no101, no122, no105, no112, no99, no109, no98, no100, no115))))))))))))

pub first_letter : (a : ℕ) (token : Token) (context : Context) (rest : List FedToken) → is_space token context ≡ false → letter token ≡ Some a
    → one_of unit_names (fed token context ∷ rest) ≡ first_answer (first_of a) a context rest
first_letter a token context rest dark is = unit_rows token context rest (dark_always token context a is dark) ∙ rw is (first_rows a context rest)
