-- Steps of constants.
use Rattle.std.proofs.Common.{◌≡◌, ℕ, ◌+◌, ◌*◌, ◌<◌, ◌≤◌, Bool, true, false, min, List, [], ◌∷◌, Some, None, refl, sym, inl, inr, ◌∙◌, arith}
use Rattle.std.proofs.lemmas.Bool.Decides.{nat_tests, leb_tells}
use Rattle.scan_numbers.specs.Contexts.{Context}
use Rattle.tok_lists.specs.declared.token.Token.{Token}
use Rattle.scan_numbers.specs.declared.fault.ScanKind.TheVariants.{NoNumber, NumberRange}
use Rattle.scan_numbers.specs.declared.start.Radix.{Radix}
use Rattle.scan_numbers.specs.declared.start.Radix.TheVariants as radices
use Rattle.scan_numbers.specs.declared.constant.Constant.{Constant}
use Rattle.scan_numbers.specs.declared.constant.Constant.TheVariants as constants
use Rattle.scan_numbers.specs.Tokens.{FedToken, fed, digit, base, character, is_space}
use Rattle.scan_numbers.specs.Answers.{Answer, Got, Needs, Bad, ◌>>=◌}
use Rattle.scan_numbers.specs.Integers.{digits, in_range, spelled, some_digits, optional_space, constant, character_constant}
use Rattle.scan_numbers.specs.Machines.{whole, more_digits, constant_left}

-- ---- the first digit

pub first_digit : (radix : Radix) (d : ℕ) (a : Answer (List ℕ)) → (a >>= λ ds context left. Got (d ∷ ds) context left) >>= some_digits radix ≡ a >>= more_digits radix d
unfolding some_digits more_digits spelled
first_digit radix d (Got ds context rest) = let e : 0 * base radix + d ≡ d = omega arith in rw e refl
first_digit radix d (Needs form) = refl
first_digit radix d (Bad kind) = refl

pub constant_begins : (radix : Radix) (d : ℕ) (token : Token) (context : Context) (rest : List FedToken) → digit radix token ≡ Some d
    → constant radix (fed token context ∷ rest) ≡ constant_left (constants.Digits radix d) rest
unfolding constant constant_left digits
constant_begins radix d token context rest is = rw (is, first_digit radix d (digits radix rest)) refl

pub constant_begins_not : (radix : Radix) (token : Token) (context : Context) (rest : List FedToken) → digit radix token ≡ None
    → constant radix (fed token context ∷ rest) ≡ Bad NoNumber
unfolding constant digits some_digits
constant_begins_not radix token context rest is = rw is refl

-- ---- further digits

base_grows : (radix : Radix) (n : ℕ) → n ≤ n * base radix
base_grows radices.Octal n = omega arith
base_grows radices.Decimal n = omega arith
base_grows radices.Hexadecimal n = omega arith

spelled_more : (radix : Radix) (n : ℕ) (ds : List ℕ) → n ≤ spelled radix n ds
unfolding spelled
spelled_more radix n [] = omega arith
spelled_more radix n (d ∷ ds) =
    let here : n ≤ n * base radix = base_grows radix n in
    let there : n * base radix + d ≤ spelled radix (n * base radix + d) ds = spelled_more radix (n * base radix + d) ds in
    omega arith

pub too_great : (n : ℕ) (context : Context) (rest : List FedToken) → 2147483647 < n → in_range n context rest ≡ Bad NumberRange
unfolding in_range
too_great n context rest h = grind (arith, nat_tests)

-- Numbers of which neither is in range are alike, also after further digits.
pub capped : (radix : Radix) (n m : ℕ) (ds : List ℕ) (context : Context) (rest : List FedToken) → m ≡ min n 4294967295
    → in_range (spelled radix n ds) context rest ≡ in_range (spelled radix m ds) context rest
capped radix n m ds context rest is =
    elim (leb_tells n 4294967295) [
      | inl small ↦ (let same : m ≡ n = omega arith in rw same refl)
      | inr great ↦ (let more : n ≤ spelled radix n ds = spelled_more radix n ds in
          let more' : m ≤ spelled radix m ds = spelled_more radix m ds in
          too_great (spelled radix n ds) context rest (omega arith) ∙ sym (too_great (spelled radix m ds) context rest (omega arith)))
    ]

pub next_digit : (radix : Radix) (n d m : ℕ) (a : Answer (List ℕ)) → m ≡ min (n * base radix + d) 4294967295
    → (a >>= λ ds context left. Got (d ∷ ds) context left) >>= more_digits radix n ≡ a >>= more_digits radix m
unfolding more_digits spelled
next_digit radix n d m (Got ds context rest) is = capped radix (n * base radix + d) m ds context rest is
next_digit radix n d m (Needs form) is = refl
next_digit radix n d m (Bad kind) is = refl

pub spaced : (n : ℕ) (token : Token) (context : Context) (rest : List FedToken) (b : Bool) → b ≡ is_space token context → optional_space n (fed token context ∷ rest) ≡ whole n b (fed token context) rest
unfolding optional_space
spaced n token context rest true is = rw (← is) refl
spaced n token context rest false is = rw (← is) refl

pub fits : (n : ℕ) (context : Context) (rest : List FedToken) → n ≤ 2147483647 → in_range n context rest ≡ Got n context rest
unfolding in_range
fits n context rest h = grind (arith, nat_tests)

-- ---- the steps

pub first_some : (s : Constant) (radix : Radix) (d : ℕ) (token : Token) (context : Context) (rest : List FedToken) → s ≡ constants.First radix → digit radix token ≡ Some d
    → constant_left s (fed token context ∷ rest) ≡ constant_left (constants.Digits radix d) rest
unfolding constant_left
first_some s radix d token context rest at is = rw at (constant_begins radix d token context rest is)

pub first_none : (s : Constant) (radix : Radix) (token : Token) (context : Context) (rest : List FedToken) → s ≡ constants.First radix → digit radix token ≡ None
    → constant_left s (fed token context ∷ rest) ≡ Bad NoNumber
unfolding constant_left
first_none s radix token context rest at is = rw at (constant_begins_not radix token context rest is)

pub digits_some : (s : Constant) (radix : Radix) (n d m : ℕ) (token : Token) (context : Context) (rest : List FedToken) → s ≡ constants.Digits radix n → digit radix token ≡ Some d
    → m ≡ min (n * base radix + d) 4294967295
    → constant_left s (fed token context ∷ rest) ≡ constant_left (constants.Digits radix m) rest
unfolding constant_left digits
digits_some s radix n d m token context rest at is next = rw (at, is, next_digit radix n d m (digits radix rest) next) refl

pub digits_end : (s : Constant) (radix : Radix) (n : ℕ) (token : Token) (context : Context) (rest : List FedToken) → s ≡ constants.Digits radix n → digit radix token ≡ None
    → n ≤ 2147483647
    → constant_left s (fed token context ∷ rest) ≡ whole n (is_space token context) (fed token context) rest
unfolding constant_left digits more_digits spelled
digits_end s radix n token context rest at is small = rw (at, is, fits n context (fed token context ∷ rest) small) (spaced n token context rest (is_space token context) refl)

pub digits_too_great : (s : Constant) (radix : Radix) (n : ℕ) (token : Token) (context : Context) (rest : List FedToken) → s ≡ constants.Digits radix n → digit radix token ≡ None
    → 2147483647 < n
    → constant_left s (fed token context ∷ rest) ≡ Bad NumberRange
unfolding constant_left digits more_digits spelled
digits_too_great s radix n token context rest at is great = rw (at, is, too_great n context (fed token context ∷ rest) great) refl

pub character_some : (s : Constant) (code : ℕ) (token : Token) (context : Context) (rest : List FedToken) → s ≡ constants.Character → character token context ≡ Some code
    → constant_left s (fed token context ∷ rest) ≡ constant_left (constants.Space code) rest
unfolding constant_left character_constant
character_some s code token context rest at is = rw (at, is) refl

pub character_none : (s : Constant) (token : Token) (context : Context) (rest : List FedToken) → s ≡ constants.Character → character token context ≡ None
    → constant_left s (fed token context ∷ rest) ≡ Bad NoNumber
unfolding constant_left character_constant
character_none s token context rest at is = rw (at, is) refl

pub space : (s : Constant) (n : ℕ) (token : Token) (context : Context) (rest : List FedToken) (b : Bool) → s ≡ constants.Space n → b ≡ is_space token context
    → constant_left s (fed token context ∷ rest) ≡ whole n b (fed token context) rest
unfolding constant_left
space s n token context rest b at is = rw at (spaced n token context rest b is)

pub ruleset steps = (first_some, first_none, digits_some, digits_end, digits_too_great, character_some, character_none, space)
