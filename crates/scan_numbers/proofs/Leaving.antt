-- What the parts of the grammar leave, and what they find.
use Rattle.std.proofs.Common.{◌≡◌, ◌∙◌, ℕ, ℤ, Bool, true, false, List, [], ◌∷◌, ◌++◌, append_assoc, Option, Some, None, Result, Ok, Err, refl, sym, ap}
use Rattle.std.specs.Prelude.{if◌then◌else◌, map, codes, nat_le, unsigned_abs, pos, negsuc, not}
use Rattle.ts_geometry.specs.Numbers.{IsWithin, max_dimen}
use Rattle.ts_geometry.specs.declared.glue.Order.{Order}
use Rattle.ts_geometry.specs.declared.glue.Order.TheVariants as orders
use Rattle.tok_lists.specs.declared.token.Token.{Token}
use Rattle.scan_numbers.specs.declared.fault.ScanKind.{ScanKind}
use Rattle.scan_numbers.specs.declared.measure.Unit.{Unit as MeasureUnit}
use Rattle.scan_numbers.specs.declared.measure.Factor.{Factor}
use Rattle.scan_numbers.specs.declared.dimen.Infinity.{Infinity}
use Rattle.scan_numbers.specs.declared.dimen.Infinity.TheVariants as infinities
use Rattle.scan_numbers.specs.declared.quantity.Quantity.{Quantity}
use Rattle.scan_numbers.specs.declared.quantity.Quantity.TheVariants as quantities
use Rattle.scan_numbers.specs.declared.quantity.Register.{Register}
use Rattle.scan_numbers.specs.declared.start.Radix.{Radix}
use Rattle.scan_numbers.specs.declared.start.Radix.TheVariants as radices
use Rattle.scan_numbers.specs.declared.start.Start.{Start}
use Rattle.scan_numbers.specs.declared.start.Start.TheVariants as starts
use Rattle.scan_numbers.specs.Contexts.{Context}
use Rattle.scan_numbers.specs.Tokens.{FedToken, fed, start, digit, character, is_space, letter}
use Rattle.scan_numbers.specs.Quantities.{integer_of, is_negative, reading}
use Rattle.scan_numbers.specs.Amounts.{Amount, amount}
use Rattle.scan_numbers.specs.Answers.{Answer, Got, Needs, Bad, ◌>>=◌}
use Rattle.scan_numbers.specs.Integers.{optional_space, digit_before, digits, spelled, in_range, some_digits, constant, code_then_space, character_constant, given, register, positive, negative, coerced, integer_from, integer, signed}
use Rattle.scan_numbers.specs.Keywords.{is_letter, or_left, letters, keyword}
use Rattle.scan_numbers.specs.Dimensions.{one_of, unit_names, measured, times, dimen_range, so_much, order_of, so_infinite, if_fourth, if_third, if_second, more_ls, finite, if_fil, named, as_unit, unit_from, unit, factor, whole_unit, fraction_unit, fraction, point_from, point, whole_digits, decimal_unit, with_sign, from_quantity, dimen_from, dimen}
use Rattle.ts_geometry.specs.Numbers.{decimal}
use Rattle.scan_numbers.specs.Ends.{tokens_of, AreLast}

-- What a grammar says of a list: what it leaves are the last tokens of the list, and what it finds has a property, with the
-- context of the token that completed it.
abbrev pub Gives : {A : Type 0} → (A → Context → Type 0) → List FedToken → Answer A → Type 0
Gives Found list (Got a context rest) = Found a context × AreLast (tokens_of list) (tokens_of rest)
Gives Found list (Needs form) = Unit {0}
Gives Found list (Bad kind) = Unit {0}

abbrev pub All : {A : Type 0} → A → Context → Type 0
All a context = Unit {0}

-- an amount within the greatest dimension
abbrev pub IsSmall : Amount → Context → Type 0
IsSmall a context = IsWithin max_dimen a.size

pub itself : (list : List FedToken) → AreLast (tokens_of list) (tokens_of list)
itself list = ([], refl)

-- what is found in the end of a list
pub wider : {A : Type 0} (Found : A → Context → Type 0) (list rest : List FedToken) (answer : Answer A) → AreLast (tokens_of list) (tokens_of rest) → Gives Found rest answer → Gives Found list answer
wider Found list rest (Got a context left) last gives =
    (gives.0, (last.0 ++ gives.1.0, append_assoc last.0 gives.1.0 (tokens_of left) ∙ ap (λ ts. last.0 ++ ts) gives.1.1 ∙ last.1))
wider Found list rest (Needs form) last gives = tt
wider Found list rest (Bad kind) last gives = tt

pub after : {A : Type 0} (Found : A → Context → Type 0) (x : FedToken) (rest : List FedToken) (answer : Answer A) → Gives Found rest answer → Gives Found (x ∷ rest) answer
after Found x rest answer gives = wider Found (x ∷ rest) rest answer (x.token ∷ [], refl) gives

-- one part and then another
pub both : {A B : Type 0} (Found : A → Context → Type 0) (Next : B → Context → Type 0) (list : List FedToken) (first : Answer A) (part : A → Context → List FedToken → Answer B)
    → Gives Found list first → ((a : A) (context : Context) (rest : List FedToken) → Found a context → Gives Next rest (part a context rest))
    → Gives Next list (first >>= part)
both Found Next list (Got a context rest) part gives parts = wider Next list rest (part a context rest) gives.1 (parts a context rest gives.0)
both Found Next list (Needs form) part gives parts = tt
both Found Next list (Bad kind) part gives parts = tt

pub either : {A : Type 0} (Found : A → Context → Type 0) (b : Bool) (list : List FedToken) (one other : Answer A) → Gives Found list one → Gives Found list other
    → Gives Found list (if b then one else other)
either Found true list one other is_one is_other = is_one
either Found false list one other is_one is_other = is_other

-- ---- integers

pub space_gives : {A : Type 0} (Found : A → Context → Type 0) (a : A) (list : List FedToken) → ((context : Context) → Found a context) → Gives Found list (optional_space a list)
unfolding optional_space
space_gives Found a [] found = tt
space_gives Found a (x ∷ rest) found = either Found (is_space x.token x.context) (x ∷ rest) (Got a x.context rest) (Got a x.context (x ∷ rest)) (found x.context, (x.token ∷ [], refl)) (found x.context, itself (x ∷ rest))

digit_gives : (d : Option ℕ) (x : FedToken) (rest : List FedToken) (further : Answer (List ℕ)) → Gives All rest further → Gives All (x ∷ rest) (digit_before d x rest further)
digit_gives (Some d) x rest further gives = both All All (x ∷ rest) further _ (after All x rest further gives) (λ ds context left found. (tt, itself left))
digit_gives None x rest further gives = (tt, itself (x ∷ rest))

pub digits_give : (radix : Radix) (list : List FedToken) → Gives All list (digits radix list)
unfolding digits
digits_give radix [] = tt
digits_give radix (x ∷ rest) = digit_gives (digit radix x.token) x rest (digits radix rest) (digits_give radix rest)

pub range_gives : (n : ℕ) (context : Context) (rest : List FedToken) → Gives All rest (in_range n context rest)
unfolding in_range
range_gives n context rest = either All (nat_le n 2147483647) rest (Got n context rest) _ (tt, itself rest) tt

some_give : (radix : Radix) (ds : List ℕ) (context : Context) (rest : List FedToken) → Gives All rest (some_digits radix ds context rest)
unfolding some_digits
some_give radix [] context rest = tt
some_give radix (d ∷ ds) context rest = range_gives (spelled radix 0 (d ∷ ds)) context rest

pub constant_gives : (radix : Radix) (list : List FedToken) → Gives All list (constant radix list)
unfolding constant
constant_gives radix list =
    both All All list (digits radix list >>= some_digits radix) _
    (both All All list (digits radix list) (some_digits radix) (digits_give radix list) (λ ds context rest found. some_give radix ds context rest))
    (λ n context rest found. space_gives All n rest (λ c. tt))

code_gives : (code : Option ℕ) (rest : List FedToken) → Gives All rest (code_then_space code rest)
code_gives (Some code) rest = space_gives All code rest (λ c. tt)
code_gives None rest = tt

pub character_gives : (list : List FedToken) → Gives All list (character_constant list)
unfolding character_constant
character_gives [] = tt
character_gives (x ∷ rest) = after All x rest (code_then_space (character x.token x.context) rest) (code_gives (character x.token x.context) rest)

pub given_gives : {A : Type 0} (Found : A → Context → Type 0) (held : Result A ScanKind) (context : Context) (rest : List FedToken) → ((a : A) → held ≡ Ok a → Found a context) → Gives Found rest (given held context rest)
given_gives Found (Ok a) context rest found = (found a refl, itself rest)
given_gives Found (Err kind) context rest found = tt

pub register_gives : (r : Register) (n : ℤ) (context : Context) (rest : List FedToken) → Gives All rest (register r n context rest)
unfolding register
register_gives r n context rest = given_gives All (reading r n context.env) context rest (λ q is. tt)

positive_gives : (list : List FedToken) (answer : Answer ℕ) → Gives All list answer → Gives All list (answer >>= positive)
positive_gives list answer gives = both All All list answer positive gives (λ n context rest found. (tt, itself rest))

coerced_gives : (list : List FedToken) (answer : Answer ℤ) (r : Register) → Gives All list answer → Gives All list (answer >>= register r >>= coerced)
coerced_gives list answer r gives =
    both All All list (answer >>= register r) coerced
    (both All All list answer (register r) gives (λ n context rest found. register_gives r n context rest))
    (λ q context rest found. (tt, itself rest))

integer_from_gives : (s : Start) (x : FedToken) (rest : List FedToken) (further : Answer ℤ) → Gives All rest further → Gives All (x ∷ rest) (integer_from s x rest further)
integer_from_gives starts.Space x rest further gives = after All x rest further gives
integer_from_gives starts.Plus x rest further gives = after All x rest further gives
integer_from_gives starts.Minus x rest further gives = both All All (x ∷ rest) further negative (after All x rest further gives) (λ n context left found. (tt, itself left))
integer_from_gives starts.Digit x rest further gives = positive_gives (x ∷ rest) (constant radices.Decimal (x ∷ rest)) (constant_gives radices.Decimal (x ∷ rest))
integer_from_gives starts.Octal x rest further gives = positive_gives (x ∷ rest) (constant radices.Octal rest) (after All x rest (constant radices.Octal rest) (constant_gives radices.Octal rest))
integer_from_gives starts.Hexadecimal x rest further gives = positive_gives (x ∷ rest) (constant radices.Hexadecimal rest) (after All x rest (constant radices.Hexadecimal rest) (constant_gives radices.Hexadecimal rest))
integer_from_gives starts.Backquote x rest further gives = positive_gives (x ∷ rest) (character_constant rest) (after All x rest (character_constant rest) (character_gives rest))
integer_from_gives starts.Point x rest further gives = tt
integer_from_gives (starts.Internal q) x rest further gives = (tt, (x.token ∷ [], refl))
integer_from_gives (starts.Register r) x rest further gives = coerced_gives (x ∷ rest) further r (after All x rest further gives)
integer_from_gives (starts.Refused kind) x rest further gives = tt
integer_from_gives starts.Other x rest further gives = tt

pub integer_gives : (list : List FedToken) → Gives All list (integer list)
unfolding integer
integer_gives [] = tt
integer_gives (x ∷ rest) = integer_from_gives (start x.token x.context) x rest (integer rest) (integer_gives rest)

-- ---- keywords

-- Where a word isn't there, nothing is lost.
abbrev Looks : List FedToken → Answer Bool → Type 0
Looks list (Got true context rest) = AreLast (tokens_of list) (tokens_of rest)
Looks list (Got false context rest) = tokens_of rest ≡ tokens_of list
Looks list (Needs form) = Unit {0}
Looks list (Bad kind) = Unit {0}

looks_on : (x : FedToken) (rest : List FedToken) (answer : Answer Bool) → Looks rest answer → Looks (x ∷ rest) (answer >>= or_left x)
looks_on x rest (Got true context left) looks = (x.token ∷ looks.0, ap (λ ts. x.token ∷ ts) looks.1)
looks_on x rest (Got false context left) looks = ap (λ ts. x.token ∷ ts) looks
looks_on x rest (Needs form) looks = tt
looks_on x rest (Bad kind) looks = tt

looks_if : (b : Bool) (list : List FedToken) (one other : Answer Bool) → Looks list one → Looks list other → Looks list (if b then one else other)
looks_if true list one other is_one is_other = is_one
looks_if false list one other is_one is_other = is_other

letters_look : (word : List ℕ) (list : List FedToken) → Looks list (letters word list)
unfolding letters
letters_look [] list = tt
letters_look (c ∷ cs) [] = tt
letters_look (c ∷ []) (x ∷ rest) = looks_if (is_letter c (letter x.token)) (x ∷ rest) (Got true x.context rest) (Got false x.context (x ∷ rest)) (x.token ∷ [], refl) refl
letters_look (c ∷ d ∷ ds) (x ∷ rest) =
    looks_if (is_letter c (letter x.token)) (x ∷ rest) (letters (d ∷ ds) rest >>= or_left x) (Got false x.context (x ∷ rest)) (looks_on x rest (letters (d ∷ ds) rest) (letters_look (d ∷ ds) rest)) refl

looks_gives : (list : List FedToken) (answer : Answer Bool) → Looks list answer → Gives All list answer
looks_gives list (Got true context rest) looks = (tt, looks)
looks_gives list (Got false context rest) looks = (tt, ([], looks))
looks_gives list (Needs form) looks = tt
looks_gives list (Bad kind) looks = tt

pub keyword_gives : (word : List ℕ) (list : List FedToken) → Gives All list (keyword word list)
unfolding keyword
keyword_gives word [] = tt
keyword_gives word (x ∷ rest) =
    either All (is_space x.token x.context) (x ∷ rest) (keyword word rest) (letters word (x ∷ rest)) (after All x rest (keyword word rest) (keyword_gives word rest))
    (looks_gives (x ∷ rest) (letters word (x ∷ rest)) (letters_look word (x ∷ rest)))
