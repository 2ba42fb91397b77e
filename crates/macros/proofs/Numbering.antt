-- Parameters that are numbered in order.
use Rattle.std.proofs.Common.{◌≡◌, ◌+◌, ℕ, List, [], ◌∷◌, ◌++◌, refl, ap, ◌∙◌, arith}
use Rattle.tok_lists.specs.declared.spelling.Spelling.{Spelling}
use Rattle.tok_lists.specs.declared.token.Token.{Token}
use Rattle.tok_lists.specs.declared.token.Token.TheVariants.{Char, Ja, Name, Kept, Param}
use Rattle.tok_lists.specs.Names.{AreHeld, IsHeld, IsNoParam}
use Rattle.tok_lists.proofs.Flat.{held_together}
use Rattle.env_groups.specs.Macros.{param_count, AreNumberedFrom}
use Rattle.raw_texts.specs.declared.token.Brace.TheVariants.{Neither}
use Rattle.raw_texts.specs.Kinds.{brace_of}
use Rattle.macros.specs.Borders.{AreNoBraces}

pub held_last : (names : List Spelling) (l : List Token) (t : Token) → AreHeld names l → IsHeld names t → AreHeld names (l ++ t ∷ [])
held_last names l t held is = held_together names l (t ∷ []) held (is, tt)

pub param_last : (names : List Spelling) (l : List Token) (n : ℕ) → AreHeld names l → AreHeld names (l ++ Param n ∷ [])
param_last names l n held = held_together names l (Param n ∷ []) held (tt, tt)

-- one more token that is no parameter
count_last : (l : List Token) (t : Token) → IsNoParam t → param_count (l ++ t ∷ []) ≡ param_count l
count_last [] (Char c k) h = refl
count_last [] (Ja c) h = refl
count_last [] (Name n) h = refl
count_last [] (Kept n) h = refl
count_last [] (Param n) h = absurd h
count_last (Char c k ∷ l) t h = count_last l t h
count_last (Ja c ∷ l) t h = count_last l t h
count_last (Name n ∷ l) t h = count_last l t h
count_last (Kept n ∷ l) t h = count_last l t h
count_last (Param n ∷ l) t h = ap (λ k. 1 + k) (count_last l t h)

order_last : (next : ℕ) (l : List Token) (t : Token) → IsNoParam t → AreNumberedFrom next l → AreNumberedFrom next (l ++ t ∷ [])
order_last next [] (Char c k) h o = tt
order_last next [] (Ja c) h o = tt
order_last next [] (Name n) h o = tt
order_last next [] (Kept n) h o = tt
order_last next [] (Param n) h o = absurd h
order_last next (Char c k ∷ l) t h o = order_last next l t h o
order_last next (Ja c ∷ l) t h o = order_last next l t h o
order_last next (Name n ∷ l) t h o = order_last next l t h o
order_last next (Kept n ∷ l) t h o = order_last next l t h o
order_last next (Param n ∷ l) t h o = (o.0, order_last (next + 1) l t h o.1)

pub counted_last : (l : List Token) (t : Token) (count : ℕ) → IsNoParam t → param_count l ≡ count → param_count (l ++ t ∷ []) ≡ count
counted_last l t count h same = count_last l t h ∙ same

pub numbered_last : (l : List Token) (t : Token) → IsNoParam t → AreNumberedFrom 1 l → AreNumberedFrom 1 (l ++ t ∷ [])
numbered_last l t h o = order_last 1 l t h o

-- one more parameter
count_param : (l : List Token) (n : ℕ) → param_count (l ++ Param n ∷ []) ≡ param_count l + 1
count_param [] n = refl
count_param (Char c k ∷ l) n = count_param l n
count_param (Ja c ∷ l) n = count_param l n
count_param (Name m ∷ l) n = count_param l n
count_param (Kept m ∷ l) n = count_param l n
count_param (Param m ∷ l) n = let more = count_param l n in omega (arith, more)

order_param : (next : ℕ) (l : List Token) (n : ℕ) → n ≡ next + param_count l → AreNumberedFrom next l → AreNumberedFrom next (l ++ Param n ∷ [])
order_param next [] n h o = (omega arith, tt)
order_param next (Char c k ∷ l) n h o = order_param next l n h o
order_param next (Ja c ∷ l) n h o = order_param next l n h o
order_param next (Name m ∷ l) n h o = order_param next l n h o
order_param next (Kept m ∷ l) n h o = order_param next l n h o
order_param next (Param m ∷ l) n h o = (o.0, order_param (next + 1) l n (omega (arith, h)) o.1)

pub counted_param : (l : List Token) (count : ℕ) → param_count l ≡ count → param_count (l ++ Param (count + 1) ∷ []) ≡ count + 1
counted_param l count same = count_param l (count + 1) ∙ ap (λ n. n + 1) same

pub numbered_param : (l : List Token) (count : ℕ) → param_count l ≡ count → AreNumberedFrom 1 l → AreNumberedFrom 1 (l ++ Param (count + 1) ∷ [])
numbered_param l count same o = order_param 1 l (count + 1) (omega (arith, same)) o

pub braces_last : (l : List Token) (t : Token) → brace_of t ≡ Neither → AreNoBraces l → AreNoBraces (l ++ t ∷ [])
braces_last [] t h plain = (h, tt)
braces_last (u ∷ l) t h plain = (plain.0, braces_last l t h plain.1)
