-- What `==` of meanings tells.
use Rattle.std.proofs.Common.{◌≡◌, true, false, Bool, List, refl, ap, subst, eq-eqb}
use Rattle.std.specs.Prelude.{◌&&◌, ◌==◌}
use Rattle.std.specs.Bool.{beq}
use Rattle.std.specs.Cmp.Lexicographic.{pointwise, pointwise_decides}
use Rattle.std.proofs.lemmas.Bool.{eqb-true}
use denote.Enum.Bare.{same_true, true_same}
use Rattle.tok_lists.specs.declared.token.Token.{Token}
use Rattle.tok_lists.specs.declared.token.Token.TheVariants as tokens
use Rattle.tok_lists.specs.contracts.token.TokenPartialEq.TheImpl.{eq-value as token_eq}
use Rattle.env_groups.specs.contracts.prim.PrimitiveName.{the_type}
use Rattle.env_groups.specs.declared.meaning.Meaning.{Meaning}
use Rattle.env_groups.specs.declared.meaning.Meaning.TheVariants.{Undefined, Primitive, Macro, Letter, Code, Count, Dimen, Skip, Toks, Font}
use Rattle.env_groups.specs.contracts.meaning.MeaningPartialEq.TheImpl.{eq-value}

both : (a b : Bool) → (a && b) ≡ true → (a ≡ true) × (b ≡ true)
both true b h = (refl, h)
both false b h = absurd cc

both_true : (a b : Bool) → a ≡ true → b ≡ true → (a && b) ≡ true
both_true true b h g = g
both_true false b h g = absurd cc

same_bits : (a b : Bool) → beq a b ≡ true → a ≡ b
same_bits true true h = refl
same_bits true false h = absurd cc
same_bits false true h = absurd cc
same_bits false false h = refl

own_bit : (a : Bool) → beq a a ≡ true
own_bit true = refl
own_bit false = refl

token_equal : (a b : Token) → token_eq.it a b ≡ true → a ≡ b
token_equal (tokens.Char c k) (tokens.Char d l) h = let two = both (c == d) (k == l) h in let e : c ≡ d = eqb-true c d two.0 in let f : k ≡ l = eqb-true k l two.1 in cc
token_equal (tokens.Ja c) (tokens.Ja d) h = let two = both (c.row == d.row) (c.cell == d.cell) h in
    let e : c.row ≡ d.row = eqb-true c.row d.row two.0 in let f : c.cell ≡ d.cell = eqb-true c.cell d.cell two.1 in
    λ i. tokens.Ja (record { row = e i; cell = f i })
token_equal (tokens.Name c) (tokens.Name d) h = let e : c.0 ≡ d.0 = eqb-true c.0 d.0 h in λ i. tokens.Name (record { 0 = e i })
token_equal (tokens.Kept c) (tokens.Kept d) h = let e : c.0 ≡ d.0 = eqb-true c.0 d.0 h in λ i. tokens.Kept (record { 0 = e i })
token_equal (tokens.Param c) (tokens.Param d) h = let e : c ≡ d = eqb-true c d h in cc
token_equal _ _ h = absurd cc

own_token : (a : Token) → token_eq.it a a ≡ true
own_token (tokens.Char c k) = both_true (c == c) (k == k) (eq-eqb c c refl) (eq-eqb k k refl)
own_token (tokens.Ja c) = both_true (c.row == c.row) (c.cell == c.cell) (eq-eqb c.row c.row refl) (eq-eqb c.cell c.cell refl)
own_token (tokens.Name c) = eq-eqb c.0 c.0 refl
own_token (tokens.Kept c) = eq-eqb c.0 c.0 refl
own_token (tokens.Param c) = eq-eqb c c refl

token_decides : (a b : Token) → (token_eq.it a b ≡ true → a ≡ b) × (a ≡ b → token_eq.it a b ≡ true)
token_decides a b = (token_equal a b, λ e. subst (λ t. token_eq.it a t ≡ true) e (own_token a))

lists_decide : (a b : List Token) → (pointwise token_eq.it a b ≡ true → a ≡ b) × (a ≡ b → pointwise token_eq.it a b ≡ true)
lists_decide a b = pointwise_decides token_decides a b

equal : (a b : Meaning) → eq-value.it a b ≡ true → a ≡ b
equal Undefined Undefined h = refl
equal (Primitive p) (Primitive q) h = ap Primitive (same_true the_type tt p q h)
equal (Macro m) (Macro n) h =
    let one = both (beq m.long n.long) (pointwise token_eq.it m.params n.params && pointwise token_eq.it m.body n.body) h in
    let two = both (pointwise token_eq.it m.params n.params) (pointwise token_eq.it m.body n.body) one.1 in
    let e = same_bits m.long n.long one.0 in
    let f = (lists_decide m.params n.params).0 two.0 in
    let g = (lists_decide m.body n.body).0 two.1 in
    λ i. Macro (record { long = e i; params = f i; body = g i })
equal (Letter s) (Letter t) h = ap Letter (token_equal s t h)
equal (Code a) (Code b) h = ap Code (eqb-true a b h)
equal (Count a) (Count b) h = ap Count (eqb-true a b h)
equal (Dimen a) (Dimen b) h = ap Dimen (eqb-true a b h)
equal (Skip a) (Skip b) h = ap Skip (eqb-true a b h)
equal (Toks a) (Toks b) h = ap Toks (eqb-true a b h)
equal (Font a) (Font b) h = let e : a.0 ≡ b.0 = eqb-true a.0 b.0 h in λ i. Font (record { 0 = e i })
equal _ _ h = absurd cc

own : (a : Meaning) → eq-value.it a a ≡ true
own Undefined = refl
own (Primitive p) = true_same the_type p p refl
own (Macro m) = both_true (beq m.long m.long) (pointwise token_eq.it m.params m.params && pointwise token_eq.it m.body m.body) (own_bit m.long)
    (both_true (pointwise token_eq.it m.params m.params) (pointwise token_eq.it m.body m.body) ((lists_decide m.params m.params).1 refl) ((lists_decide m.body m.body).1 refl))
own (Letter s) = own_token s
own (Code a) = eq-eqb a a refl
own (Count a) = eq-eqb a a refl
own (Dimen a) = eq-eqb a a refl
own (Skip a) = eq-eqb a a refl
own (Toks a) = eq-eqb a a refl
own (Font a) = eq-eqb a.0 a.0 refl

pub meaning_tells : (a b : Meaning) → (eq-value.it a b ≡ true → a ≡ b) × (a ≡ b → eq-value.it a b ≡ true)
meaning_tells a b = (equal a b, λ e. subst (λ m. eq-value.it a m ≡ true) e (own a))
