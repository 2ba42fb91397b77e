-- Small values of the flat list.
use Rattle.std.proofs.Common.{◌≡◌, [], ◌∷◌, Ok, refl}
use Rattle.tok_lists.specs.declared.token.Token.{Token}
use Rattle.tok_lists.specs.declared.token.Token.TheVariants.{Char, Param}
use Rattle.tok_lists.specs.Pending.{with_arguments, put_before}

a : Token
a = Char 97 11

b : Token
b = Char 98 11

c : Token
c = Char 99 11

bar : Token
bar = Char 124 12

-- `#2|#1#2|` with the arguments `ab` and `c`
twice_and_in_the_other_order : with_arguments ((a ∷ b ∷ []) ∷ (c ∷ []) ∷ []) (Param 2 ∷ bar ∷ Param 1 ∷ Param 2 ∷ bar ∷ []) ≡ c ∷ bar ∷ a ∷ b ∷ c ∷ bar ∷ []
unfolding a b c bar
twice_and_in_the_other_order = refl

-- `|#1|` with an empty argument
an_empty_argument : with_arguments ([] ∷ []) (bar ∷ Param 1 ∷ bar ∷ []) ≡ bar ∷ bar ∷ []
unfolding bar
an_empty_argument = refl

-- A parameter in an argument would stay: arguments are put in place once.
arguments_are_put_once : with_arguments ((Param 2 ∷ []) ∷ (c ∷ []) ∷ []) (Param 1 ∷ []) ≡ Param 2 ∷ []
unfolding c
arguments_are_put_once = refl

the_new_tokens_come_first : put_before (a ∷ b ∷ []) (c ∷ []) ≡ Ok (a ∷ b ∷ c ∷ [])
unfolding a b c
the_new_tokens_come_first = refl
