-- What `==` of tokens tests.
use Rattle.std.proofs.Common.{◌≡◌, refl}
use Rattle.tok_lists.specs.declared.token.Token.{Token}
use Rattle.tok_lists.specs.declared.token.Token.TheVariants.{Char, Ja, Name, Kept, Param}
use Rattle.tok_lists.specs.contracts.token.TokenPartialEq.TheImpl.{eq-value}
use Rattle.macros.specs.Same.{is_same}

pub tests_same : (a b : Token) → eq-value.it a b ≡ is_same a b
tests_same (Char c k) (Char d l) = refl
tests_same (Char c k) (Ja d) = refl
tests_same (Char c k) (Name d) = refl
tests_same (Char c k) (Kept d) = refl
tests_same (Char c k) (Param d) = refl
tests_same (Ja c) (Char d l) = refl
tests_same (Ja c) (Ja d) = refl
tests_same (Ja c) (Name d) = refl
tests_same (Ja c) (Kept d) = refl
tests_same (Ja c) (Param d) = refl
tests_same (Name c) (Char d l) = refl
tests_same (Name c) (Ja d) = refl
tests_same (Name c) (Name d) = refl
tests_same (Name c) (Kept d) = refl
tests_same (Name c) (Param d) = refl
tests_same (Kept c) (Char d l) = refl
tests_same (Kept c) (Ja d) = refl
tests_same (Kept c) (Name d) = refl
tests_same (Kept c) (Kept d) = refl
tests_same (Kept c) (Param d) = refl
tests_same (Param c) (Char d l) = refl
tests_same (Param c) (Ja d) = refl
tests_same (Param c) (Name d) = refl
tests_same (Param c) (Kept d) = refl
tests_same (Param c) (Param d) = refl
