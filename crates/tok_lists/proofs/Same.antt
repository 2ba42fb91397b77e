-- The equality of lists of characters that the code computes is the one of the definition.
use Rattle.std.proofs.Common.{◌≡◌, ◌&&◌, List, [], ◌∷◌, refl, rules}
use Rattle.std.specs.Cmp.Lexicographic.{pointwise}
use Rattle.jis_codes.specs.declared.Char.{Char}
use Rattle.jis_codes.specs.declared.Char.TheVariants.{One, Ja}
use Rattle.jis_codes.specs.contracts.character.CharPartialEq.TheImpl.{ghosts}
use Rattle.tok_lists.specs.Same.{is_same_char}

same_char : (a b : Char) → ghosts.eq a b ≡ is_same_char a b
same_char (One a) (One b) = search rules
same_char (Ja a) (Ja b) = search rules
same_char (One a) (Ja b) = search rules
same_char (Ja a) (One b) = search rules

pub same_chars : (xs ys : List Char) → pointwise ghosts.eq xs ys ≡ pointwise is_same_char xs ys
same_chars [] [] = refl
same_chars [] (y ∷ ys) = refl
same_chars (x ∷ xs) [] = refl
same_chars (x ∷ xs) (y ∷ ys) = λ i. same_char x y i && same_chars xs ys i
