-- Small values of the definitions.
use Rattle.std.proofs.Common.{◌≡◌, true, false, [], ◌∷◌, Ok, length, map, codes, refl}
use Rattle.jis_codes.specs.declared.Char.TheVariants.{One}
use Rattle.tok_lists.specs.declared.spelling.Spelling.{Spelling}
use Rattle.tok_lists.specs.Same.{is_same}
use Rattle.tok_lists.specs.Names.{number_in, with_name, numbered}
use Rattle.tok_lists.specs.StartNames.{start_names, control_word}

tilde : Spelling
tilde = record { active = true; chars = One 126 ∷ [] }

control_tilde : Spelling
control_tilde = control_word (codes "~")

how_many : length start_names ≡ 138
how_many = refl

first_and_last : map (number_in start_names) (control_word (codes "expandafter") ∷ control_word (codes "output") ∷ []) ≡ 0 ∷ 137 ∷ []
first_and_last = refl

two_names : is_same tilde control_tilde ≡ false
unfolding tilde control_tilde
two_names = refl

new_name : numbered start_names tilde ≡ Ok 138
unfolding tilde
new_name = refl

known_name : numbered (with_name start_names tilde) tilde ≡ Ok 138
unfolding tilde
known_name = refl

other_name : numbered (with_name start_names tilde) control_tilde ≡ Ok 139
unfolding tilde control_tilde
other_name = refl
