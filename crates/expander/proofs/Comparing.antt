-- Whether two meanings are equal is decided.
use Rattle.std.proofs.Common.{◌≡◌, Bool, true, false, refl, sym}
use Rattle.std.specs.Prelude.{◌↔◌, IsTrue}
use Rattle.env_groups.specs.declared.meaning.Meaning.{Meaning}
use Rattle.raw_texts.proofs.Tellings.{meaning_tells}
use Rattle.expander.specs.Comparisons.{is_same_meaning}

alike : (a b : Bool) → (a ≡ true → b ≡ true) → (b ≡ true → a ≡ true) → a ≡ b
alike true true to from = refl
alike true false to from = sym (to refl)
alike false true to from = from refl
alike false false to from = refl

pub meanings_decide : (first second : Meaning) → IsTrue (is_same_meaning first second) ↔ (first ≡ second)
meanings_decide first second = meaning_tells first second

pub same_is : (answer : Bool) (first second : Meaning) → IsTrue answer ↔ (first ≡ second) → answer ≡ is_same_meaning first second
same_is answer first second tells =
    let decides = meaning_tells first second in
    alike answer (is_same_meaning first second) (λ yes. decides.1 (tells.0 yes)) (λ yes. tells.1 (decides.0 yes))
