-- Names that grow.
use Rattle.std.proofs.Common.{◌≡◌, ℕ, ◌<◌, ◌≤◌, min, List, [], ◌∷◌, ◌++◌, length, take, drop, slice_get, refl, sym, ap, ◌∙◌, arith, length-take}
use Rattle.std.proofs.lemmas.Grind.{common_steps}
use Rattle.std.proofs.lemmas.Option.{gets}
use Rattle.std.proofs.lemmas.List.{take_all, take-append-drop, take-append-le}
use Rattle.tok_lists.specs.declared.spelling.Spelling.{Spelling}
use Rattle.tok_lists.specs.declared.token.Token.{Token}
use Rattle.tok_lists.specs.declared.token.Token.TheVariants as tokens
use Rattle.tok_lists.specs.Names.{Grew, IsHeld, AreHeld}

pub grew_itself : (names : List Spelling) → Grew names names
grew_itself names = take_all (length names) names (omega arith)

pub grew_longer : (old new : List Spelling) → Grew old new → length old ≤ length new
grew_longer old new grew =
    let sizes : length (take (length old) new) ≡ length old = ap length grew in
    omega (arith, length-take (length old) new, sizes)

-- the names that came
whole : (old new : List Spelling) → Grew old new → new ≡ old ++ drop (length old) new
whole old new grew = sym (take-append-drop (length old) new) ∙ ap (λ (front : List Spelling). front ++ drop (length old) new) grew

pub grew_then : (old between new : List Spelling) → Grew old between → Grew between new → Grew old new
grew_then old between new first second =
    ap (take (length old)) (whole between new second) ∙ take-append-le (length old) between (drop (length between) new) (grew_longer old between first) ∙ first

stays : (old more : List Spelling) (n : ℕ) → n < length old → slice_get (old ++ more) n ≡ slice_get old n
stays old more n within = grind (arith, common_steps, gets)

pub numbers_stay : (old new : List Spelling) (n : ℕ) → Grew old new → n < length old → slice_get new n ≡ slice_get old n
numbers_stay old new n grew within = ap (λ (names : List Spelling). slice_get names n) (whole old new grew) ∙ stays old (drop (length old) new) n within

pub held_still : (old new : List Spelling) (token : Token) → Grew old new → IsHeld old token → IsHeld new token
held_still old new (tokens.Char code cat) grew held = tt
held_still old new (tokens.Ja cell) grew held = tt
held_still old new (tokens.Name name) grew held = omega (arith, grew_longer old new grew, held)
held_still old new (tokens.Kept name) grew held = omega (arith, grew_longer old new grew, held)
held_still old new (tokens.Param n) grew held = tt

pub all_held_still : (old new : List Spelling) (list : List Token) → Grew old new → AreHeld old list → AreHeld new list
all_held_still old new [] grew held = tt
all_held_still old new (token ∷ list) grew held = (held_still old new token grew held.0, all_held_still old new list grew held.1)
