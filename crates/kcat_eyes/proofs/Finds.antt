-- What is found at a place of a line.
use Rattle.std.proofs.Common.{◌≡◌, ℕ, ◌+◌, ◌-◌, ◌<◌, ◌≤◌, List, [], ◌∷◌, length, take, drop, get_or, false, refl, sym, ap, ◌∙◌, arith}
use Rattle.std.proofs.Common.{length-drop}
use Rattle.std.proofs.lemmas.List.{drop_more, take_all, get_or-drop}
use Rattle.jis_codes.specs.declared.character.Char.{Char}
use Rattle.kcat_eyes.specs.declared.state.State.{State}
use Rattle.tok_lists.specs.Codes.{Codes}
use Rattle.kcat_eyes.specs.Eyes.{Spells, is_letter, after_symbol, escaped, met, in_line}

step : (line : List Char) (at : ℕ) (first : Char) → at < length line → first ≡ get_or line at first → drop at line ≡ first ∷ drop (at + 1) line
step line at first lt is = drop_more line at first lt ∙ ap (λ (f : Char). f ∷ drop (at + 1) line) (sym is)

whole : (line : List Char) (at : ℕ) → take (length line - at) (drop at line) ≡ drop at line
whole line at = take_all (length line - at) (drop at line) (let long : length (drop at line) ≡ length line - at = length-drop at line in omega arith)

front : (line : List Char) (at : ℕ) (first : Char) → 1 ≤ length (take (length line - at) (drop at line)) → first ≡ get_or (take (length line - at) (drop at line)) 0 first
    → drop at line ≡ first ∷ drop (at + 1) line
front line at first some is =
    let long : length (drop at line) ≡ length line - at = length-drop at line in
    let more : 1 ≤ length (drop at line) = rw (whole line at) at some in
    let here : first ≡ get_or (drop at line) 0 first = rw (whole line at) at is in
    let zeroth : at + 0 ≡ at = omega arith in
    let there : get_or (drop at line) 0 first ≡ get_or line at first = rw zeroth at (get_or-drop at line 0 first) in
    step line at first (omega arith) (here ∙ there)

pub symbol : (codes : Codes) (line : List Char) (at : ℕ) (first again : Char) (state : State) → 1 ≤ length (take (length line - at) (drop at line))
    → first ≡ get_or (take (length line - at) (drop at line)) 0 first → again ≡ get_or (take (length line - at) (drop at line)) 0 again
    → false ≡ is_letter codes first → state ≡ after_symbol codes again
    → Spells (record { active = false; chars = take (at + 1 - at) (drop at line) }) state (drop (at + 1) line) ≡ escaped codes (drop at line)
symbol codes line at first again state some is is' other same =
    let one : at + 1 - at ≡ 1 = omega arith in
    let begins = front line at first some is in
    let begins' = front line at again some is' in
    let equal : again ∷ drop (at + 1) line ≡ first ∷ drop (at + 1) line = sym begins' ∙ begins in
    let heads : again ≡ first = cc in
    rw (begins, one, ← other, same, heads) refl

pub active : (line : List Char) (at : ℕ) (first : Char) → 1 ≤ at → at ≤ length line → first ≡ get_or line (at - 1) first → take (at - (at - 1)) (drop (at - 1) line) ≡ first ∷ []
active line at first least most is =
    let one : at - (at - 1) ≡ 1 = omega arith in
    rw (step line (at - 1) first (omega arith) is, one) refl

pub in_line-met : (codes : Codes) (state : State) (line : List Char) (at : ℕ) (first : Char) → at < length line → first ≡ get_or line at first
    → in_line codes state (drop at line) ≡ met codes state first (drop (at + 1) line) (in_line codes state (drop (at + 1) line))
in_line-met codes state line at first lt is = rw (step line at first lt is) refl
