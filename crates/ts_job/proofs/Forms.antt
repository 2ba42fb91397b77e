-- The parts of a form.
use Rattle.std.proofs.Common.{◌≡◌, ℕ, ◌+◌, ◌<◌, List, [], ◌∷◌, length, drop, get_or, Bool, true, false, Option, Some, None, refl, arith, cond, suc, zero}
use Rattle.jis_codes.specs.declared.character.Char.{Char}
use Rattle.jis_codes.specs.declared.character.Char.TheVariants.{One, Ja}
use Rattle.ts_job.specs.Form.{after}

within : (test : Bool) (text : List ℕ) (b : ℕ) (one : Char) (others rest : List Char) → cond test (after [] others) None ≡ Some rest → cond test (after text others) None ≡ after text rest
within true text b one others rest found = let same : others ≡ rest = cc in rw same refl
within false text b one others rest found = absurd cc

nothing_within : (test : Bool) (others : List Char) (found : Option (List Char)) → cond test (Some others) None ≡ None → cond test found None ≡ None
nothing_within true others found missing = absurd cc
nothing_within false others found missing = refl

-- A byte of the text is there.
pub after_more : (text : List ℕ) (i : ℕ) (characters rest : List Char) → i < length text → after (get_or text i 0 ∷ []) characters ≡ Some rest → after (drop i text) characters ≡ after (drop (i + 1) text) rest
after_more [] i characters rest lt found = absurd (omega arith)
after_more (b ∷ text) zero [] rest lt found = absurd cc
after_more (b ∷ text) zero (One c ∷ others) rest lt found = within _ text b (One c) others rest found
after_more (b ∷ text) zero (Ja k ∷ others) rest lt found = absurd cc
after_more (b ∷ text) (suc i) characters rest lt found =
    let e : suc i + 1 ≡ suc (i + 1) = omega arith in
    rw e (after_more text i characters rest (omega arith) found)

-- A byte of the text isn't there.
pub after_none : (text : List ℕ) (i : ℕ) (characters : List Char) → i < length text → after (get_or text i 0 ∷ []) characters ≡ None → after (drop i text) characters ≡ None
after_none [] i characters lt missing = absurd (omega arith)
after_none (b ∷ text) zero [] lt missing = refl
after_none (b ∷ text) zero (One c ∷ others) lt missing = nothing_within _ others (after text others) missing
after_none (b ∷ text) zero (Ja k ∷ others) lt missing = refl
after_none (b ∷ text) (suc i) characters lt missing = after_none text i characters (omega arith) missing
