-- The function from a cell to its number keeps to the relation, and no other number does.
use Rattle.std.proofs.Common.{◌≡◌, ℕ, arith, refl}
use Rattle.jis_codes.specs.Kuten.{Kuten, IsKuten}
use Rattle.jis_codes.specs.Spellings.{Coding, jis, euc, shift_jis, kuten, Spells}
use Rattle.jis_codes.specs.Numbers.{number_of}

pub spells-number_of : (coding : Coding) (k : Kuten) → IsKuten k → Spells coding (number_of coding k) k
spells-number_of jis k h = (h, refl)
spells-number_of euc k h = (h, refl)
spells-number_of shift_jis k h = (h, grind arith)
spells-number_of kuten k h = (h, refl)

pub spells-only : (coding : Coding) (k : Kuten) (number : ℕ) → Spells coding number k → number ≡ number_of coding k
spells-only jis k number s = s.1
spells-only euc k number s = s.1
spells-only shift_jis k number s = grind arith
spells-only kuten k number s = s.1
