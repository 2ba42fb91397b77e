-- The value of bytes, the highest first.
use Rattle.std.proofs.Common.{◌≡◌, ℕ, ◌+◌, ◌*◌, ◌≤◌, List, [], ◌∷◌, length, take, arith, get_or}
use Rattle.byteorder.specs.Endian.{big_number}
use Rattle.dvi_commands.specs.Fields.{value_after}

pub value_one : (xs : List ℕ) → 1 ≤ length xs → value_after 0 (take 1 xs) ≡ get_or xs 0 0
value_one [] le = absurd (omega arith)
value_one (a ∷ xs) le = omega arith

pub value_two : (xs : List ℕ) → 2 ≤ length xs → value_after 0 (take 2 xs) ≡ big_number 2 xs
value_two [] le = absurd (omega arith)
value_two (a ∷ []) le = absurd (omega arith)
value_two (a ∷ b ∷ xs) le = omega arith

pub value_three : (xs : List ℕ) → 3 ≤ length xs → value_after 0 (take 3 xs) ≡ big_number 2 xs * 256 + get_or xs 2 0
value_three [] le = absurd (omega arith)
value_three (a ∷ []) le = absurd (omega arith)
value_three (a ∷ b ∷ []) le = absurd (omega arith)
value_three (a ∷ b ∷ c ∷ xs) le = omega arith

pub value_four : (xs : List ℕ) → 4 ≤ length xs → value_after 0 (take 4 xs) ≡ big_number 4 xs
value_four [] le = absurd (omega arith)
value_four (a ∷ []) le = absurd (omega arith)
value_four (a ∷ b ∷ []) le = absurd (omega arith)
value_four (a ∷ b ∷ c ∷ []) le = absurd (omega arith)
value_four (a ∷ b ∷ c ∷ d ∷ xs) le = omega arith
