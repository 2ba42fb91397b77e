-- Numbers as bytes, the highest first, are read as these numbers.
use Rattle.std.proofs.Common.{◌≡◌, ℕ, zero, suc, ◌+◌, ◌*◌, ◌%◌, ◌^◌, ◌<◌, List, [], ◌∷◌, ◌++◌, length, take, drop, Ok, refl, sym, ap, ◌∙◌, arith, ℤ, pos, false, length-append, pow-suc, mul_comm}
use Rattle.std.specs.Prelude.{negsuc, nat_lt}
use Rattle.std.specs.Int.{w32, byte_at, bytes_high_first, cast_unsigned}
use Rattle.std.specs.Int.RustNames.{FitsSigned}
use Rattle.std.proofs.Math.Nat.{pow-le-pow_right}
use Rattle.std.proofs.Math.Arith.{mod-mul}
use Rattle.std.proofs.lemmas.Int.{ints}
use Rattle.std.proofs.lemmas.List.{append-nil, take-append-le, drop-append-le, take_all, drop_all}
use Rattle.std.proofs.lemmas.Bool.{le-ltb}
use Rattle.dvi_commands.specs.Fields.{text, value_after, unsigned, with_sign, signed}
use Rattle.dvi_commands.specs.Spelling.{four}

-- ---- numbers

pub length-bytes : (k n : ℕ) → length (bytes_high_first k n) ≡ k
length-bytes zero n = refl
length-bytes (suc k) n = let e = length-bytes k n in omega (arith, e)

byte_more : (k n high : ℕ) → (high * 256 + byte_at k n) * 256 ^ k + n % 256 ^ k ≡ high * 256 ^ suc k + n % 256 ^ suc k
byte_more zero n high = omega arith
byte_more (suc k) n high =
    let unit = 256 ^ suc k in
    let wider : 256 ^ suc (suc k) ≡ 256 * unit = pow-suc 256 (suc k) ∙ mul_comm unit 256 in
    let some : 0 < unit = pow-le-pow_right {n = 256} (omega arith) {i = 0} {j = suc k} (omega arith) in
    rw (wider, mod-mul n {m = 256} {c = unit} (omega arith) some) (omega arith)

value-bytes : (k n high : ℕ) → value_after high (bytes_high_first k n) ≡ high * 256 ^ k + n % 256 ^ k
value-bytes zero n high = omega arith
value-bytes (suc k) n high = value-bytes k n (high * 256 + byte_at k n) ∙ byte_more k n high

-- ---- fields

pub text-again : (x rest : List ℕ) → text (length x) (x ++ rest) ≡ Ok (x, rest)
text-again x rest =
    let long : nat_lt (length (x ++ rest)) (length x) ≡ false = le-ltb _ _ (omega (arith, length-append x rest)) in
    let t : take (length x) (x ++ rest) ≡ x = take-append-le (length x) x rest (omega arith) ∙ take_all (length x) x (omega arith) in
    let d : drop (length x) (x ++ rest) ≡ rest = drop-append-le (length x) x rest (omega arith) ∙ ap (λ (y : List ℕ). y ++ rest) (drop_all (length x) x (omega arith)) in
    rw (long, t, d) refl

whole : (n m : ℕ) → n < m → 0 * m + n % m ≡ n
whole n m lt = grind arith

pub unsigned_one : (n : ℕ) (rest : List ℕ) → unsigned 1 (n ∷ rest) ≡ Ok (n, rest)
unfolding unsigned
unsigned_one n rest =
    let v : 0 * 256 + n ≡ n = omega arith in
    rw (text-again (n ∷ []) rest, v) refl

pub unsigned-again : (k n : ℕ) (rest : List ℕ) → n < 256 ^ k → unsigned k (bytes_high_first k n ++ rest) ≡ Ok (n, rest)
unfolding unsigned
unsigned-again k n rest lt =
    let t : text k (bytes_high_first k n ++ rest) ≡ Ok (bytes_high_first k n, rest) = ap (λ (j : ℕ). text j (bytes_high_first k n ++ rest)) (sym (length-bytes k n)) ∙ text-again (bytes_high_first k n) rest in
    let v : value_after 0 (bytes_high_first k n) ≡ n = value-bytes k n 0 ∙ whole n (256 ^ k) lt in
    rw (t, v) refl

with_sign-again : (z : ℤ) → FitsSigned w32 z → with_sign 4 (cast_unsigned w32 z) ≡ z
with_sign-again (pos n) fits = grind (arith, ints)
with_sign-again (negsuc n) fits = grind (arith, ints)

fits_four : (z : ℤ) → FitsSigned w32 z → cast_unsigned w32 z < 2 ^ 32
fits_four (pos n) fits = omega arith
fits_four (negsuc n) fits = omega arith

pub signed-again : (z : ℤ) (rest : List ℕ) → FitsSigned w32 z → signed 4 (four z ++ rest) ≡ Ok (z, rest)
unfolding signed
signed-again z rest fits =
    let e : unsigned 4 (four z ++ rest) ≡ Ok (cast_unsigned w32 z, rest) = unsigned-again 4 (cast_unsigned w32 z) rest (fits_four z fits) in
    rw (e, with_sign-again z fits) refl

pub unsigned_alone : (k n : ℕ) → n < 256 ^ k → unsigned k (bytes_high_first k n) ≡ Ok (n, [])
unsigned_alone k n lt = ap (unsigned k) (sym (append-nil (bytes_high_first k n))) ∙ unsigned-again k n [] lt

pub signed_alone : (z : ℤ) → FitsSigned w32 z → signed 4 (four z) ≡ Ok (z, [])
signed_alone z fits = ap (signed 4) (sym (append-nil (four z))) ∙ signed-again z [] fits

-- a number of two bytes
pub signed_short : (k : ℕ) (z : ℤ) → k < 2 ^ 16 → with_sign 2 k ≡ z → signed 2 (bytes_high_first 2 k) ≡ Ok (z, [])
unfolding signed
signed_short k z lt e = rw (unsigned_alone 2 k lt, e) refl
