-- What is put as bytes is read as the number that was put.
use Rattle.std.proofs.Common.{◌≡◌, ℕ, ◌<◌, ◌^◌, List, ◌++◌, length, drop, Ok, refl, arith, ℤ}
use Rattle.std.specs.Int.{w32}
use Rattle.std.specs.Int.RustNames.{FitsSigned}
use Rattle.std.proofs.lemmas.List.{drop-append-le, drop_all}
use Rattle.byteorder.specs.Endian.{big_bytes}
use Rattle.dvi_commands.specs.Fields.{signed, unsigned, signed_bytes}
use Rattle.dvi_commands.proofs.Saying.{signed-again, unsigned-again}

put_after : (old new put : List ℕ) → new ≡ old ++ put → drop (length old) new ≡ put
put_after old new put is = rw (is, drop-append-le (length old) old put (omega arith), drop_all (length old) old (omega arith)) refl

pub signed_put : (old new : List ℕ) (z : ℤ) → FitsSigned w32 z → new ≡ old ++ signed_bytes z → (rest : List ℕ) → signed 4 (drop (length old) new ++ rest) ≡ Ok (z, rest)
signed_put old new z fits is rest = rw (put_after old new (signed_bytes z) is) (signed-again z rest fits)

pub unsigned_put : (old new : List ℕ) (n : ℕ) → n < 2 ^ 32 → new ≡ old ++ big_bytes 4 n → (rest : List ℕ) → unsigned 4 (drop (length old) new ++ rest) ≡ Ok (n, rest)
unsigned_put old new n lt is rest = rw (put_after old new (big_bytes 4 n) is) (unsigned-again 4 n rest lt)

pub short_put : (old new : List ℕ) (n : ℕ) → n < 2 ^ 16 → new ≡ old ++ big_bytes 2 n → (rest : List ℕ) → unsigned 2 (drop (length old) new ++ rest) ≡ Ok (n, rest)
short_put old new n lt is rest = rw (put_after old new (big_bytes 2 n) is) (unsigned-again 2 n rest lt)
