-- What a sink gains by one call after another.
use Rattle.std.proofs.Common.{◌≡◌, ℕ, ◌+◌, ◌-◌, ◌≤◌, ◌<◌, List, ◌++◌, length, take, drop, Option, Some, None, refl, append_assoc, arith, length-drop, length-append}
use Rattle.std.proofs.Math.Seq.{take-add, take-append-add}
use Rattle.std.proofs.lemmas.List.{take_all}
use Rattle.ts_outside.specs.Gaining.{Gained, GainedPrefix, GainedPart}

pub gained_then : (old between new : Option (List ℕ)) (x y : List ℕ) → Gained old between x → Gained between new y → Gained old new (x ++ y)
gained_then None between new x y first second = rw (second, first) refl
gained_then (Some held) between new x y first second = rw (second, first, append_assoc) refl

-- what is left from a place on
pub range_from : (n : ℕ) (bytes : List ℕ) → take (length bytes - n) (drop n bytes) ≡ drop n bytes
range_from n bytes = take_all (length bytes - n) (drop n bytes) (omega (arith, length-drop n bytes))

pub gained_more : (old between new : Option (List ℕ)) (n m : ℕ) (bytes : List ℕ) → Gained old between (take n bytes) → Gained between new (take m (take (length bytes - n) (drop n bytes))) → Gained old new (take (n + m) bytes)
gained_more old between new n m bytes first second =
    let more = rw (range_from n bytes) at second in
    rw (take-add n m bytes) (gained_then old between new (take n bytes) (take m (drop n bytes)) first more)

pub prefix_then : (old between new : Option (List ℕ)) (x y : List ℕ) → Gained old between x → GainedPrefix between new y → GainedPrefix old new (x ++ y)
prefix_then old between new x y first (n, most, second) =
    (length x + n, rw length-append (omega (arith, most)), rw (take-append-add x y n) (gained_then old between new x (take n y) first second))

pub part_then : (old between new : Option (List ℕ)) (x y : List ℕ) → 0 < length y → Gained old between x → GainedPart between new y → GainedPart old new (x ++ y)
part_then old between new x y some first (n, most, second) =
    (length x + n, rw length-append (omega (arith, some, most)), rw (take-append-add x y n) (gained_then old between new x (take n y) first second))

pub part_is_prefix : (old new : Option (List ℕ)) (bytes : List ℕ) → GainedPart old new bytes → GainedPrefix old new bytes
part_is_prefix old new bytes (n, most, gained) = (n, omega (arith, most), gained)

pub not_all : (n k : ℕ) → n < k → n ≤ k - 1
not_all n k less = omega (arith, less)
