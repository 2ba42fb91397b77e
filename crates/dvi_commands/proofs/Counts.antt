-- Ten counts, one after the other.
use Rattle.std.proofs.Common.{◌≡◌, ℕ, suc, ◌-◌, ◌+◌, ◌≤◌, ◌<◌, List, [], ◌∷◌, ◌++◌, Ok, Err, refl, sym, ap, ◌∙◌, append_assoc, arith, ℤ}
use Rattle.std.proofs.lemmas.List.{append-nil}
use Rattle.dvi_commands.specs.declared.fault.DviKind.{DviKind}
use Rattle.ts_base.specs.Agreement.{◌>>=◌}
use Rattle.dvi_commands.specs.Fields.{Field, signed, counts}

-- what was read before, and what is still read
abbrev pub with_front : List ℤ → Field (List ℤ) → Field (List ℤ)
with_front front read = read >>= λ x. Ok (front ++ x.0, x.1)

regroup : (front : List ℤ) (n : ℤ) (read : Field (List ℤ)) → with_front front (read >>= λ x. Ok (n ∷ x.0, x.1)) ≡ with_front (front ++ n ∷ []) read
regroup front n (Ok x) = ap (λ (ns : List ℤ). Ok (ns, x.1)) (simp append_assoc)
regroup front n (Err f) = refl

pub goes_on : (front : List ℤ) (i : ℕ) (bytes : List ℕ) (n : ℤ) (after : List ℕ) (total : Field (List ℤ)) → i < 10 → signed 4 bytes ≡ Ok (n, after)
    → with_front front (counts (10 - i) bytes) ≡ total → with_front (front ++ n ∷ []) (counts (10 - (i + 1)) after) ≡ total
unfolding counts
goes_on front i bytes n after total lt h so_far =
    let k : 10 - i ≡ suc (10 - (i + 1)) = omega arith in
    let one : with_front front (counts (10 - i) bytes) ≡ with_front (front ++ n ∷ []) (counts (10 - (i + 1)) after) = rw (k, h) (regroup front n (counts (10 - (i + 1)) after)) in
    sym one ∙ so_far

pub ends : (e : DviKind) (front : List ℤ) (i : ℕ) (bytes : List ℕ) (total : Field (List ℤ)) → i < 10 → signed 4 bytes ≡ Err e
    → with_front front (counts (10 - i) bytes) ≡ total → total ≡ Err e
unfolding counts
ends e front i bytes total lt h so_far =
    let k : 10 - i ≡ suc (10 - (i + 1)) = omega arith in
    let one : with_front front (counts (10 - i) bytes) ≡ Err e = rw (k, h) refl in
    sym so_far ∙ one

pub is_done : (front : List ℤ) (i : ℕ) (bytes : List ℕ) (total : Field (List ℤ)) → 10 ≤ i → with_front front (counts (10 - i) bytes) ≡ total → total ≡ Ok (front, bytes)
unfolding counts
is_done front i bytes total le so_far =
    let k : 10 - i ≡ 0 = omega arith in
    let one : with_front front (counts (10 - i) bytes) ≡ Ok (front, bytes) = rw k (ap (λ (ns : List ℤ). Ok (ns, bytes)) (append-nil front)) in
    sym so_far ∙ one
