-- A file that is read on.
use Rattle.std.proofs.Common.{◌≡◌, ℕ, ◌+◌, ◌≤◌, List, [], ◌++◌, length, drop, take, Option, Some, ap, subst, sym, ◌∙◌, arith, length-drop, length-take, length-append}
use Rattle.std.proofs.Math.Seq.{take-add}
use Rattle.std.proofs.lemmas.List.{take_all, drop-drop}
use Rattle.ts_outside.specs.declared.files.Got.TheVariants as got
use Rattle.ts_outside.specs.Reading.{Gives}

given : (before now : Option (List ℕ)) (left buffer : List ℕ) (n : ℕ) → before ≡ Some left → Gives before (got.Bytes n) buffer now → (n ≤ length left) × (take n buffer ≡ take n left) × (now ≡ Some (drop n left))
given before now left buffer n is gives = let P : Option (List ℕ) → Type 0 = λ o. Gives o (got.Bytes n) buffer now in subst P is gives

at_end : (before now : Option (List ℕ)) (left buffer : List ℕ) → before ≡ Some left → Gives before got.End buffer now → left ≡ []
at_end before now left buffer is gives = let P : Option (List ℕ) → Type 0 = λ o. Gives o got.End buffer now in (subst P is gives).0

-- The bytes so far are the first of the file, also with a piece more.
pub read_more : (before now : Option (List ℕ)) (left bytes buffer new : List ℕ) (n : ℕ) → before ≡ Some (drop (length bytes) left) → bytes ≡ take (length bytes) left → Gives before (got.Bytes n) buffer now → new ≡ bytes ++ take n buffer
    → (new ≡ take (length new) left) × (now ≡ Some (drop (length new) left))
read_more before now left bytes buffer new n is front gives joined =
    let g = given before now (drop (length bytes) left) buffer n is gives in
    let k : ℕ = length bytes in
    let whole : new ≡ take (k + n) left = joined ∙ ap (λ (t : List ℕ). bytes ++ t) g.1 ∙ ap (λ (t : List ℕ). t ++ take n (drop k left)) front ∙ sym (take-add k n left) in
    let len : length new ≡ k + n = ap length joined ∙ length-append bytes (take n buffer) ∙ ap (λ (m : ℕ). k + m) (ap length g.1 ∙ omega (arith, length-take n (drop k left), g.0)) in
    (whole ∙ ap (λ (m : ℕ). take m left) (sym len), g.2 ∙ ap (λ (t : List ℕ). Some t) (drop-drop n k left ∙ ap (λ (m : ℕ). drop m left) (sym len)))

pub read_all : (before now : Option (List ℕ)) (left bytes buffer : List ℕ) (most : ℕ) → length bytes ≤ most → before ≡ Some (drop (length bytes) left) → bytes ≡ take (length bytes) left → Gives before got.End buffer now → take most left ≡ bytes
read_all before now left bytes buffer most within is front gives =
    let none = at_end before now (drop (length bytes) left) buffer is gives in
    let short : length left ≤ length bytes = omega (arith, length-drop (length bytes) left, ap length none) in
    take_all most left (omega arith) ∙ sym (front ∙ take_all (length bytes) left short)
