-- Names that are distinct have one number each, and a spelling stands at its number.
use Rattle.std.proofs.Common.{◌≡◌, ℕ, ◌<◌, Bool, true, false, List, [], ◌∷◌, ◌++◌, length, get_or, slice_get, position, Some, refl, arith, if◌then◌else◌}
use Rattle.std.proofs.lemmas.Grind.{common_steps}
use Rattle.std.proofs.lemmas.Option.{slice_get_within, get_or_from_slice_get, slice_get_read}
use Rattle.std.proofs.lemmas.List.Quantifiers.{position-Some}
use Rattle.std.proofs.lemmas.Map.Keys.{apart_from_distinct}
use Rattle.std.proofs.lemmas.List.{take_all}
use Rattle.std.proofs.Math.Seq.{take-append_seam}
use Rattle.std.specs.List.{IsDistinct}
use Rattle.tok_lists.specs.declared.spelling.Spelling.{Spelling}
use Rattle.tok_lists.specs.Same.{is_same}
use Rattle.tok_lists.specs.Equality.{is_same-decides}
use Rattle.tok_lists.specs.Names.{number_in, is_known, with_name, Grew, HaveOneNumberEach}

itself : (s : Spelling) → is_same s s ≡ true
itself s = (is_same-decides s s).1 refl

not_below : (names : List Spelling) (m n : ℕ) (s : Spelling) → IsDistinct is_same names → slice_get names m ≡ Some s → slice_get names n ≡ Some s → m < n → ⊥
not_below names m n s d hm hn below =
    let apart = apart_from_distinct is_same names m n s d below (slice_get_within names n s hn) in
    let em = get_or_from_slice_get names m s s hm in
    let en = get_or_from_slice_get names n s s hn in
    let same = itself s in
    grind arith

pub one_number : (names : List Spelling) → IsDistinct is_same names → HaveOneNumberEach names
one_number names d m n s hm hn =
    let below = not_below names m n s d hm hn in
    let above = not_below names n m s d hn hm in
    omega (arith, below, above)

-- the case of a first name, where `later` is the fact of the others
spelt_first : (x : Spelling) (xs : List Spelling) (s : Spelling) (b : Bool) → is_same s x ≡ b
    → slice_get (with_name xs s) (number_in xs s) ≡ Some s
    → slice_get (with_name (x ∷ xs) s) (number_in (x ∷ xs) s) ≡ Some s
spelt_first x xs s true e later = let same = (is_same-decides s x).0 e in grind (arith, common_steps)
spelt_first x xs s false e later = grind (arith, common_steps)

pub spelt : (names : List Spelling) (s : Spelling) → slice_get (with_name names s) (number_in names s) ≡ Some s
spelt [] s = refl
spelt (x ∷ xs) s = spelt_first x xs s (is_same s x) refl (spelt xs s)

pub found : (names : List Spelling) (s : Spelling) (n : ℕ) → position (is_same s) names ≡ Some n → slice_get names n ≡ Some s
found names s n at =
    let first = position-Some (is_same s) names n s at in
    slice_get_read names (length names) n s refl first.0 ((is_same-decides s (get_or names n s)).0 first.1)

grown_either : (b : Bool) (names : List Spelling) (s : Spelling) → Grew names (if b then names else names ++ s ∷ [])
grown_either true names s = take_all (length names) names (omega arith)
grown_either false names s = take-append_seam names (s ∷ [])

pub grown : (names : List Spelling) (s : Spelling) → Grew names (with_name names s)
grown names s = grown_either (is_known names s) names s
