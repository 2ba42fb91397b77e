-- The codes of the start are within their bounds.
use Rattle.std.proofs.Common.{ℕ, ◌≤◌, Bool, true, false, lit≤}
use Rattle.std.specs.Prelude.{if◌then◌else◌}
use Rattle.jis_codes.specs.Kuten.{Kuten}
use Rattle.tok_lists.specs.Codes.{AreCodes}
use Rattle.kcat_eyes.specs.StartCodes.{start_cat, start_kcat}

either : (P : ℕ → Type 0) (test : Bool) (x y : ℕ) → P x → P y → P (if test then x else y)
either P true x y of_x of_y = of_x
either P false x y of_x of_y = of_y

IsCat : ℕ → Type 0
IsCat n = n ≤ 15

or_cat : (test : Bool) (x y : ℕ) → x ≤ 15 → y ≤ 15 → (if test then x else y) ≤ 15
unfolding IsCat
or_cat test x y of_x of_y = either IsCat test x y of_x of_y

start_cats : (code : ℕ) → start_cat code ≤ 15
start_cats code =
    or_cat _ 0 _ (lit≤ tt) (or_cat _ 1 _ (lit≤ tt) (or_cat _ 2 _ (lit≤ tt) (or_cat _ 5 _ (lit≤ tt) (or_cat _ 9 _ (lit≤ tt) (or_cat _ 10 _ (lit≤ tt)
    (or_cat _ 11 _ (lit≤ tt) (or_cat _ 13 _ (lit≤ tt) (or_cat _ 14 _ (lit≤ tt) (or_cat _ 15 12 (lit≤ tt) (lit≤ tt))))))))))

abbrev IsKind : ℕ → Type 0
IsKind n = (16 ≤ n) × (n ≤ 18)

or_kind : (test : Bool) (x y : ℕ) → IsKind x → IsKind y → IsKind (if test then x else y)
or_kind test x y of_x of_y = either IsKind test x y of_x of_y

kana_kind : IsKind 17
kana_kind = (lit≤ tt, lit≤ tt)

kanji_kind : IsKind 16
kanji_kind = (lit≤ tt, lit≤ tt)

other_kind : IsKind 18
other_kind = (lit≤ tt, lit≤ tt)

start_kinds : (cell : Kuten) → IsKind (start_kcat cell)
start_kinds cell = or_kind _ 17 _ kana_kind (or_kind _ 16 18 kanji_kind other_kind)

pub start_bounds : AreCodes (record { cat = start_cat; kcat = start_kcat })
start_bounds = (start_cats, start_kinds)
