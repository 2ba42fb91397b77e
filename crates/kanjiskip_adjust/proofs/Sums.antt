-- No penalty of a gap is so great that the widow penalty passes a word with it.
use Prim.Native.Nat.{zero, suc}
use Rattle.std.proofs.Common.{◌≡◌, ℕ, ◌^◌, List, [], ◌∷◌, ◌++◌, slice_get, Bool, true, false, ◌||◌, if◌then◌else◌, Option, Some, None, ℤ, pos, ◌+ℤ◌, FitsSigned, w32, w64, refl, arith}
use Rattle.std.specs.Prelude.{IfSome}
use Rattle.std.specs.Ordering.{int_eq}
use Rattle.std.specs.Int.{saturate_signed}
use Rattle.std.proofs.lemmas.List.{append-nil}
use Rattle.ts_geometry.specs.Numbers.{IsWithin}
use Rattle.ts_geometry.specs.declared.glue.Glue.{Glue}
use Rattle.box_tree.specs.declared.item.Item.{Item}
use Rattle.box_tree.specs.declared.item.Item.TheVariants as items
use Rattle.jlist_builder.specs.declared.character.Side.{Side}
use Rattle.jlist_builder.specs.declared.space.Space.{Space}
use Rattle.jlist_builder.specs.declared.space.Space.TheVariants as spaces
use Rattle.jlist_builder.specs.Entries.{IsOther, AreEntries, Entry}
use Rattle.jlist_builder.specs.Pieces.{Piece, Kanji, Glyph, Thing, CutHere, InhibitHere, joined}
use Rattle.jlist_builder.specs.Gaps.{neighbour, over, gap_penalty, unless_zero, penalty_items, space_before_kanji, space_before_word, own}
use Rattle.kanjiskip_adjust.specs.EndCodes.{Codes}
use Rattle.kanjiskip_adjust.specs.Finished.{facing, end_skip, skip_items, space_or, finally_before, finished}
use Rattle.kanjiskip_adjust.specs.Walks.{IsSmall}
use Rattle.kanjiskip_adjust.specs.declared.look.End.TheVariants as ends
use Rattle.kanjiskip_adjust.proofs.Sorts.{ArePieces, joined_pieces}
use Rattle.kanjiskip_adjust.proofs.Walking.{plain, no_skip}
use Rattle.kanjiskip_adjust.proofs.Widows.{finished_plain}

abbrev AreSmall : List Item → Type 0
AreSmall [] = Unit {0}
AreSmall (x ∷ xs) = IsSmall x × AreSmall xs

small-append : (xs ys : List Item) → AreSmall xs → AreSmall ys → AreSmall (xs ++ ys)
small-append [] ys a b = b
small-append (x ∷ xs) ys a b = (a.0, small-append xs ys a.1 b)

small_at : (xs : List Item) (n : ℕ) → AreSmall xs → IfSome (slice_get xs n) IsSmall
small_at [] n s = tt
small_at (x ∷ xs) zero s = s.0
small_at (x ∷ xs) (suc n) s = small_at xs n s.1

over_word : (i : Item) (o : Option Side) → ((s : Side) → o ≡ Some s → FitsSigned w32 s.post)
    → (s : Side) → over i o ≡ Some s → FitsSigned w32 s.post
over_word (items.Glyph font code size shift first last) o words s is = cc
over_word (items.Kanji font cell size kind) o words s is = cc
over_word (items.Box tree shift) o words s is = cc
over_word (items.Crossed tree shift seen) o words s is = cc
over_word (items.Rule wd ht dp) o words s is = cc
over_word (items.Glue glue from) o words s is = cc
over_word (items.Kern width from) o words s is = cc
over_word (items.Penalty value auto) o words s is = words s is

neighbour_word : (p : List Piece) → ArePieces p → (s : Side) → neighbour p ≡ Some s → FitsSigned w32 s.post
neighbour_word [] pieces s is = cc
neighbour_word (Kanji k ∷ p) pieces s is =
    let same : k.kinsoku.post ≡ s.post = cc in rw (← same) pieces.0.1
neighbour_word (Glyph w ∷ p) pieces s is =
    let same : w.letter.kinsoku.post ≡ s.post = cc in rw (← same) pieces.0.1
neighbour_word (Thing i ∷ p) pieces s is = over_word i (neighbour p) (neighbour_word p pieces.1) s is
neighbour_word (CutHere ∷ p) pieces s is = neighbour_word p pieces.1 s is
neighbour_word (InhibitHere ∷ p) pieces s is = neighbour_word p pieces.1 s is

sum_within : (y z : ℤ) → FitsSigned w32 y → FitsSigned w32 z → IsWithin (2 ^ 40) (y +ℤ z)
sum_within y z a b = grind (arith, a, b)

small_unless : (b : Bool) (z : ℤ) → IsWithin (2 ^ 40) z → AreSmall (penalty_items (if b then None else Some z))
small_unless true z within = tt
small_unless false z within = (within, tt)

small_if : (b : Bool) (z : ℤ) → IsWithin (2 ^ 40) z → AreSmall (penalty_items (if b then unless_zero z else None))
small_if true z within = small_unless (int_eq z (pos 0)) z within
small_if false z within = tt

small_gap : (o : Option Side) (j : Bool) (pre : ℤ) → ((s : Side) → o ≡ Some s → FitsSigned w32 s.post) → FitsSigned w32 pre
    → AreSmall (penalty_items (gap_penalty o j pre))
small_gap None j pre words word = tt
small_gap (Some a) j pre words word = small_if (a.is_japanese || j) (a.post +ℤ pre) (sum_within a.post pre (words a refl) word)

small_skip : (o : Option Glue) → AreSmall (skip_items o)
small_skip None = tt
small_skip (Some glue) = (tt, tt)

small_space : (space : Space) (o : Option Glue) → AreSmall (space_or space o)
small_space spaces.Nothing o = small_skip o
small_space (spaces.Glue glue) o = (tt, tt)
small_space (spaces.Kern width) o = (tt, tt)

small_other : (i : Item) → IsOther i → IsSmall i
small_other (items.Glyph font code size shift first last) other = tt
small_other (items.Kanji font cell size kind) other = tt
small_other (items.Box tree shift) other = tt
small_other (items.Crossed tree shift seen) other = tt
small_other (items.Rule wd ht dp) other = tt
small_other (items.Glue glue from) other = tt
small_other (items.Kern width from) other = tt
small_other (items.Penalty value auto) other = rw other tt

small_plain : (codes : Codes) (p : List Piece) → ArePieces p → AreSmall (plain codes p)
small_plain codes [] pieces = tt
small_plain codes (Kanji k ∷ past) pieces =
    small-append (plain codes past ++ finally_before codes None past (Kanji k)) (own (Kanji k))
    (small-append (plain codes past) (finally_before codes None past (Kanji k)) (small_plain codes past pieces.1)
    (small-append (penalty_items (gap_penalty (neighbour past) true k.kinsoku.pre)) (space_or (space_before_kanji past k) (end_skip codes (facing past) (Some (ends.Japanese k.cell))))
    (small_gap (neighbour past) true k.kinsoku.pre (neighbour_word past pieces.1) pieces.0.0)
    (small_space (space_before_kanji past k) (end_skip codes (facing past) (Some (ends.Japanese k.cell))))))
    (tt, tt)
small_plain codes (Glyph w ∷ past) pieces =
    small-append (plain codes past ++ finally_before codes None past (Glyph w)) (own (Glyph w))
    (small-append (plain codes past) (finally_before codes None past (Glyph w)) (small_plain codes past pieces.1)
    (small-append (penalty_items (gap_penalty (neighbour past) false w.letter.kinsoku.pre)) (space_or (space_before_word past w) (end_skip codes (facing past) (Some (ends.European w.letter.first))))
    (small_gap (neighbour past) false w.letter.kinsoku.pre (neighbour_word past pieces.1) pieces.0.0)
    (small_space (space_before_word past w) (end_skip codes (facing past) (Some (ends.European w.letter.first))))))
    (tt, tt)
small_plain codes (Thing i ∷ past) pieces =
    rw (no_skip codes past i)
    (small-append (plain codes past ++ []) (i ∷ []) (small-append (plain codes past) [] (small_plain codes past pieces.1) tt) (small_other i pieces.0, tt))
small_plain codes (CutHere ∷ past) pieces = simp append-nil (small_plain codes past pieces.1)
small_plain codes (InhibitHere ∷ past) pieces = simp append-nil (small_plain codes past pieces.1)

-- the items of the finished list without the widow penalty
pub finished_small : (codes : Codes) (e : List Entry) (n : ℕ) → AreEntries e → IfSome (slice_get (finished codes None (joined e)) n) IsSmall
finished_small codes e n entries =
    rw (finished_plain codes (joined e)) (small_at (plain codes (joined e)) n (small_plain codes (joined e) (joined_pieces e entries)))

-- The widow penalty with a penalty that is small passes no word.
pub sum_fits : (z w : ℤ) → IsWithin (2 ^ 40) z → FitsSigned w32 w → saturate_signed w64 (z +ℤ w) ≡ z +ℤ w
sum_fits z w within word = grind (arith, within, word)
