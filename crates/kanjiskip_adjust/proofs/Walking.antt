-- The walk comes past the items of any pieces.
use Rattle.std.proofs.Common.{◌≡◌, ℕ, List, [], ◌∷◌, ◌++◌, length, Bool, true, false, if◌then◌else◌, Option, Some, None, ℤ, ap, ◌∙◌, refl, append_assoc}
use Rattle.std.proofs.lemmas.List.{append-nil}
use Rattle.box_tree.specs.declared.item.Item.{Item}
use Rattle.box_tree.specs.declared.item.Item.TheVariants as items
use Rattle.box_tree.specs.declared.item.GlueFrom.TheVariants as glues
use Rattle.box_tree.specs.declared.item.KernFrom.TheVariants as kerns
use Rattle.jlist_builder.specs.declared.character.Letter.{Letter}
use Rattle.jlist_builder.specs.declared.character.Side.{Side}
use Rattle.jlist_builder.specs.declared.space.Space.{Space}
use Rattle.jlist_builder.specs.declared.space.Space.TheVariants as spaces
use Rattle.jlist_builder.specs.Entries.{JapaneseCharacter, IsOther}
use Rattle.jlist_builder.specs.Pieces.{Piece, Kanji, Glyph, Thing, CutHere, InhibitHere}
use Rattle.jlist_builder.specs.Spaces.{space_items}
use Rattle.jlist_builder.specs.Gaps.{neighbour, gap_penalty, penalty_items, space_before_kanji, space_before_word, before, own, spaced, over, glyph, kanji_item}
use Rattle.kanjiskip_adjust.specs.EndCodes.{Codes}
use Rattle.kanjiskip_adjust.specs.Finished.{facing, end_over, end_skip, space_or, finally_before, may_follow_item, is_japanese, is_text}
use Rattle.kanjiskip_adjust.specs.Walks.{walked, start}
use Rattle.kanjiskip_adjust.specs.declared.look.End.{End}
use Rattle.kanjiskip_adjust.specs.declared.look.End.TheVariants as ends
use Rattle.kanjiskip_adjust.specs.declared.walk.Walk.{Walk}
use Rattle.kanjiskip_adjust.proofs.Sorts.{IsPiece, ArePieces}

-- the finished list without the widow penalty
abbrev pub plain : Codes → List Piece → List Item
plain codes [] = []
plain codes (x ∷ past) = plain codes past ++ finally_before codes None past x ++ own x

-- where the gap begins that may have the widow penalty
abbrev pub place : Codes → List Piece → Option ℕ
place codes [] = None
place codes (Kanji k ∷ past) =
    if is_text k.kind then (if is_japanese (neighbour past) then Some (length (plain codes past)) else None) else place codes past
place codes (Glyph w ∷ past) = None
place codes (Thing i ∷ past) = if may_follow_item i then place codes past else None
place codes (CutHere ∷ past) = place codes past
place codes (InhibitHere ∷ past) = place codes past

-- the walk after the items of these pieces
abbrev walk_of : Codes → List Piece → Walk
walk_of codes p = record {
  left = facing p;
  is_after_japanese = is_japanese (neighbour p);
  is_spaced = false;
  gap = length (plain codes p);
  widow = place codes p;
}

module _ (codes : Codes) (widow : Option ℤ) where
  kanji_step :
      (l : Option End) (j : Bool) (g : ℕ) (o : Option ℕ) (done : List Item) (penalty : Option ℤ) (space : Space) (k : JapaneseCharacter) (rest : List Item)
      → (let now = (done ++ (penalty_items penalty ++ space_or space (end_skip codes l (Some (ends.Japanese k.cell))))) ++ kanji_item k ∷ [] in
      walked codes widow (record { left = l; is_after_japanese = j; is_spaced = false; gap = g; widow = o }) done
      (((penalty_items penalty ++ space_items space) ++ kanji_item k ∷ []) ++ rest)
      ≡ walked codes widow
      (record {
        left = Some (ends.Japanese k.cell);
        is_after_japanese = true;
        is_spaced = false;
        gap = length now;
        widow = if is_text k.kind then (if j then Some g else None) else o;
      }) now rest)
  kanji_step l j g o done None spaces.Nothing k rest = simp (append_assoc, append-nil)
  kanji_step l j g o done None (spaces.Glue z) k rest = simp (append_assoc, append-nil)
  kanji_step l j g o done None (spaces.Kern z) k rest = simp (append_assoc, append-nil)
  kanji_step l j g o done (Some p) spaces.Nothing k rest = simp (append_assoc, append-nil)
  kanji_step l j g o done (Some p) (spaces.Glue z) k rest = simp (append_assoc, append-nil)
  kanji_step l j g o done (Some p) (spaces.Kern z) k rest = simp (append_assoc, append-nil)

  letter_step :
      (l : Option End) (j : Bool) (g : ℕ) (o : Option ℕ) (done : List Item) (penalty : Option ℤ) (space : Space) (a : Letter) (rest : List Item)
      → (let now = (done ++ (penalty_items penalty ++ space_or space (end_skip codes l (Some (ends.European a.first))))) ++ glyph a in
      walked codes widow (record { left = l; is_after_japanese = j; is_spaced = false; gap = g; widow = o }) done
      (((penalty_items penalty ++ space_items space) ++ glyph a) ++ rest)
      ≡ walked codes widow
      (record { left = Some (ends.European a.last); is_after_japanese = false; is_spaced = false; gap = length now; widow = None }) now rest)
  letter_step l j g o done None spaces.Nothing a rest = simp (append_assoc, append-nil)
  letter_step l j g o done None (spaces.Glue z) a rest = simp (append_assoc, append-nil)
  letter_step l j g o done None (spaces.Kern z) a rest = simp (append_assoc, append-nil)
  letter_step l j g o done (Some p) spaces.Nothing a rest = simp (append_assoc, append-nil)
  letter_step l j g o done (Some p) (spaces.Glue z) a rest = simp (append_assoc, append-nil)
  letter_step l j g o done (Some p) (spaces.Kern z) a rest = simp (append_assoc, append-nil)

  other_step :
      (l : Option End) (n : Option Side) (g : ℕ) (o : Option ℕ) (done : List Item) (i : Item) (rest : List Item) → IsOther i
      → walked codes widow (record { left = l; is_after_japanese = is_japanese n; is_spaced = false; gap = g; widow = o }) done (i ∷ rest)
      ≡ walked codes widow
      (record {
        left = end_over i l;
        is_after_japanese = is_japanese (over i n);
        is_spaced = false;
        gap = length ((done ++ []) ++ i ∷ []);
        widow = if may_follow_item i then o else None;
      }) ((done ++ []) ++ i ∷ []) rest
  other_step l n g o done (items.Glyph font code size shift first last) rest other = absurd other
  other_step l n g o done (items.Kanji font cell size kind) rest other = absurd other
  other_step l n g o done (items.Box tree shift) rest other = refl
  other_step l n g o done (items.Crossed tree shift seen) rest other = refl
  other_step l n g o done (items.Rule wd ht dp) rest other = refl
  other_step l n g o done (items.Glue glue glues.Given) rest other = refl
  other_step l n g o done (items.Glue glue glues.Metric) rest other = absurd other
  other_step l n g o done (items.Glue glue glues.Skip) rest other = absurd other
  other_step l n g o done (items.Kern width kerns.Given) rest other = refl
  other_step l n g o done (items.Kern width kerns.Metric) rest other = absurd other
  other_step l n g o done (items.Penalty value auto) rest other = rw other refl

-- An other item has no skip before it.
pub no_skip : (codes : Codes) (past : List Piece) (i : Item) → finally_before codes None past (Thing i) ≡ []
no_skip codes past (items.Glyph font code size shift first last) = refl
no_skip codes past (items.Kanji font cell size kind) = refl
no_skip codes past (items.Box tree shift) = refl
no_skip codes past (items.Crossed tree shift seen) = refl
no_skip codes past (items.Rule wd ht dp) = refl
no_skip codes past (items.Glue glue from) = refl
no_skip codes past (items.Kern width from) = refl
no_skip codes past (items.Penalty value auto) = refl

-- one piece more
entry_step :
    (codes : Codes) (widow : Option ℤ) (past : List Piece) (x : Piece) (rest : List Item) → IsPiece x
    → walked codes widow (walk_of codes past) (plain codes past) ((before past x ++ own x) ++ rest)
    ≡ walked codes widow (walk_of codes (x ∷ past)) (plain codes (x ∷ past)) rest
entry_step codes widow past (Kanji k) rest piece =
    kanji_step codes widow (facing past) (is_japanese (neighbour past)) (length (plain codes past)) (place codes past) (plain codes past)
    (gap_penalty (neighbour past) true k.kinsoku.pre) (space_before_kanji past k) k rest
entry_step codes widow past (Glyph w) rest piece =
    letter_step codes widow (facing past) (is_japanese (neighbour past)) (length (plain codes past)) (place codes past) (plain codes past)
    (gap_penalty (neighbour past) false w.letter.kinsoku.pre) (space_before_word past w) w.letter rest
entry_step codes widow past (Thing i) rest piece =
    rw (no_skip codes past i) (other_step codes widow (facing past) (neighbour past) (length (plain codes past)) (place codes past) (plain codes past) i rest piece)
entry_step codes widow past CutHere rest piece = simp append-nil
entry_step codes widow past InhibitHere rest piece = simp append-nil

regroup : (a b c d : List Item) → ((a ++ b) ++ c) ++ d ≡ a ++ ((b ++ c) ++ d)
regroup a b c d = simp append_assoc

pub past_pieces :
    (codes : Codes) (widow : Option ℤ) (p : List Piece) (rest : List Item) → ArePieces p
    → walked codes widow start [] (spaced p ++ rest) ≡ walked codes widow (walk_of codes p) (plain codes p) rest
past_pieces codes widow [] rest pieces = refl
past_pieces codes widow (x ∷ past) rest pieces =
    ap (walked codes widow start []) (regroup (spaced past) (before past x) (own x) rest)
    ∙ (past_pieces codes widow past ((before past x ++ own x) ++ rest) pieces.1 ∙ entry_step codes widow past x rest pieces.0)
