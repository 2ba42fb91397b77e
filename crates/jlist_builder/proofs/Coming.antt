-- The items of a metric list come from its entries.
use Rattle.std.proofs.Common.{◌≡◌, ◌⊎◌, inl, inr, true, false, ℕ, ℤ, List, [], ◌∷◌, ◌++◌, Option, Some, None, All, refl}
use Rattle.std.specs.Prelude.{IfSome, Contains}
use Rattle.std.proofs.lemmas.List.Elements.{All-nil, All-cons, All-head, All-tail, All-append, All-contains_itself}
use Rattle.box_tree.specs.declared.item.GlueFrom.TheVariants as glues
use Rattle.box_tree.specs.declared.item.KernFrom.TheVariants as kerns
use Rattle.box_tree.specs.declared.item.Item.{Item}
use Rattle.box_tree.specs.declared.item.Item.TheVariants as items
use Rattle.tfm_load.specs.declared.programs.Step.{Step}
use Rattle.tfm_load.specs.declared.programs.Step.TheVariants as steps
use Rattle.tfm_load.specs.Metrics.{pair_of}
use Rattle.jlist_builder.specs.declared.character.Letter.{Letter}
use Rattle.jlist_builder.specs.declared.character.Run.{Run}
use Rattle.jlist_builder.specs.declared.character.Run.TheVariants as runs
use Rattle.jlist_builder.specs.declared.space.Space.{Space}
use Rattle.jlist_builder.specs.declared.space.Space.TheVariants as spaces
use Rattle.jlist_builder.specs.Entries.{EuropeanCharacter, Entry, Japanese, European, Other, Cut, Inhibit}
use Rattle.jlist_builder.specs.Pieces.{Word, Piece, Kanji, Glyph, Thing, CutHere, InhibitHere, joined, joint, joint_by, letter_of, word_of, run, before_letter, with_letter}
use Rattle.jlist_builder.specs.Spaces.{space_items}
use Rattle.jlist_builder.specs.Gaps.{penalty_items, gap_penalty, neighbour, space_before_kanji, space_before_word, before, own, spaced}
use Rattle.jlist_builder.specs.Glyphs.{IsGlyphOf, ComesFrom, GlyphsComeFromEntries}

module _ (e : List Entry) where
  -- ---- pieces

  abbrev IsLetterFrom : Letter → Type 0
  IsLetterFrom l = IsGlyphOf e l.font l.code l.size

  abbrev PieceComes : Piece → Type 0
  PieceComes (Kanji k) = Contains e (Japanese k)
  PieceComes (Glyph w) = IsLetterFrom w.letter
  PieceComes (Thing i) = Contains e (Other i)
  PieceComes CutHere = Unit {0}
  PieceComes InhibitHere = Unit {0}

  abbrev PiecesCome : List Piece → Type 0
  PiecesCome [] = Unit {0}
  PiecesCome (x ∷ past) = PieceComes x × PiecesCome past

  before_letter_comes : (p : List Piece) → PiecesCome p → PiecesCome (before_letter p)
  before_letter_comes [] s = tt
  before_letter_comes (InhibitHere ∷ past) s = before_letter_comes past s.1
  before_letter_comes (Kanji k ∷ past) s = s.1
  before_letter_comes (Glyph w ∷ past) s = s.1
  before_letter_comes (Thing i ∷ past) s = s.1
  before_letter_comes (CutHere ∷ past) s = s.1

  with_letter_comes : (o : Option Letter) (w : Word) (p : List Piece) → IfSome o IsLetterFrom → IsLetterFrom w.letter → PiecesCome p
      → PiecesCome (with_letter o w p)
  with_letter_comes (Some c) w p l h s = (l, before_letter_comes p s)
  with_letter_comes None w p l h s = (h, s)

  joint_by_comes : (a : EuropeanCharacter) (left : Letter) (s : Step) → Contains e (European a) → pair_of a.metric left.code a.code ≡ s
      → IfSome (joint_by a.metric a.z left (letter_of a) s) IsLetterFrom
  joint_by_comes a left (steps.Ligature code) there is =
      record { letter = a; among = there; font_is = refl; code_is = inr (left.code, is); size_is = refl }
  joint_by_comes a left steps.Nothing there is = tt
  joint_by_comes a left (steps.Kern width) there is = tt

  joint_comes : (a : EuropeanCharacter) (r : Run) → Contains e (European a) → IfSome (joint a.metric a.z r (letter_of a)) IsLetterFrom
  joint_comes a (runs.European left) there = joint_by_comes a left (pair_of a.metric left.code a.code) there refl
  joint_comes a runs.Start there = tt
  joint_comes a (runs.Japanese class after) there = tt

  abbrev AreAmong : List Entry → Type 0
  AreAmong some = All (Contains e) some

  joined_comes : (some : List Entry) → AreAmong some → PiecesCome (joined some)
  joined_comes [] s = tt
  joined_comes (Japanese k ∷ past) s = (All-head (Contains e) (Japanese k) past s, joined_comes past (All-tail (Contains e) (Japanese k) past s))
  joined_comes (European a ∷ past) s =
      let there = All-head (Contains e) (European a) past s in
      with_letter_comes (joint a.metric a.z (run (joined past)) (letter_of a)) (word_of a) (joined past) (joint_comes a (run (joined past)) there)
      (record { letter = a; among = there; font_is = refl; code_is = inl refl; size_is = refl })
      (joined_comes past (All-tail (Contains e) (European a) past s))
  joined_comes (Other i ∷ past) s = (All-head (Contains e) (Other i) past s, joined_comes past (All-tail (Contains e) (Other i) past s))
  joined_comes (Cut ∷ past) s = (tt, joined_comes past (All-tail (Contains e) Cut past s))
  joined_comes (Inhibit ∷ past) s = (tt, joined_comes past (All-tail (Contains e) Inhibit past s))

  -- ---- items

  abbrev AllCome : List Item → Type 0
  AllCome xs = All (ComesFrom e) xs

  one_comes : (i : Item) → ComesFrom e i → AllCome (i ∷ [])
  one_comes i h = All-cons (ComesFrom e) i [] h (All-nil (ComesFrom e))

  penalty_items_come : (o : Option ℤ) → AllCome (penalty_items o)
  penalty_items_come None = All-nil (ComesFrom e)
  penalty_items_come (Some value) = one_comes (items.Penalty value true) (inr tt)

  space_items_come : (s : Space) → AllCome (space_items s)
  space_items_come spaces.Nothing = All-nil (ComesFrom e)
  space_items_come (spaces.Glue g) = one_comes (items.Glue g glues.Metric) (inr tt)
  space_items_come (spaces.Kern w) = one_comes (items.Kern w kerns.Metric) (inr tt)

  before_comes : (past : List Piece) (x : Piece) → AllCome (before past x)
  before_comes past (Kanji k) =
      let penalty = gap_penalty (neighbour past) true k.kinsoku.pre in
      All-append (ComesFrom e) (penalty_items penalty) (space_items (space_before_kanji past k)) (penalty_items_come penalty) (space_items_come (space_before_kanji past k))
  before_comes past (Glyph w) =
      let penalty = gap_penalty (neighbour past) false w.letter.kinsoku.pre in
      All-append (ComesFrom e) (penalty_items penalty) (space_items (space_before_word past w)) (penalty_items_come penalty) (space_items_come (space_before_word past w))
  before_comes past (Thing i) = All-nil (ComesFrom e)
  before_comes past CutHere = All-nil (ComesFrom e)
  before_comes past InhibitHere = All-nil (ComesFrom e)

  own_comes : (x : Piece) → PieceComes x → AllCome (own x)
  own_comes (Kanji k) h = one_comes _ (inr (record { character = k; among = h; font_is = refl; cell_is = refl; size_is = refl }))
  own_comes (Glyph w) h = one_comes _ (inr h)
  own_comes (Thing i) h = one_comes i (inl h)
  own_comes CutHere h = All-nil (ComesFrom e)
  own_comes InhibitHere h = All-nil (ComesFrom e)

  spaced_comes : (p : List Piece) → PiecesCome p → AllCome (spaced p)
  spaced_comes [] s = All-nil (ComesFrom e)
  spaced_comes (x ∷ past) s =
      All-append (ComesFrom e) (spaced past ++ before past x) (own x)
      (All-append (ComesFrom e) (spaced past) (before past x) (spaced_comes past s.1) (before_comes past x)) (own_comes x s.0)

pub glyphs_come : GlyphsComeFromEntries
glyphs_come e = spaced_comes e (joined e) (joined_comes e e (All-contains_itself e))
