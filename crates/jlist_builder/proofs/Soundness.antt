-- The metric list of sound entries is sound.
use Rattle.std.proofs.Common.{◌≡◌, ℕ, ◌*◌, ◌≤◌, ◌<◌, ◌^◌, ℤ, pos, Bool, true, false, List, [], ◌∷◌, ◌++◌, Option, Some, None, refl, arith, ◌&&◌, if◌then◌else◌}
use Rattle.std.specs.Prelude.{IsTrue, IfSome, unwrap_or}
use Rattle.std.proofs.lemmas.Int.{ints}
use Rattle.ts_geometry.specs.declared.direction.Dir.{Dir}
use Rattle.ts_geometry.specs.declared.measure.Measures.{Measures}
use Rattle.ts_geometry.specs.Numbers.{scale, IsWithin, max_dimen}
use Rattle.metric_words.specs.Sound.{is_fix, AreWithin}
use Rattle.box_tree.specs.Bounds.{IsDimen, HasDimens}
use Rattle.box_tree.specs.Laws.{JoinedAreSound}
use Rattle.box_tree.specs.Nodes.{tree_item, tree_items}
use Rattle.box_tree.specs.Sound.{AreSound, IsSoundGlue, IsSoundItem}
use Rattle.tfm_load.specs.declared.programs.Step.{Step}
use Rattle.tfm_load.specs.declared.programs.Step.TheVariants as steps
use Rattle.tfm_load.specs.Metrics as tfm
use Rattle.tfm_load.specs.Sound as tfm_sound
use Rattle.jfm_load.specs.declared.programs.Space.{Space as Words}
use Rattle.jfm_load.specs.declared.programs.Space.TheVariants as unscaled
use Rattle.jfm_load.specs.Metrics as jfm
use Rattle.jfm_load.specs.Sound as jfm_sound
use Rattle.jlist_builder.specs.declared.character.Letter.{Letter}
use Rattle.jlist_builder.specs.declared.character.Run.{Run}
use Rattle.jlist_builder.specs.declared.character.Run.TheVariants as runs
use Rattle.jlist_builder.specs.declared.space.Space.{Space}
use Rattle.jlist_builder.specs.declared.space.Space.TheVariants as spaces
use Rattle.jlist_builder.specs.Entries.{JapaneseCharacter, Entry, Japanese, European, Other, Cut, Inhibit}
use Rattle.jlist_builder.specs.Pieces.{Word, Piece, Kanji, Glyph, Thing, CutHere, InhibitHere, class_in, joined, joint, joint_by, letter_of, word_of, size_of, no_measures, run, before_letter, word_before, with_letter}
use Rattle.jlist_builder.specs.Spaces.{scaled_space, scaled_kern, space_items}
use Rattle.jlist_builder.specs.Gaps.{penalty_items, class_before, kanji_space, letter_space, space_before_kanji, space_before_word, is_inhibited, neighbour, gap_penalty, before, own, spaced}
use Rattle.jlist_builder.specs.Sound.{IsSoundJapanese, AreSoundEntries, MetricListsAreSound}

-- what lower crates say
pub record Laws : Type 0 where
  pub near : (w : ℤ) (z : ℕ) → IsTrue (is_fix w) → IsWithin (16 * z) (scale w z)
  pub pair : (m : tfm.Metric) (left right : ℕ) → tfm_sound.HasFixWords m → IsTrue (tfm_sound.is_fix_step (tfm.pair_of m left right))
  pub letters : (m : tfm.Metric) (code z : ℕ) → tfm_sound.HasFixWords m → IfSome (tfm.measures_of m code z) (AreWithin (16 * z))
  pub between : (m : jfm.Metric) (left right : ℕ) → jfm_sound.HasFixWords m → IsTrue (jfm_sound.is_fix_space (jfm.between_of m left right))
  pub classes : (m : jfm.Metric) (class z : ℕ) → jfm_sound.HasFixWords m → AreWithin (16 * z) (jfm.measures_of m class z)
  pub joins : JoinedAreSound

farther : (n m : ℕ) (x : ℤ) → n ≤ m → IsWithin n x → IsWithin m x
farther n m x h w = (omega (arith, ints), omega (arith, ints))

dimen : (z : ℕ) (x : ℤ) → z < 2 ^ 23 → IsWithin (16 * z) x → IsWithin max_dimen x
dimen z x h w = farther (16 * z) max_dimen x (omega arith) w

wide : (z : ℕ) (x : ℤ) → z < 2 ^ 23 → IsWithin (16 * z) x → IsWithin (2 ^ 32) x
wide z x h w = farther (16 * z) (2 ^ 32) x (omega arith) w

dimens : (z : ℕ) (m : Measures) → z < 2 ^ 23 → AreWithin (16 * z) m → HasDimens m
dimens z m h w = record { wd = dimen z m.wd.0 h w.wd; ht = dimen z m.ht.0 h w.ht; dp = dimen z m.dp.0 h w.dp }

both : (a b : Bool) → (a && b) ≡ true → (a ≡ true) × (b ≡ true)
both true true h = (refl, refl)
both true false h = absurd cc
both false b h = absurd cc

-- ---- spaces and penalties

abbrev IsSoundSpace : Space → Type 0
IsSoundSpace spaces.Nothing = Unit {0}
IsSoundSpace (spaces.Glue g) = IsSoundGlue g
IsSoundSpace (spaces.Kern w) = IsDimen w

space_items_sound : (dir : Dir) (s : Space) → IsSoundSpace s → AreSound dir (tree_items (space_items s))
space_items_sound dir spaces.Nothing h = tt
space_items_sound dir (spaces.Glue g) h = (h, tt)
space_items_sound dir (spaces.Kern w) h = (h, tt)

penalty_items_sound : (dir : Dir) (o : Option ℤ) → AreSound dir (tree_items (penalty_items o))
penalty_items_sound dir None = tt
penalty_items_sound dir (Some value) = (tt, tt)

-- a space where no inhibit takes it away
unless_inhibited : (b : Bool) (s : Space) → IsSoundSpace s → IsSoundSpace (if b then spaces.Nothing else s)
unless_inhibited true s h = tt
unless_inhibited false s h = h

-- ---- pieces

abbrev IsSoundLetter : Letter → Type 0
IsSoundLetter l = HasDimens l.size × IsDimen l.shift

abbrev IsSoundFont : Word → Type 0
IsSoundFont w = tfm_sound.HasFixWords w.metric × (w.z < 2 ^ 23)

abbrev IsSoundPiece : Dir → Piece → Type 0
IsSoundPiece dir (Kanji k) = IsSoundJapanese k
IsSoundPiece dir (Glyph w) = IsSoundFont w × IsSoundLetter w.letter
IsSoundPiece dir (Thing i) = IsSoundItem dir (tree_item i)
IsSoundPiece dir CutHere = Unit {0}
IsSoundPiece dir InhibitHere = Unit {0}

abbrev AreSoundPieces : Dir → List Piece → Type 0
AreSoundPieces dir [] = Unit {0}
AreSoundPieces dir (x ∷ past) = IsSoundPiece dir x × AreSoundPieces dir past

before_letter_sound : (dir : Dir) (p : List Piece) → AreSoundPieces dir p → AreSoundPieces dir (before_letter p)
before_letter_sound dir [] s = tt
before_letter_sound dir (InhibitHere ∷ past) s = before_letter_sound dir past s.1
before_letter_sound dir (Kanji k ∷ past) s = s.1
before_letter_sound dir (Glyph w ∷ past) s = s.1
before_letter_sound dir (Thing i ∷ past) s = s.1
before_letter_sound dir (CutHere ∷ past) s = s.1

word_before_sound : (dir : Dir) (p : List Piece) (w : Word) → AreSoundPieces dir p → IsSoundFont w → IsSoundFont (word_before p w)
word_before_sound dir [] w s h = h
word_before_sound dir (InhibitHere ∷ past) w s h = word_before_sound dir past w s.1 h
word_before_sound dir (Kanji k ∷ past) w s h = h
word_before_sound dir (Glyph v ∷ past) w s h = s.0.0
word_before_sound dir (Thing i ∷ past) w s h = h
word_before_sound dir (CutHere ∷ past) w s h = h

with_letter_sound : (dir : Dir) (o : Option Letter) (w : Word) (p : List Piece) → IfSome o IsSoundLetter → IsSoundPiece dir (Glyph w)
    → AreSoundPieces dir p → AreSoundPieces dir (with_letter o w p)
with_letter_sound dir (Some c) w p l h s = ((word_before_sound dir p w s h.0, l), before_letter_sound dir p s)
with_letter_sound dir None w p l h s = (h, s)

no_dimens : HasDimens no_measures
no_dimens = record {
  wd = (omega (arith, ints), omega (arith, ints));
  ht = (omega (arith, ints), omega (arith, ints));
  dp = (omega (arith, ints), omega (arith, ints));
}

unwrapped : (o : Option Measures) (z : ℕ) → z < 2 ^ 23 → IfSome o (AreWithin (16 * z)) → HasDimens (unwrap_or o no_measures)
unwrapped (Some m) z h w = dimens z m h w
unwrapped None z h w = no_dimens

abbrev IsSoundRun : Run → Type 0
IsSoundRun runs.Start = Unit {0}
IsSoundRun (runs.Japanese class after) = IsSoundSpace after
IsSoundRun (runs.European a) = Unit {0}

module _ (laws : Laws) where
  scaled_sound : (s : Words) (z : ℕ) → z < 2 ^ 23 → jfm_sound.is_fix_space s ≡ true → IsSoundSpace (scaled_space s z)
  scaled_sound unscaled.Nothing z h f = tt
  scaled_sound (unscaled.Glue width stretch shrink) z h f =
      let first = both (is_fix width) (is_fix stretch && is_fix shrink) f in
      let others = both (is_fix stretch) (is_fix shrink) first.1 in
      record {
        width = wide z (scale width z) h (laws.near width z first.0);
        stretch = dimen z (scale stretch z) h (laws.near stretch z others.0);
        shrink = dimen z (scale shrink z) h (laws.near shrink z others.1);
      }
  scaled_sound (unscaled.Kern width) z h f = dimen z (scale width z) h (laws.near width z f)

  kern_sound : (s : Step) (z : ℕ) → z < 2 ^ 23 → tfm_sound.is_fix_step s ≡ true → IsSoundSpace (scaled_kern s z)
  kern_sound steps.Nothing z h f = tt
  kern_sound (steps.Kern width) z h f = dimen z (scale width z) h (laws.near width z f)
  kern_sound (steps.Ligature code) z h f = tt

  size_sound : (m : tfm.Metric) (code z : ℕ) → tfm_sound.HasFixWords m → z < 2 ^ 23 → HasDimens (size_of m code z)
  size_sound m code z f h = unwrapped (tfm.measures_of m code z) z h (laws.letters m code z f)

  joint_by_sound : (m : tfm.Metric) (z : ℕ) (a b : Letter) (s : Step) → tfm_sound.HasFixWords m → z < 2 ^ 23 → IsDimen b.shift
      → IfSome (joint_by m z a b s) IsSoundLetter
  joint_by_sound m z a b (steps.Ligature code) f h shift = (size_sound m code z f h, shift)
  joint_by_sound m z a b steps.Nothing f h shift = tt
  joint_by_sound m z a b (steps.Kern width) f h shift = tt

  joint_sound : (m : tfm.Metric) (z : ℕ) (r : Run) (b : Letter) → tfm_sound.HasFixWords m → z < 2 ^ 23 → IsDimen b.shift
      → IfSome (joint m z r b) IsSoundLetter
  joint_sound m z (runs.European a) b f h shift = joint_by_sound m z a b (tfm.pair_of m a.code b.code) f h shift
  joint_sound m z runs.Start b f h shift = tt
  joint_sound m z (runs.Japanese class after) b f h shift = tt

  joined_sound : (dir : Dir) (e : List Entry) → AreSoundEntries dir e → AreSoundPieces dir (joined e)
  joined_sound dir [] s = tt
  joined_sound dir (Japanese k ∷ past) s = (s.0, joined_sound dir past s.1)
  joined_sound dir (European a ∷ past) s =
      with_letter_sound dir (joint a.metric a.z (run (joined past)) (letter_of a)) (word_of a) (joined past)
      (joint_sound a.metric a.z (run (joined past)) (letter_of a) s.0.words s.0.size s.0.shift)
      ((s.0.words, s.0.size), (size_sound a.metric a.code a.z s.0.words s.0.size, s.0.shift))
      (joined_sound dir past s.1)
  joined_sound dir (Other i ∷ past) s = (s.0, joined_sound dir past s.1)
  joined_sound dir (Cut ∷ past) s = (tt, joined_sound dir past s.1)
  joined_sound dir (Inhibit ∷ past) s = (tt, joined_sound dir past s.1)

  -- ---- what stands before a piece

  run_sound : (dir : Dir) (p : List Piece) → AreSoundPieces dir p → IsSoundRun (run p)
  run_sound dir [] s = tt
  run_sound dir (Kanji k ∷ past) s =
      scaled_sound (jfm.between_of k.metric (class_in k) 0) k.z s.0.size (laws.between k.metric (class_in k) 0 s.0.words)
  run_sound dir (Glyph w ∷ past) s = tt
  run_sound dir (Thing i ∷ past) s = tt
  run_sound dir (CutHere ∷ past) s = tt
  run_sound dir (InhibitHere ∷ past) s = run_sound dir past s.1

  letter_space_sound : (m : tfm.Metric) (z : ℕ) (r : Run) (b : Bool) (code : ℕ) → tfm_sound.HasFixWords m → z < 2 ^ 23 → IsSoundRun r
      → IsSoundSpace (letter_space m z r b code)
  letter_space_sound m z runs.Start b code f h r = tt
  letter_space_sound m z (runs.Japanese class after) b code f h r = unless_inhibited b after r
  letter_space_sound m z (runs.European a) b code f h r = kern_sound (tfm.pair_of m a.code code) z h (laws.pair m a.code code f)

  kanji_space_sound : (k : JapaneseCharacter) (r : Run) (b : Bool) → IsSoundJapanese k → IsSoundSpace (kanji_space k.metric k.z r b (class_in k))
  kanji_space_sound k r b h =
      let space = jfm.between_of k.metric (class_before r) (class_in k) in
      unless_inhibited b (scaled_space space k.z) (scaled_sound space k.z h.size (laws.between k.metric (class_before r) (class_in k) h.words))

  before_sound : (dir : Dir) (past : List Piece) (x : Piece) → AreSoundPieces dir past → IsSoundPiece dir x → AreSound dir (tree_items (before past x))
  before_sound dir past (Kanji k) s h =
      let penalty = gap_penalty (neighbour past) true k.kinsoku.pre in
      let space = space_before_kanji past k in
      (laws.joins dir (penalty_items penalty) (space_items space)).1
      (penalty_items_sound dir penalty, space_items_sound dir space (kanji_space_sound k (run past) (is_inhibited past) h))
  before_sound dir past (Glyph w) s h =
      let penalty = gap_penalty (neighbour past) false w.letter.kinsoku.pre in
      let space = space_before_word past w in
      (laws.joins dir (penalty_items penalty) (space_items space)).1
      (penalty_items_sound dir penalty, space_items_sound dir space (letter_space_sound w.metric w.z (run past) (is_inhibited past) w.letter.first h.0.0 h.0.1 (run_sound dir past s)))
  before_sound dir past (Thing i) s h = tt
  before_sound dir past CutHere s h = tt
  before_sound dir past InhibitHere s h = tt

  own_sound : (dir : Dir) (x : Piece) → IsSoundPiece dir x → AreSound dir (tree_items (own x))
  own_sound dir (Kanji k) h = (dimens k.z (jfm.measures_of k.metric (class_in k) k.z) h.size (laws.classes k.metric (class_in k) k.z h.words), tt)
  own_sound dir (Glyph w) h = (h.1, tt)
  own_sound dir (Thing i) h = (h, tt)
  own_sound dir CutHere h = tt
  own_sound dir InhibitHere h = tt

  spaced_sound : (dir : Dir) (p : List Piece) → AreSoundPieces dir p → AreSound dir (tree_items (spaced p))
  spaced_sound dir [] s = tt
  spaced_sound dir (x ∷ past) s =
      (laws.joins dir (spaced past ++ before past x) (own x)).1
      ((laws.joins dir (spaced past) (before past x)).1 (spaced_sound dir past s.1, before_sound dir past x s.1 s.0), own_sound dir x s.0)

  pub metric_list_sound : MetricListsAreSound
  metric_list_sound dir e s = spaced_sound dir (joined e) (joined_sound dir e s)
