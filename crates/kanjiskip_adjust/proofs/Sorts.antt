-- What joining keeps of entries.
use Rattle.std.proofs.Common.{◌≡◌, ℕ, List, [], ◌∷◌, refl}
use Rattle.tfm_load.specs.Metrics as tfm
use Rattle.tfm_load.specs.Metrics.{pair_of}
use Rattle.tfm_load.specs.declared.programs.Step.{Step}
use Rattle.tfm_load.specs.declared.programs.Step.TheVariants as steps
use Rattle.jlist_builder.specs.declared.character.Letter.{Letter}
use Rattle.jlist_builder.specs.declared.character.Run.{Run}
use Rattle.jlist_builder.specs.declared.character.Run.TheVariants as runs
use Rattle.jlist_builder.specs.Entries.{Entry, Japanese, European, Other, Cut, Inhibit, AreWords, IsOther, AreEntries}
use Rattle.jlist_builder.specs.Pieces.{Word, Piece, Kanji, Glyph, Thing, CutHere, InhibitHere, run, joint, joint_by, word_of, before_letter, with_letter, joined}

-- what pieces may be
abbrev pub IsPiece : Piece → Type 0
IsPiece (Kanji k) = AreWords k.kinsoku
IsPiece (Glyph w) = AreWords w.letter.kinsoku
IsPiece (Thing i) = IsOther i
IsPiece CutHere = Unit {0}
IsPiece InhibitHere = Unit {0}

abbrev pub ArePieces : List Piece → Type 0
ArePieces [] = Unit {0}
ArePieces (x ∷ past) = IsPiece x × ArePieces past

words_at_run : (p : List Piece) (a : Letter) → ArePieces p → run p ≡ runs.European a → AreWords a.kinsoku
words_at_run [] a s h = cc
words_at_run (Kanji k ∷ p) a s h = cc
words_at_run (Glyph w ∷ p) a s h = let same : w.letter ≡ a = cc in rw (← same) s.0
words_at_run (Thing i ∷ p) a s h = cc
words_at_run (CutHere ∷ p) a s h = cc
words_at_run (InhibitHere ∷ p) a s h = words_at_run p a s.1 h

before_pieces : (p : List Piece) → ArePieces p → ArePieces (before_letter p)
before_pieces [] s = tt
before_pieces (Kanji k ∷ p) s = s.1
before_pieces (Glyph w ∷ p) s = s.1
before_pieces (Thing i ∷ p) s = s.1
before_pieces (CutHere ∷ p) s = s.1
before_pieces (InhibitHere ∷ p) s = before_pieces p s.1

joined_by : (m : tfm.Metric) (z : ℕ) (a : Letter) (w : Word) (p : List Piece) (q : Step)
    → AreWords a.kinsoku → AreWords w.letter.kinsoku → ArePieces p → ArePieces (with_letter (joint_by m z a w.letter q) w p)
joined_by m z a w p steps.Nothing left right s = (right, s)
joined_by m z a w p (steps.Kern k) left right s = (right, s)
joined_by m z a w p (steps.Ligature code) left right s = ((left.0, right.1), before_pieces p s)

joined_at : (m : tfm.Metric) (z : ℕ) (r : Run) (w : Word) (p : List Piece)
    → run p ≡ r → AreWords w.letter.kinsoku → ArePieces p → ArePieces (with_letter (joint m z r w.letter) w p)
joined_at m z runs.Start w p is right s = (right, s)
joined_at m z (runs.Japanese class after) w p is right s = (right, s)
joined_at m z (runs.European a) w p is right s =
    joined_by m z a w p (pair_of m a.code w.letter.code) (words_at_run p a s is) right s

pub joined_pieces : (e : List Entry) → AreEntries e → ArePieces (joined e)
joined_pieces [] s = tt
joined_pieces (Japanese k ∷ past) s = (s.0, joined_pieces past s.1)
joined_pieces (European a ∷ past) s =
    joined_at a.metric a.z (run (joined past)) (word_of a) (joined past) refl s.0 (joined_pieces past s.1)
joined_pieces (Other i ∷ past) s = (s.0, joined_pieces past s.1)
joined_pieces (Cut ∷ past) s = (tt, joined_pieces past s.1)
joined_pieces (Inhibit ∷ past) s = (tt, joined_pieces past s.1)
