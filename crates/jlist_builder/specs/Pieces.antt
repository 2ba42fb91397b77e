-- The entries with their European characters joined to ligatures (TeX: The Program, sections 1034
-- to 1040). A list of pieces, too, has the newest first.
use Rattle.std.specs.Prelude.{◌≡◌, ℕ, pos, List, [], ◌∷◌, Option, Some, None, unwrap_or}
use Rattle.ts_geometry.specs.declared.measure.Measures.{Measures}
use Rattle.ts_geometry.specs.Directions.{sp}
use Rattle.box_tree.specs.declared.item.Item.{Item}
use Rattle.tfm_load.specs.Metrics as tfm
use Rattle.tfm_load.specs.Metrics.{measures_of, pair_of}
use Rattle.tfm_load.specs.declared.programs.Step.{Step}
use Rattle.tfm_load.specs.declared.programs.Step.TheVariants as steps
use Rattle.jfm_load.specs.Metrics.{class_of, between_of}
use Rattle.jlist_builder.specs.declared.character.Letter.{Letter}
use Rattle.jlist_builder.specs.declared.character.Run.{Run}
use Rattle.jlist_builder.specs.declared.character.Run.TheVariants as runs
use Rattle.jlist_builder.specs.Entries.{JapaneseCharacter, EuropeanCharacter, Entry, Japanese, European, Other, Cut, Inhibit}
use Rattle.jlist_builder.specs.Spaces.{scaled_space}

-- a European character or a ligature, with the metric and the size of the first letter of its
-- source
pub record Word : Type 0 where
  pub metric : tfm.Metric
  pub z : ℕ
  pub letter : Letter

pub data Piece : Type 0 where
  Kanji : JapaneseCharacter → Piece
  Glyph : Word → Piece
  Thing : Item → Piece
  CutHere : Piece
  InhibitHere : Piece

abbrev pub no_measures : Measures
no_measures = record { wd = sp (pos 0); ht = sp (pos 0); dp = sp (pos 0) }

-- the measures of a character of a font, and 0 where the font lacks it
abbrev pub size_of : tfm.Metric → ℕ → ℕ → Measures
size_of m code z = unwrap_or (measures_of m code z) no_measures

-- a character as it comes
abbrev pub letter_of : EuropeanCharacter → Letter
letter_of a = record {
  font = a.font;
  code = a.code;
  size = size_of a.metric a.code a.z;
  shift = a.shift;
  first = a.code;
  last = a.code;
  kinsoku = a.kinsoku;
}

abbrev pub word_of : EuropeanCharacter → Word
word_of a = record { metric = a.metric; z = a.z; letter = letter_of a }

-- The letter of a character, whose font has this metric at this size.
pub record IsLetterOf (m : tfm.Metric) (z : ℕ) (letter : Letter) (a : EuropeanCharacter) : Type 0 where
  pub metric : a.metric ≡ m
  pub size : a.z ≡ z
  pub same : letter ≡ letter_of a

abbrev pub class_in : JapaneseCharacter → ℕ
class_in k = class_of k.metric k.cell

-- the run after a Japanese character
abbrev pub run_after : JapaneseCharacter → Run
run_after k = runs.Japanese (class_in k) (scaled_space (between_of k.metric (class_in k) 0) k.z)

-- What stands directly before in the run, over inhibits: with a Japanese character the space that
-- its font has before others.
abbrev pub run : List Piece → Run
run [] = runs.Start
run (Kanji k ∷ past) = run_after k
run (Glyph w ∷ past) = runs.European w.letter
run (Thing i ∷ past) = runs.Start
run (CutHere ∷ past) = runs.Start
run (InhibitHere ∷ past) = run past

-- A ligature has the first source letter and the penalty before it of its left part, and all else
-- of its right part.
abbrev pub ligature : Letter → ℕ → Measures → Letter → Letter
ligature a code size b = record b {
  code = code;
  size = size;
  first = a.first;
  kinsoku = record { pre = a.kinsoku.pre; post = b.kinsoku.post };
}

abbrev pub joint_by : tfm.Metric → ℕ → Letter → Letter → Step → Option Letter
joint_by m z a b (steps.Ligature code) = Some (ligature a code (size_of m code z) b)
joint_by m z a b steps.Nothing = None
joint_by m z a b (steps.Kern width) = None

-- the ligature that a letter makes with what stands before it in the run
abbrev pub joint : tfm.Metric → ℕ → Run → Letter → Option Letter
joint m z (runs.European a) b = joint_by m z a b (pair_of m a.code b.code)
joint m z runs.Start b = None
joint m z (runs.Japanese class after) b = None

-- what came before the letter that ends the run
abbrev pub before_letter : List Piece → List Piece
before_letter [] = []
before_letter (InhibitHere ∷ past) = before_letter past
before_letter (x ∷ past) = past

-- the word that ends the run, as which the next letter's ligature goes on
abbrev pub word_before : List Piece → Word → Word
word_before [] w = w
word_before (InhibitHere ∷ past) w = word_before past w
word_before (Glyph v ∷ past) w = v
word_before (Kanji k ∷ past) w = w
word_before (Thing i ∷ past) w = w
word_before (CutHere ∷ past) w = w

-- the pieces after a letter, which makes that ligature, if any
abbrev pub with_letter : Option Letter → Word → List Piece → List Piece
with_letter (Some c) w past = Glyph (record (word_before past w) { letter = c }) ∷ before_letter past
with_letter None w past = Glyph w ∷ past

-- the entries with their letters joined, from the oldest on
abbrev pub joined : List Entry → List Piece
joined [] = []
joined (Japanese k ∷ past) = Kanji k ∷ joined past
joined (European a ∷ past) =
    with_letter (joint a.metric a.z (run (joined past)) (letter_of a)) (word_of a) (joined past)
joined (Other i ∷ past) = Thing i ∷ joined past
joined (Cut ∷ past) = CutHere ∷ joined past
joined (Inhibit ∷ past) = InhibitHere ∷ joined past
