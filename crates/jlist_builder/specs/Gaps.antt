-- The metric list: the characters and other items of the entries, and directly before each
-- character its gap penalty and its metric space or kern.
use Rattle.std.specs.Prelude.{ℕ, Bool, true, false, if◌then◌else◌, ◌||◌, List, [], ◌∷◌, ◌++◌, Option, Some, None, ℤ, pos, ◌+ℤ◌}
use Rattle.std.specs.Ordering.{int_eq}
use Rattle.box_tree.specs.declared.item.Item.{Item}
use Rattle.box_tree.specs.declared.item.Item.TheVariants as items
use Rattle.tfm_load.specs.Metrics as tfm
use Rattle.tfm_load.specs.Metrics.{pair_of}
use Rattle.jfm_load.specs.Metrics as jfm
use Rattle.jfm_load.specs.Metrics.{between_of, measures_of}
use Rattle.jlist_builder.specs.declared.character.Letter.{Letter}
use Rattle.jlist_builder.specs.declared.character.Side.{Side}
use Rattle.jlist_builder.specs.declared.character.Run.{Run}
use Rattle.jlist_builder.specs.declared.character.Run.TheVariants as runs
use Rattle.jlist_builder.specs.declared.character.Arrival.{Arrival}
use Rattle.jlist_builder.specs.declared.character.Arrival.TheVariants as arrivals
use Rattle.jlist_builder.specs.declared.space.Space.{Space}
use Rattle.jlist_builder.specs.declared.space.Space.TheVariants as spaces
use Rattle.jlist_builder.specs.Entries.{JapaneseCharacter, Entry}
use Rattle.jlist_builder.specs.Pieces.{Word, Piece, Kanji, Glyph, Thing, CutHere, InhibitHere, class_in, run, joint, joined}
use Rattle.jlist_builder.specs.Spaces.{scaled_space, scaled_kern, space_items}

-- ---- neighbours and their penalty

abbrev pub right_of : Letter → Side
right_of a = record { is_japanese = false; post = a.kinsoku.post }

abbrev pub right_of_kanji : JapaneseCharacter → Side
right_of_kanji k = record { is_japanese = true; post = k.kinsoku.post }

-- Penalties leave characters neighbours, and no other item does.
abbrev pub over : {A : Type 0} → Item → Option A → Option A
over (items.Penalty value auto) left = left
over (items.Glyph font code size shift first last) left = None
over (items.Kanji font cell size kind) left = None
over (items.Box tree shift) left = None
over (items.Crossed tree shift seen) left = None
over (items.Rule wd ht dp) left = None
over (items.Glue glue from) left = None
over (items.Kern width from) left = None

-- the character on the left, over cuts, inhibits and penalties
abbrev pub neighbour : List Piece → Option Side
neighbour [] = None
neighbour (Kanji k ∷ past) = Some (right_of_kanji k)
neighbour (Glyph w ∷ past) = Some (right_of w.letter)
neighbour (Thing i ∷ past) = over i (neighbour past)
neighbour (CutHere ∷ past) = neighbour past
neighbour (InhibitHere ∷ past) = neighbour past

abbrev pub unless_zero : ℤ → Option ℤ
unless_zero z = if int_eq z (pos 0) then None else Some z

-- The penalty before a character: where it or its neighbour is Japanese, that after the neighbour
-- and that before it together, unless this is 0.
abbrev pub gap_penalty : Option Side → Bool → ℤ → Option ℤ
gap_penalty None is_japanese pre = None
gap_penalty (Some a) is_japanese pre =
    if a.is_japanese || is_japanese then unless_zero (a.post +ℤ pre) else None

abbrev pub penalty_items : Option ℤ → List Item
penalty_items None = []
penalty_items (Some value) = items.Penalty value true ∷ []

-- ---- metric spaces

-- Does an inhibit stand directly before?
abbrev pub is_inhibited : List Piece → Bool
is_inhibited [] = false
is_inhibited (InhibitHere ∷ past) = true
is_inhibited (Kanji k ∷ past) = false
is_inhibited (Glyph w ∷ past) = false
is_inhibited (Thing i ∷ past) = false
is_inhibited (CutHere ∷ past) = false

-- the class of a Japanese character before in the run, and 0 where none is
abbrev pub class_before : Run → ℕ
class_before (runs.Japanese class after) = class
class_before runs.Start = 0
class_before (runs.European a) = 0

-- the metric space before a Japanese character
abbrev pub kanji_space : jfm.Metric → ℕ → Run → Bool → ℕ → Space
kanji_space m z before inhibited class =
    if inhibited then spaces.Nothing else scaled_space (between_of m (class_before before) class) z

-- the metric space or kern before a European character
abbrev pub letter_space : tfm.Metric → ℕ → Run → Bool → ℕ → Space
letter_space m z runs.Start inhibited code = spaces.Nothing
letter_space m z (runs.Japanese class after) inhibited code =
    if inhibited then spaces.Nothing else after
letter_space m z (runs.European a) inhibited code = scaled_kern (pair_of m a.code code) z

abbrev pub space_before_kanji : List Piece → JapaneseCharacter → Space
space_before_kanji past k = kanji_space k.metric k.z (run past) (is_inhibited past) (class_in k)

abbrev pub space_before_word : List Piece → Word → Space
space_before_word past w = letter_space w.metric w.z (run past) (is_inhibited past) w.letter.first

-- ---- the list

abbrev pub glyph : Letter → List Item
glyph a = items.Glyph a.font a.code a.size a.shift a.first a.last ∷ []

abbrev pub kanji_item : JapaneseCharacter → Item
kanji_item k = items.Kanji k.font k.cell (measures_of k.metric (class_in k) k.z) k.kind

-- what stands directly before a piece
abbrev pub before : List Piece → Piece → List Item
before past (Kanji k) =
    penalty_items (gap_penalty (neighbour past) true k.kinsoku.pre)
    ++ space_items (space_before_kanji past k)
before past (Glyph w) =
    penalty_items (gap_penalty (neighbour past) false w.letter.kinsoku.pre)
    ++ space_items (space_before_word past w)
before past (Thing i) = []
before past CutHere = []
before past InhibitHere = []

-- the piece itself
abbrev pub own : Piece → List Item
own (Kanji k) = kanji_item k ∷ []
own (Glyph w) = glyph w.letter
own (Thing i) = i ∷ []
own CutHere = []
own InhibitHere = []

-- each piece with what stands before it
abbrev pub spaced : List Piece → List Item
spaced [] = []
spaced (x ∷ past) = spaced past ++ before past x ++ own x

abbrev pub metric_list : List Entry → List Item
metric_list e = spaced (joined e)

-- ---- what may be held back

-- a last European character, after which only cuts and inhibits stand
abbrev pub last_letter : List Piece → Option Letter
last_letter [] = None
last_letter (Kanji k ∷ past) = None
last_letter (Glyph w ∷ past) = Some w.letter
last_letter (Thing i ∷ past) = None
last_letter (CutHere ∷ past) = last_letter past
last_letter (InhibitHere ∷ past) = last_letter past

abbrev pub letter_items : Option Letter → List Item
letter_items None = []
letter_items (Some a) = glyph a

-- ---- words of the code

abbrev pub arrival_by : Option Letter → Space → Arrival
arrival_by (Some c) space = arrivals.Joined c
arrival_by None space = arrivals.Beside space

-- how a letter goes on: as a ligature, or after a space
abbrev pub arrival : tfm.Metric → ℕ → Run → Bool → Letter → Arrival
arrival m z before inhibited a =
    arrival_by (joint m z before a) (letter_space m z before inhibited a.code)
