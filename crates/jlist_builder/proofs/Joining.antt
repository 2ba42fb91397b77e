-- What a builder stands for after a European character.
use Rattle.std.proofs.Common.{◌≡◌, ℕ, ◌+◌, ◌≤◌, List, [], ◌∷◌, ◌++◌, length, nat_lt, Bool, true, false, Option, Some, None, ap, sym, ◌∙◌, refl, append_assoc, length-append, arith, ◌&&◌, if◌then◌else◌}
use Rattle.std.specs.Prelude.{unwrap_or}
use Rattle.std.proofs.lemmas.List.{append_cancel_right, append-nil}
use Rattle.std.proofs.lemmas.Int.{to_z-of_z}
use Rattle.std.proofs.lemmas.Grind.{common_steps}
use Rattle.box_tree.specs.declared.item.Item.{Item}
use Rattle.node_links.specs.Lists.{most_items}
use Rattle.tfm_load.specs.Metrics as tfm
use Rattle.tfm_load.specs.Metrics.{pair_of, measures_of, has_character, character_of}
use Rattle.metric_words.specs.Characters.{measures_at}
use Rattle.ts_geometry.specs.declared.measure.Measures.{Measures}
use Rattle.ts_geometry.specs.declared.measure.Sp.{Sp}
use Rattle.box_tree.specs.declared.item.FontNo.{FontNo}
use Rattle.jlist_builder.specs.declared.character.Kinsoku.{Kinsoku}
use Rattle.tfm_load.specs.declared.programs.Step.{Step}
use Rattle.tfm_load.specs.declared.programs.Step.TheVariants as steps
use Rattle.jlist_builder.specs.declared.builder.HBuilder.{HBuilder}
use Rattle.jlist_builder.specs.declared.character.Letter.{Letter}
use Rattle.jlist_builder.specs.declared.character.Arrival.TheVariants as arrivals
use Rattle.jlist_builder.specs.declared.character.Run.{Run}
use Rattle.jlist_builder.specs.declared.character.Run.TheVariants as runs
use Rattle.jlist_builder.specs.Entries.{EuropeanCharacter, Entry, European, AreWords, european}
use Rattle.jlist_builder.specs.Pieces.{Word, Piece, Kanji, Glyph, Thing, CutHere, InhibitHere, IsLetterOf, letter_of, word_of, size_of, no_measures, joint, joint_by, ligature, before_letter, word_before, joined, run}
use Rattle.jlist_builder.specs.declared.space.Space.{Space}
use Rattle.jlist_builder.specs.Spaces.{space_items}
use Rattle.jlist_builder.specs.Gaps.{gap_penalty, penalty_items, letter_space, letter_items, last_letter, metric_list, before, spaced, glyph, right_of, arrival_by}
use Rattle.jlist_builder.specs.Stands.{StandsFor, is_full}
use Rattle.jlist_builder.proofs.Arrivals.{fits, length_gap}

fits_false : (n : ℕ) → n ≤ most_items → nat_lt most_items n ≡ false
fits_false n h = grind (arith, common_steps)

-- ---- a letter that joins nothing

module _ (b : HBuilder) (m : tfm.Metric) (z : ℕ) (l : Letter) where
  abbrev pub penalty_before : List Item
  penalty_before = penalty_items (gap_penalty b.neighbour false l.kinsoku.pre)

  abbrev pub space_before : List Item
  space_before = space_items (letter_space m z b.run b.is_inhibited l.code)

module _ (b : HBuilder) (a : EuropeanCharacter) (e : List Entry) (s : StandsFor b e) (alone : joint a.metric a.z b.run (letter_of a) ≡ None) where
  single : joined (European a ∷ e) ≡ Glyph (word_of a) ∷ joined e
  single = rw (← s.run, alone) refl

  letter_list :
      (((b.list.items ++ letter_items b.held) ++ penalty_before b a.metric a.z (letter_of a)) ++ space_before b a.metric a.z (letter_of a)) ++ glyph (letter_of a)
      ≡ metric_list (European a ∷ e)
  letter_list = rw (single, s.list, s.neighbour, s.run, s.inhibited) (simp append_assoc)

  full_alone :
      nat_lt most_items (length (b.list.items ++ letter_items b.held)
      + (length (penalty_before b a.metric a.z (letter_of a) ++ space_before b a.metric a.z (letter_of a)) + 1))
      ≡ is_full (European a ∷ e)
  full_alone =
      ap (nat_lt most_items)
      (sym (length_gap (b.list.items ++ letter_items b.held) (penalty_before b a.metric a.z (letter_of a)) (space_before b a.metric a.z (letter_of a)) (glyph (letter_of a)))
      ∙ ap length letter_list)

  stands_alone :
      (b' : HBuilder)
      → b'.list.items ≡ ((b.list.items ++ letter_items b.held) ++ penalty_before b a.metric a.z (letter_of a)) ++ space_before b a.metric a.z (letter_of a)
      → b'.held ≡ Some (letter_of a) → b'.neighbour ≡ Some (right_of (letter_of a))
      → b'.run ≡ runs.European (letter_of a) → b'.is_inhibited ≡ false
      → nat_lt most_items (length (b.list.items ++ letter_items b.held)
      + (length (penalty_before b a.metric a.z (letter_of a) ++ space_before b a.metric a.z (letter_of a)) + 1)) ≡ false
      → AreWords a.kinsoku
      → StandsFor b' (European a ∷ e)
  stands_alone b' list held near runs inhibited room words =
      record {
        list = rw (list, held) letter_list;
        neighbour = rw (single, near) refl;
        run = rw (single, runs) refl;
        inhibited = rw (single, inhibited) refl;
        held = rw (single, held) refl;
        few = fits (length (metric_list (European a ∷ e))) (sym full_alone ∙ room);
        entries = (words, s.entries);
      }

-- ---- a letter that joins what stands before it

-- A letter that ends the run is the last letter.
last_of_run : (p : List Piece) (a : Letter) → run p ≡ runs.European a → last_letter p ≡ Some a
last_of_run [] a h = cc
last_of_run (Kanji k ∷ p) a h = cc
last_of_run (Glyph w ∷ p) a h = cc
last_of_run (Thing i ∷ p) a h = cc
last_of_run (CutHere ∷ p) a h = cc
last_of_run (InhibitHere ∷ p) a h = last_of_run p a h

-- the pieces up to a letter that ends the run
spaced_to_letter :
    (p : List Piece) (a : Letter) (w : Word) → run p ≡ runs.European a
    → spaced p ≡ (spaced (before_letter p) ++ before (before_letter p) (Glyph (record (word_before p w) { letter = a }))) ++ glyph a
spaced_to_letter [] a w h = cc
spaced_to_letter (Kanji k ∷ p) a w h = cc
spaced_to_letter (Glyph v ∷ p) a w h = let same : v.letter ≡ a = cc in rw (← same) refl
spaced_to_letter (Thing i ∷ p) a w h = cc
spaced_to_letter (CutHere ∷ p) a w h = cc
spaced_to_letter (InhibitHere ∷ p) a w h = simp append-nil (spaced_to_letter p a w h)

-- A ligature takes the place of the letter that ends the run.
joins_at :
    (m : tfm.Metric) (z : ℕ) (p : List Piece) (r : Run) (a c : Letter) (w : Word) → run p ≡ r → joint m z r a ≡ Some c
    → (l : Letter) × ((last_letter p ≡ Some l)
    × (spaced p ≡ (spaced (before_letter p) ++ before (before_letter p) (Glyph (record (word_before p w) { letter = c }))) ++ glyph l))
joins_at m z p runs.Start a c w h j = cc
joins_at m z p (runs.Japanese k after) a c w h j = cc
joins_at m z p (runs.European l) a c w h j = (l, (last_of_run p l h, kept (pair_of m l.code a.code) j))
  where
    kept : (q : Step) → joint_by m z l a q ≡ Some c
        → spaced p ≡ (spaced (before_letter p) ++ before (before_letter p) (Glyph (record (word_before p w) { letter = c }))) ++ glyph l
    kept steps.Nothing j = cc
    kept (steps.Kern k) j = cc
    kept (steps.Ligature code) j =
        let same : ligature l code (size_of m code z) a ≡ c = cc in rw (← same) (spaced_to_letter p l w h)

-- A list with one letter in place of another has the same length.
joined_count :
    (b b' : HBuilder) (a : EuropeanCharacter) (c l : Letter) (e : List Entry) → StandsFor b e → b'.list.items ≡ b.list.items
    → b'.held ≡ Some c → b.held ≡ Some l → b'.list.items ++ letter_items b'.held ≡ metric_list (European a ∷ e)
    → length (metric_list (European a ∷ e)) ≡ length (metric_list e)
joined_count b b' a c l e s list held was now =
    let new : length (b.list.items ++ glyph c) ≡ length (metric_list (European a ∷ e)) = rw (list, held) at (ap length now) in
    let old : length (b.list.items ++ glyph l) ≡ length (metric_list e) = rw was at (ap length s.list) in
    let counted : length (b.list.items ++ glyph c) ≡ length (b.list.items ++ glyph l) = simp length-append in
    sym new ∙ (counted ∙ old)

letter_joins :
    (b b' : HBuilder) (a : EuropeanCharacter) (c : Letter) (e : List Entry) → StandsFor b e → joint a.metric a.z b.run (letter_of a) ≡ Some c
    → b'.list.items ≡ b.list.items
    → b'.held ≡ Some c → b'.neighbour ≡ Some (right_of c)
    → b'.run ≡ runs.European c → b'.is_inhibited ≡ false → AreWords a.kinsoku → StandsFor b' (European a ∷ e)
letter_joins b b' a c e s joins list held near runs inhibited words =
    let word : Word = record (word_before (joined e) (word_of a)) { letter = c } in
    let taken : joined (European a ∷ e) ≡ Glyph word ∷ before_letter (joined e) = rw (← s.run, joins) refl in
    let at = joins_at a.metric a.z (joined e) b.run (letter_of a) c (word_of a) (sym s.run) joins in
    let was : b.held ≡ Some at.0 = s.held ∙ at.1.0 in
    let whole : b.list.items ++ glyph at.0 ≡ (spaced (before_letter (joined e)) ++ before (before_letter (joined e)) (Glyph word)) ++ glyph at.0
    = (rw was at s.list) ∙ at.1.1 in
    let front = append_cancel_right b.list.items (spaced (before_letter (joined e)) ++ before (before_letter (joined e)) (Glyph word)) (glyph at.0) whole in
    let now : b'.list.items ++ letter_items b'.held ≡ metric_list (European a ∷ e) = rw (taken, list, held, front) refl in
    let count = joined_count b b' a c at.0 e s list held was now in
    let few = s.few in
    record {
      list = now;
      few = rw count few;
      neighbour = rw (taken, near) refl;
      run = rw (taken, runs) refl;
      inhibited = rw (taken, inhibited) refl;
      held = rw (taken, held) refl;
      entries = (words, s.entries);
    }

-- ---- for a letter of any character

module _ (b b' : HBuilder) (m : tfm.Metric) (z : ℕ) (l : Letter) (a : EuropeanCharacter) (of : IsLetterOf m z l a) (e : List Entry) (s : StandsFor b e) where
  pub letter_stands :
      joint m z b.run l ≡ None
      → b'.list.items ≡ ((b.list.items ++ letter_items b.held) ++ penalty_before b m z l) ++ space_before b m z l
      → b'.held ≡ Some l → b'.neighbour ≡ Some (right_of l)
      → b'.run ≡ runs.European l → b'.is_inhibited ≡ false
      → nat_lt most_items (length (b.list.items ++ letter_items b.held) + (length (penalty_before b m z l ++ space_before b m z l) + 1)) ≡ false
      → AreWords l.kinsoku
      → StandsFor b' (European a ∷ e)
  letter_stands = rw (of.same, ← of.metric, ← of.size) (λ alone. stands_alone b a e s alone b')

  pub letter_full :
      joint m z b.run l ≡ None
      → nat_lt most_items (length (b.list.items ++ letter_items b.held) + (length (penalty_before b m z l ++ space_before b m z l) + 1))
      ≡ is_full (European a ∷ e)
  letter_full = rw (of.same, ← of.metric, ← of.size) (λ alone. full_alone b a e s alone)

  pub letter_holds :
      (c : Letter) → joint m z b.run l ≡ Some c
      → b' ≡ record b { held = Some c; neighbour = Some (right_of c); run = runs.European c; is_inhibited = false }
      → AreWords l.kinsoku
      → StandsFor b' (European a ∷ e)
  letter_holds = rw (of.same, ← of.metric, ← of.size) (λ c joins is words.
      rw is (letter_joins b (record b { held = Some c; neighbour = Some (right_of c); run = runs.European c; is_inhibited = false }) a c e s joins refl refl refl refl refl words))

  -- A letter that joins makes no list too long.
  pub joins_full : (c : Letter) → joint m z b.run l ≡ Some c
      → b' ≡ record b { held = Some c; neighbour = Some (right_of c); run = runs.European c; is_inhibited = false }
      → AreWords l.kinsoku → false ≡ is_full (European a ∷ e)
  joins_full c joins is words = sym (fits_false (length (metric_list (European a ∷ e))) (letter_holds c joins is words).few)

-- ---- how a letter goes on

pub joined_is : (o : Option Letter) (s : Space) (c : Letter) → arrivals.Joined c ≡ arrival_by o s → o ≡ Some c
joined_is (Some d) s c is = cc
joined_is None s c is = cc

pub beside_is : (o : Option Letter) (s x : Space) → arrivals.Beside x ≡ arrival_by o s → (o ≡ None) × (x ≡ s)
beside_is (Some d) s x is = cc
beside_is None s x is = (refl, cc)

-- ---- a character of the font

there : {X : Type 0} (b : Bool) (x y : X) → (if b then Some x else None) ≡ Some y → b ≡ true
there true x y is = refl
there false x y is = cc

pub has_measures : (m : tfm.Metric) (code z : ℕ) (size : Measures) → measures_of m code z ≡ Some size → has_character m code ≡ true
has_measures m code z size is = there (has_character m code) (measures_at (character_of m code) z) size is

pub and_full : (has full x : Bool) → has ≡ true → x ≡ full → x ≡ (has && full)
and_full has full x there same = rw there same

-- A character with the measures that its font has is its letter.
pub letter_of_font :
    (m : tfm.Metric) (font : FontNo) (z code : ℕ) (shift : Sp) (kinsoku : Kinsoku) (size : Measures) → measures_of m code z ≡ Some size
    → IsLetterOf m z (record { font = font; code = code; size = size; shift = shift; first = code; last = code; kinsoku = kinsoku }) (european m font z code shift kinsoku)
letter_of_font m font z code shift kinsoku size is =
    let same : size_of m code z ≡ size = ap (λ (o : Option Measures). unwrap_or o no_measures) is in
    record {
      metric = refl;
      size = refl;
      same = ap (λ (s : Measures). record { font = font; code = code; size = s; shift = shift; first = code; last = code; kinsoku = kinsoku }) (sym same);
    }

-- what a European character needs
pub ruleset letters = (letter_stands, letter_full, to_z-of_z, common_steps)
