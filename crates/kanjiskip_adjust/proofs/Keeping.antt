-- The walk keeps its marks.
use Prim.Native.Nat.{zero, suc}
use Rattle.std.proofs.Common.{◌≡◌, ℕ, ◌+◌, ◌-◌, ◌≤◌, ◌<◌, List, [], ◌∷◌, length, slice_get, Bool, true, false, if◌then◌else◌, Option, Some, None, ◌∙◌, refl, arith}
use Rattle.std.specs.Prelude.{IfSome}
use Rattle.std.specs.List.{insert}
use Rattle.node_links.specs.declared.node.NodeNo.{NodeNo}
use Rattle.kanjiskip_adjust.specs.Walks.{walk_after}
use Rattle.kanjiskip_adjust.specs.Nodes.{marks_after, AreKept}
use Rattle.kanjiskip_adjust.specs.declared.look.Look.{Look}
use Rattle.kanjiskip_adjust.specs.declared.look.Look.TheVariants as looks
use Rattle.kanjiskip_adjust.specs.declared.nodes.Marks.{Marks}
use Rattle.kanjiskip_adjust.specs.declared.walk.Walk.{Walk}

-- ---- numbers around a new one

pub before_inserted : {X : Type 0} (xs : List X) (k n : ℕ) (x : X) → n < k → k ≤ length xs → slice_get (insert xs k x) n ≡ slice_get xs n
before_inserted xs zero n x low within = absurd (omega arith)
before_inserted [] (suc k) n x low within = absurd (omega arith)
before_inserted (y ∷ ys) (suc k) zero x low within = refl
before_inserted (y ∷ ys) (suc k) (suc n) x low within = before_inserted ys k n x (omega arith) (omega arith)

pub at_inserted : {X : Type 0} (xs : List X) (k : ℕ) (x : X) → k ≤ length xs → slice_get (insert xs k x) k ≡ Some x
at_inserted [] zero x within = refl
at_inserted [] (suc k) x within = absurd (omega arith)
at_inserted (y ∷ ys) zero x within = refl
at_inserted (y ∷ ys) (suc k) x within = at_inserted ys k x (omega arith)

after_inserted : {X : Type 0} (xs : List X) (k n : ℕ) (x : X) → k ≤ n → k ≤ length xs → slice_get (insert xs k x) (suc n) ≡ slice_get xs n
after_inserted [] zero n x low within = refl
after_inserted [] (suc k) n x low within = absurd (omega arith)
after_inserted (y ∷ ys) zero n x low within = refl
after_inserted (y ∷ ys) (suc k) zero x low within = absurd (omega arith)
after_inserted (y ∷ ys) (suc k) (suc n) x low within = after_inserted ys k n x (omega arith) (omega arith)

pub next_inserted : {X : Type 0} (xs : List X) (k n m : ℕ) (x : X) → k ≤ n → k ≤ length xs → m ≡ n + 1 → slice_get (insert xs k x) m ≡ slice_get xs n
next_inserted xs k n m x low within is =
    let one : m ≡ suc n = omega arith in rw one (after_inserted xs k n x low within)

pub length-inserted : {X : Type 0} (xs : List X) (k : ℕ) (x : X) → k ≤ length xs → length (insert xs k x) ≡ length xs + 1
length-inserted [] zero x within = refl
length-inserted [] (suc k) x within = absurd (omega arith)
length-inserted (y ∷ ys) zero x within = omega arith
length-inserted (y ∷ ys) (suc k) x within = let more = length-inserted ys k x (omega arith) in omega arith

-- ---- an item that the walk goes past

abbrev IsMarked : List NodeNo → Option ℕ → NodeNo → ℕ → Type 0
IsMarked numbers o mark place = IfSome o (λ n. (1 ≤ n) × ((n < place) × (slice_get numbers (n - 1) ≡ Some mark)))

marked_more : (numbers : List NodeNo) (o : Option ℕ) (mark : NodeNo) (place : ℕ) → IsMarked numbers o mark place → IsMarked numbers o mark (place + 1)
marked_more numbers None mark place is = tt
marked_more numbers (Some n) mark place is = (is.0, (omega (arith, is.1.0), is.1.1))

marked_gap : (numbers : List NodeNo) (text j : Bool) (g : ℕ) (o : Option ℕ) (gap mark : NodeNo) (place : ℕ)
    → (j ≡ true → 1 ≤ g) → (1 ≤ g → slice_get numbers (g - 1) ≡ Some gap) → g ≤ place → IsMarked numbers o mark place
    → IsMarked numbers (if text then (if j then Some g else None) else o) (if text then gap else mark) (place + 1)
marked_gap numbers true true g o gap mark place after at within is = (after refl, (omega (arith, within), at (after refl)))
marked_gap numbers true false g o gap mark place after at within is = tt
marked_gap numbers false j g o gap mark place after at within is = marked_more numbers o mark place is

last_of : (numbers : List NodeNo) (place : ℕ) (n : NodeNo) → slice_get numbers place ≡ Some n → slice_get numbers (place + 1 - 1) ≡ Some n
last_of numbers place n here = let same : place + 1 - 1 ≡ place = omega arith in rw same here

module _ (numbers : List NodeNo) (w : Walk) (m : Marks) (place : ℕ) (k : AreKept numbers w m place) (n : NodeNo) (here : slice_get numbers place ≡ Some n) where
  pub kept_after : (look : Look) → AreKept numbers (walk_after w look (place + 1)) (marks_after m look n) (place + 1)
  kept_after (looks.Letter first last) = record {
    before = λ _. last_of numbers place n here;
    gap = λ _. last_of numbers place n here;
    within = omega arith;
    after = λ h. cc;
    widow = tt;
    left = λ h. absurd (omega (arith, h));
  }
  kept_after (looks.Kanji cell text) = record {
    before = λ _. last_of numbers place n here;
    gap = λ _. last_of numbers place n here;
    within = omega arith;
    after = λ _. omega arith;
    widow = marked_gap numbers text w.is_after_japanese w.gap w.widow m.gap m.widow place k.after k.gap k.within k.widow;
    left = λ h. absurd (omega (arith, h));
  }
  kept_after looks.Gap = record {
    before = λ _. last_of numbers place n here;
    gap = k.gap;
    within = omega (arith, k.within);
    after = k.after;
    widow = marked_more numbers w.widow m.widow place k.widow;
    left = λ h. absurd (omega (arith, h));
  }
  kept_after looks.Space = record {
    before = λ _. last_of numbers place n here;
    gap = k.gap;
    within = omega (arith, k.within);
    after = k.after;
    widow = marked_more numbers w.widow m.widow place k.widow;
    left = λ h. absurd (omega (arith, h));
  }
  kept_after looks.Skip = record {
    before = λ _. last_of numbers place n here;
    gap = k.gap;
    within = omega (arith, k.within);
    after = k.after;
    widow = marked_more numbers w.widow m.widow place k.widow;
    left = λ h. absurd (omega (arith, h));
  }
  kept_after looks.Penalty = record {
    before = λ _. last_of numbers place n here;
    gap = λ _. last_of numbers place n here;
    within = omega arith;
    after = λ _. omega arith;
    widow = marked_more numbers w.widow m.widow place k.widow;
    left = λ h. absurd (omega (arith, h));
  }
  kept_after looks.Blank = record {
    before = λ _. last_of numbers place n here;
    gap = λ _. last_of numbers place n here;
    within = omega arith;
    after = λ h. cc;
    widow = marked_more numbers w.widow m.widow place k.widow;
    left = λ h. absurd (omega (arith, h));
  }
  kept_after looks.Solid = record {
    before = λ _. last_of numbers place n here;
    gap = λ _. last_of numbers place n here;
    within = omega arith;
    after = λ h. cc;
    widow = tt;
    left = λ h. absurd (omega (arith, h));
  }

-- ---- a node that is put before the item

marked_inserted : (numbers : List NodeNo) (o : Option ℕ) (mark : NodeNo) (place : ℕ) (new : NodeNo) → place ≤ length numbers
    → IsMarked numbers o mark place → IsMarked (insert numbers place new) o mark (place + 1)
marked_inserted numbers None mark place new within is = tt
marked_inserted numbers (Some n) mark place new within is =
    (is.0, (omega (arith, is.1.0), before_inserted numbers place (n - 1) new (omega (arith, is.0, is.1.0)) within ∙ is.1.1))

pub kept_inserted :
    (numbers : List NodeNo) (w : Walk) (m : Marks) (place : ℕ) (new : NodeNo) → AreKept numbers w m place → place ≤ length numbers
    → AreKept (insert numbers place new) w (record m { before = new }) (place + 1)
kept_inserted numbers w m place new k within = record {
  before = λ _. last_of (insert numbers place new) place new (at_inserted numbers place new within);
  gap = λ some. before_inserted numbers place (w.gap - 1) new (omega (arith, some, k.within)) within ∙ k.gap some;
  within = omega (arith, k.within);
  after = k.after;
  widow = marked_inserted numbers w.widow m.widow place new within k.widow;
  left = λ h. absurd (omega (arith, h));
}
