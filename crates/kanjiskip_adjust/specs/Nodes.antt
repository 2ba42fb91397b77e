-- Which nodes the walk remembers. It is for this crate's own functions alone.
use Rattle.std.specs.Prelude.{◌≡◌, ℕ, ◌-◌, ◌≤◌, ◌<◌, true, List, slice_get, Some, None, IfSome, if◌then◌else◌}
use Rattle.node_links.specs.declared.node.NodeNo.{NodeNo}
use Rattle.kanjiskip_adjust.specs.declared.look.Look.{Look}
use Rattle.kanjiskip_adjust.specs.declared.look.Look.TheVariants as looks
use Rattle.kanjiskip_adjust.specs.declared.nodes.Marks.{Marks}
use Rattle.kanjiskip_adjust.specs.declared.walk.Walk.{Walk}

-- the marks after the node of an item
abbrev pub marks_after : Marks → Look → NodeNo → Marks
marks_after m (looks.Letter first last) n = record m { before = n; gap = n }
marks_after m (looks.Kanji cell text) n =
    record { before = n; gap = n; widow = if text then m.gap else m.widow }
marks_after m looks.Gap n = record m { before = n }
marks_after m looks.Space n = record m { before = n }
marks_after m looks.Skip n = record m { before = n }
marks_after m looks.Penalty n = record m { before = n; gap = n }
marks_after m looks.Blank n = record m { before = n; gap = n }
marks_after m looks.Solid n = record m { before = n; gap = n }

-- The marks of a walk that has passed so many nodes: the last one, the one before the gap, and the
-- one before the gap that may have the widow penalty.
pub record AreKept (numbers : List NodeNo) (w : Walk) (m : Marks) (place : ℕ) : Type 0 where
  pub before : 1 ≤ place → slice_get numbers (place - 1) ≡ Some m.before
  pub gap : 1 ≤ w.gap → slice_get numbers (w.gap - 1) ≡ Some m.gap
  pub within : w.gap ≤ place
  pub after : w.is_after_japanese ≡ true → 1 ≤ w.gap
  pub widow : IfSome w.widow (λ n.
      (1 ≤ n) × ((n < place) × (slice_get numbers (n - 1) ≡ Some m.widow)))
  pub left : place ≡ 0 → w.left ≡ None
