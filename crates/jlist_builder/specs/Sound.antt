-- Entries whose metric list is sound, in the sense of box_tree.
use Rattle.std.specs.Prelude.{◌<◌, ◌^◌, List, [], ◌∷◌}
use Rattle.ts_geometry.specs.declared.direction.Dir.{Dir}
use Rattle.box_tree.specs.Bounds.{IsDimen}
use Rattle.box_tree.specs.Nodes.{tree_item, tree_items}
use Rattle.box_tree.specs.Sound.{AreSound, IsSoundItem}
use Rattle.tfm_load.specs.Sound as tfm
use Rattle.jfm_load.specs.Sound as jfm
use Rattle.jlist_builder.specs.Entries.{JapaneseCharacter, EuropeanCharacter, Entry, Japanese, European, Other, Cut, Inhibit}
use Rattle.jlist_builder.specs.Gaps.{metric_list}

-- The words of the metric are within 16 of 0, and the size is below 2^23 scaled points.
pub record IsSoundJapanese (k : JapaneseCharacter) : Type 0 where
  pub words : jfm.HasFixWords k.metric
  pub size : k.z < 2 ^ 23

-- The same, and the character is moved across by a dimension.
pub record IsSoundEuropean (a : EuropeanCharacter) : Type 0 where
  pub words : tfm.HasFixWords a.metric
  pub size : a.z < 2 ^ 23
  pub shift : IsDimen a.shift

-- an entry of a list of this direction
abbrev pub IsSoundEntry : Dir → Entry → Type 0
IsSoundEntry dir (Japanese k) = IsSoundJapanese k
IsSoundEntry dir (European a) = IsSoundEuropean a
IsSoundEntry dir (Other i) = IsSoundItem dir (tree_item i)
IsSoundEntry dir Cut = Unit {0}
IsSoundEntry dir Inhibit = Unit {0}

abbrev pub AreSoundEntries : Dir → List Entry → Type 0
AreSoundEntries dir [] = Unit {0}
AreSoundEntries dir (x ∷ past) = IsSoundEntry dir x × AreSoundEntries dir past

-- the metric list of sound entries is sound
abbrev pub MetricListsAreSound : Type 0
MetricListsAreSound =
    (dir : Dir) (e : List Entry) → AreSoundEntries dir e → AreSound dir (tree_items (metric_list e))
