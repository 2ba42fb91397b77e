-- Laws of ended paragraphs, and of the places at which lines end.
use Rattle.std.specs.Prelude.{◌≡◌, ◌+◌, ◌<◌, ◌≤◌, true, List, length}
use Rattle.std.specs.List.{All}
use Rattle.ts_geometry.specs.declared.direction.Dir.{Dir}
use Rattle.ts_geometry.specs.declared.glue.Glue.{Glue as Glues}
use Rattle.box_tree.specs.declared.item.Item.{Item}
use Rattle.box_tree.specs.Nodes.{tree_items}
use Rattle.box_tree.specs.Sound.{IsSoundGlue, AreSound}
use Rattle.line_break.specs.declared.shape.ParaShape.{ParaShape}
use Rattle.line_break.specs.Paragraphs.{ended, ends_forced, deciding_ends, passes}

-- sound items and a sound last glue make a sound paragraph
abbrev pub EndedIsSound : Type 0
EndedIsSound = (dir : Dir) (items : List Item) (fill : Glues) →
    AreSound dir (tree_items items) → IsSoundGlue fill →
    AreSound dir (tree_items (ended items fill))

-- the end adds at most three items
abbrev pub EndIsShort : Type 0
EndIsShort = (items : List Item) (fill : Glues) → length (ended items fill) ≤ length items + 3

-- an ended paragraph ends with a penalty of -10000
abbrev pub EndIsForced : Type 0
EndIsForced = (items : List Item) (fill : Glues) → ends_forced (ended items fill) ≡ true

-- each line ends at an item
abbrev pub PlacesAreInside : Type 0
PlacesAreInside = (items : List Item) (shape : ParaShape) →
    ends_forced items ≡ true → All (λ b. b.0 < length items) (deciding_ends (passes items shape))
