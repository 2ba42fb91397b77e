-- Laws of the definitions.
use Rattle.std.specs.Prelude.{Bool, List, All}
use Rattle.ts_geometry.specs.declared.direction.Dir.{Dir}
use Rattle.box_tree.specs.Nodes.{tree_items}
use Rattle.box_tree.specs.Sound.{AreSound, IsSoundGlue}
use Rattle.jlist_builder.specs.Entries.{Entry}
use Rattle.jlist_builder.specs.Gaps.{metric_list}
use Rattle.jlist_builder.specs.Glyphs.{ComesFrom}
use Rattle.jlist_builder.specs.Sound.{AreSoundEntries}
use Rattle.kanjiskip_adjust.specs.EndCodes.{Codes}
use Rattle.kanjiskip_adjust.specs.Finished.{finished_list}

-- Both skips are glue of sound items.
pub record AreSoundSkips (codes : Codes) : Type 0 where
  pub kanjiskip : IsSoundGlue codes.kanjiskip
  pub xkanjiskip : IsSoundGlue codes.xkanjiskip

-- the finished list is sound where the metric list is
abbrev pub FinishedIsAsSound : Type 0
FinishedIsAsSound =
    (dir : Dir) (codes : Codes) (para : Bool) (e : List Entry) → AreSoundSkips codes
    → AreSound dir (tree_items (metric_list e)) → AreSound dir (tree_items (finished_list codes para e))

-- the finished list of sound entries is sound
abbrev pub FinishedListsAreSound : Type 0
FinishedListsAreSound =
    (dir : Dir) (codes : Codes) (para : Bool) (e : List Entry) → AreSoundSkips codes
    → AreSoundEntries dir e → AreSound dir (tree_items (finished_list codes para e))

-- each item of the finished list comes from the entries, as those of the metric list do
abbrev pub FinishedGlyphsComeFromEntries : Type 0
FinishedGlyphsComeFromEntries =
    (codes : Codes) (para : Bool) (e : List Entry) → All (ComesFrom e) (finished_list codes para e)
