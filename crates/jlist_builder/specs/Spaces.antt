-- What metrics put between characters.
use Rattle.std.specs.Prelude.{ℕ, ℤ, List, [], ◌∷◌}
use Rattle.ts_geometry.specs.declared.glue.Glue.{Glue}
use Rattle.ts_geometry.specs.declared.glue.Order.TheVariants.{Normal}
use Rattle.ts_geometry.specs.Directions.{sp}
use Rattle.ts_geometry.specs.Numbers.{scale}
use Rattle.box_tree.specs.declared.item.GlueFrom.TheVariants as glues
use Rattle.box_tree.specs.declared.item.KernFrom.TheVariants as kerns
use Rattle.box_tree.specs.declared.item.Item.{Item}
use Rattle.box_tree.specs.declared.item.Item.TheVariants as items
use Rattle.tfm_load.specs.declared.programs.Step.{Step}
use Rattle.tfm_load.specs.declared.programs.Step.TheVariants as steps
use Rattle.jfm_load.specs.declared.programs.Space.{Space as Words}
use Rattle.jfm_load.specs.declared.programs.Space.TheVariants as words
use Rattle.jlist_builder.specs.declared.space.Space.{Space}
use Rattle.jlist_builder.specs.declared.space.Space.TheVariants as spaces

-- glue of fix words at a size
abbrev pub scaled_glue : ℤ → ℤ → ℤ → ℕ → Glue
scaled_glue width stretch shrink z = record {
  width = sp (scale width z);
  stretch = sp (scale stretch z);
  stretch_order = Normal;
  shrink = sp (scale shrink z);
  shrink_order = Normal;
}

-- what a Japanese metric has between two classes, at a size
abbrev pub scaled_space : Words → ℕ → Space
scaled_space words.Nothing z = spaces.Nothing
scaled_space (words.Glue width stretch shrink) z = spaces.Glue (scaled_glue width stretch shrink z)
scaled_space (words.Kern width) z = spaces.Kern (sp (scale width z))

-- the kern that a European metric has between two characters, at a size
abbrev pub scaled_kern : Step → ℕ → Space
scaled_kern steps.Nothing z = spaces.Nothing
scaled_kern (steps.Kern width) z = spaces.Kern (sp (scale width z))
scaled_kern (steps.Ligature code) z = spaces.Nothing

-- a space as an item
abbrev pub space_items : Space → List Item
space_items spaces.Nothing = []
space_items (spaces.Glue glue) = items.Glue glue glues.Metric ∷ []
space_items (spaces.Kern width) = items.Kern width kerns.Metric ∷ []
