-- Small values of the definitions.
use Rattle.std.proofs.Common.{◌≡◌, ℤ, pos, neg_ℤ, [], ◌∷◌, Some, None, refl}
use Rattle.ts_geometry.specs.declared.direction.Dir.TheVariants.{Yoko}
use Rattle.ts_geometry.specs.declared.glue.Glue.{Glue}
use Rattle.ts_geometry.specs.declared.glue.Order.TheVariants.{Normal, Fil}
use Rattle.ts_geometry.specs.Crossings.{measures}
use Rattle.ts_geometry.specs.Directions.{sp}
use Rattle.box_tree.specs.declared.item.GlueFrom.TheVariants.{Given}
use Rattle.box_tree.specs.declared.item.Item.{Item}
use Rattle.box_tree.specs.declared.item.Item.TheVariants.{Box, Glue as Skip}
use Rattle.box_tree.specs.declared.node.BoxKind.TheVariants.{Horizontal}
use Rattle.box_tree.specs.declared.node.SetGlue.TheVariants.{Plain as AsIs}
use Rattle.box_tree.specs.Trees.{node, no_items}
use Rattle.vert_lists.specs.declared.interline.LineShape.{LineShape}
use Rattle.vert_lists.specs.Interline.{spaced}

-- 12 plus 1fil, 1 minus 2, and a limit of 0
abbrev line_skip : Glue
line_skip = record { width = sp (pos 1); stretch = sp (pos 0); stretch_order = Normal; shrink = sp (pos 2); shrink_order = Normal }

abbrev baseline : ℤ → Glue
baseline width = record { width = sp width; stretch = sp (pos 65536); stretch_order = Fil; shrink = sp (pos 0); shrink_order = Normal }

abbrev shape : LineShape
shape = record { baseline = baseline (pos 12); line_skip = line_skip; limit = sp (pos 0) }

abbrev a_box : ℤ → Item
a_box height = Box (node Horizontal Yoko (measures (pos 20) height (pos 0)) AsIs no_items) (sp (pos 0))

spaced-apart : spaced (a_box (pos 7)) (Some (sp (pos 2))) shape ≡ Skip (baseline (pos 3)) Given ∷ a_box (pos 7) ∷ []
spaced-apart = refl

spaced-at_the_limit : spaced (a_box (pos 8)) (Some (sp (pos 4))) shape ≡ Skip (baseline (pos 0)) Given ∷ a_box (pos 8) ∷ []
spaced-at_the_limit = refl

spaced-close : spaced (a_box (pos 8)) (Some (sp (pos 5))) shape ≡ Skip line_skip Given ∷ a_box (pos 8) ∷ []
spaced-close = refl

spaced-at_the_start : spaced (a_box (pos 7)) None shape ≡ a_box (pos 7) ∷ []
spaced-at_the_start = refl

spaced-ignored_depth : spaced (a_box (pos 7)) (Some (sp (neg_ℤ (pos 65536000)))) shape ≡ a_box (pos 7) ∷ []
spaced-ignored_depth = refl

spaced-above_it : spaced (a_box (pos 7)) (Some (sp (neg_ℤ (pos 65535999)))) shape ≡ Skip (baseline (pos 65536004)) Given ∷ a_box (pos 7) ∷ []
spaced-above_it = refl
