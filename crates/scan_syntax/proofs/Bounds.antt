-- Glue whose numbers are within the greatest dimension.
use Rattle.ts_geometry.specs.declared.glue.Glue.{Glue}
use Rattle.box_tree.specs.Bounds.{IsDimen}
use Rattle.env_groups.specs.Bounds.{HasSetDimens}

pub glue_within : (g : Glue) → IsDimen g.width → IsDimen g.stretch → IsDimen g.shrink → HasSetDimens g
glue_within g width stretch shrink = record { width = width; stretch = stretch; shrink = shrink }
