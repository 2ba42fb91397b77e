-- Boxes with another measure.
use Rattle.std.proofs.Common.{refl}
use Rattle.ts_geometry.specs.declared.measure.Measures.{Measures}
use Rattle.ts_geometry.specs.declared.measure.Sp.{Sp}
use Rattle.box_tree.specs.declared.node.Side.{Side}
use Rattle.box_tree.specs.declared.node.Side.TheVariants.{Wd, Ht, Dp}
use Rattle.box_tree.specs.Bounds.{IsDimen, HasDimens}
use Rattle.box_tree.specs.Making.{with_side}
use Rattle.box_tree.specs.Trees.{node}
use Rattle.box_tree.specs.Laws.{MeasuresKeepSound, MeasuresKeepWeight, MeasuresKeepDepth}

sides : (m : Measures) (side : Side) (value : Sp) → HasDimens m → IsDimen value → HasDimens (with_side m side value)
sides m Wd value d v = record { wd = v; ht = d.ht; dp = d.dp }
sides m Ht value d v = record { wd = d.wd; ht = v; dp = d.dp }
sides m Dp value d v = record { wd = d.wd; ht = d.ht; dp = v }

pub measures_keep_sound : MeasuresKeepSound
measures_keep_sound (node kind dir size set items) side value s v = (sides size side value s.0 v, s.1)

pub measures_keep_weight : MeasuresKeepWeight
measures_keep_weight (node kind dir size set items) side value = refl

pub measures_keep_depth : MeasuresKeepDepth
measures_keep_depth (node kind dir size set items) side value = refl
