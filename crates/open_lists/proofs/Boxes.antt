-- The box of a list, and the skips in it.
use Rattle.std.proofs.Common.{◌≡◌, arith, refl}
use Rattle.std.proofs.lemmas.Int.{ints}
use Rattle.ts_base.specs.Agreement.{AgreesFault}
use Rattle.ts_geometry.specs.declared.direction.Dir.{Dir}
use Rattle.ts_geometry.specs.declared.glue.Glue.{Glue}
use Rattle.box_tree.specs.Sound.{IsSoundGlue}
use Rattle.box_tree.specs.Trees.{TreeItems}
use Rattle.env_groups.specs.Bounds.{HasSetDimens}
use Rattle.packaging.specs.declared.fault.PackFault.{PackFault}
use Rattle.packaging.specs.declared.fault.PackFault.TheVariants.{DimenRange, BoxTooLarge, BoxTooDeep, NoMemory}
use Rattle.packaging.specs.Packing.{hpacked, pack_cause}
use Rattle.open_lists.specs.declared.plan.BoxPlan.{BoxPlan}
use Rattle.open_lists.specs.Lists.{box_of_items}

-- a fault of packing
pub box_fault : (fault : PackFault) (items : TreeItems) (dir : Dir) (plan : BoxPlan)
    → AgreesFault (pack_cause fault) fault (hpacked items dir plan.size) → AgreesFault (pack_cause fault) fault (box_of_items items dir plan)
box_fault DimenRange items dir plan h = rw h refl
box_fault (BoxTooLarge weight) items dir plan h = rw h refl
box_fault (BoxTooDeep depth) items dir plan h = rw h refl
box_fault NoMemory items dir plan h = tt

-- glue that was set
pub set_glue_sound : (g : Glue) → HasSetDimens g → IsSoundGlue g
set_glue_sound g h = record { width = (omega (arith, ints, h.width.0), omega (arith, ints, h.width.1)); stretch = h.stretch; shrink = h.shrink }
