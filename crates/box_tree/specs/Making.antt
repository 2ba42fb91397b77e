-- Which nodes are boxes, and boxes with another measure.
use Rattle.std.specs.Prelude.{ℕ, ◌+◌, ◌^◌, ◌-◌, min, nat_lt, if◌then◌else◌, Option, Some, None, Result, Ok, Err}
use Rattle.ts_base.specs.Agreement.{Cause, Determined, Free}
use Rattle.ts_geometry.specs.declared.measure.Measures.{Measures}
use Rattle.ts_geometry.specs.declared.measure.Sp.{Sp}
use Rattle.box_tree.specs.declared.node.Side.{Side}
use Rattle.box_tree.specs.declared.node.Side.TheVariants.{Wd, Ht, Dp}
use Rattle.box_tree.specs.declared.fault.BoxFault.{BoxFault}
use Rattle.box_tree.specs.declared.fault.BoxFault.TheVariants.{BoxTooLarge, BoxTooDeep, NoMemory}
use Rattle.box_tree.specs.Trees.{BoxTree, node, TreeItems}
use Rattle.box_tree.specs.Weights.{weights, greatest_depth, most_weight, most_depth}

-- the weight as a word of 64 bits has it
abbrev pub in_word : ℕ → ℕ
in_word w = min w (2 ^ 64 - 1)

-- the first limit that a node of these items passes: its weight, and then its depth
abbrev pub past_limits : TreeItems → Option BoxFault
past_limits items =
    if nat_lt most_weight (1 + weights items) then Some (BoxTooLarge (in_word (1 + weights items)))
    else (if nat_lt most_depth (1 + greatest_depth items) then Some (BoxTooDeep (1 + greatest_depth items)) else None)

abbrev pub unless : Option BoxFault → BoxTree → Result BoxTree BoxFault
unless None b = Ok b
unless (Some fault) b = Err fault

-- a tree within the limits, or the first limit that it passes
abbrev pub boxed : BoxTree → Result BoxTree BoxFault
boxed (node kind dir size set items) = unless (past_limits items) (node kind dir size set items)

-- want of memory is free; the limits are determined
abbrev pub box_cause : BoxFault → Cause
box_cause (BoxTooLarge weight) = Determined
box_cause (BoxTooDeep depth) = Determined
box_cause NoMemory = Free

abbrev pub with_side : Measures → Side → Sp → Measures
with_side m Wd value = record { wd = value; ht = m.ht; dp = m.dp }
with_side m Ht value = record { wd = m.wd; ht = value; dp = m.dp }
with_side m Dp value = record { wd = m.wd; ht = m.ht; dp = value }

-- the same box but for one measure
abbrev pub with_measure : BoxTree → Side → Sp → BoxTree
with_measure (node kind dir size set items) side value = node kind dir (with_side size side value) set items
