-- How far from 0 the numbers of values lie (The TeXbook, chapter 24).
use Rattle.env_groups.specs.Bounds.{IsInt, HasSetDimens}
use Rattle.box_tree.specs.Bounds.{IsDimen}
use Rattle.box_tree.specs.declared.node.BoxSize.{BoxSize}
use Rattle.box_tree.specs.declared.node.BoxSize.TheVariants as sizes
use Rattle.scan_syntax.specs.declared.want.Value.{Value}
use Rattle.scan_syntax.specs.declared.want.Value.TheVariants as values
use Rattle.scan_syntax.specs.declared.want.Fed.{Fed}
use Rattle.scan_syntax.specs.declared.want.Fed.TheVariants as feds

abbrev pub IsSize : BoxSize → Type 0
IsSize sizes.Natural = Unit {0}
IsSize (sizes.To d) = IsDimen d
IsSize (sizes.Spread d) = IsDimen d

-- An integer, and the measure of a box as it is seen, is within 2^31 - 1; the numbers of glue and
-- the size of a box are within the greatest dimension.
abbrev pub IsWithinBounds : Value → Type 0
IsWithinBounds (values.Integer n) = IsInt n
IsWithinBounds (values.Dimen d) = IsInt d.0
IsWithinBounds (values.Glue g) = HasSetDimens g
IsWithinBounds (values.BoxSize size) = IsSize size
IsWithinBounds _ = Unit {0}

-- A value that is whole is so.
abbrev pub IsFoundWithin : Fed → Type 0
IsFoundWithin (feds.Done value back) = IsWithinBounds value
IsFoundWithin _ = Unit {0}
