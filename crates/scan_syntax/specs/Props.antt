-- That a value is within its bounds has at most one proof.
use Rattle.std.specs.Prelude.{ℕ, ℤ, ◌≤ℤ◌}
use lib.Dec.{T_prop}
use mathlib.Core.HLevel.{×_prop, Unit-prop}
use Rattle.ts_geometry.specs.Numbers.{IsWithin, max_dimen}
use Rattle.ts_geometry.specs.declared.glue.Glue.{Glue}
use Rattle.box_tree.specs.declared.node.BoxSize.{BoxSize}
use Rattle.box_tree.specs.declared.node.BoxSize.TheVariants as sizes
use Rattle.env_groups.specs.Bounds.{max_int, HasSetDimens}
use Rattle.scan_syntax.specs.declared.want.Value.{Value}
use Rattle.scan_syntax.specs.declared.want.Value.TheVariants as values
use Rattle.scan_syntax.specs.Bounds.{IsSize, IsWithinBounds}

at_most_prop : (a b : ℤ) → IsProp (a ≤ℤ b)
at_most_prop a b x y = λ i. record { le = T_prop _ x.le y.le i }

within_prop : (n : ℕ) (z : ℤ) → IsProp (IsWithin n z)
within_prop n z = ×_prop (at_most_prop _ _) (at_most_prop _ _)

dimens_prop : (g : Glue) → IsProp (HasSetDimens g)
dimens_prop g x y = λ i. record {
  width = within_prop max_dimen g.width.0 x.width y.width i;
  stretch = within_prop max_dimen g.stretch.0 x.stretch y.stretch i;
  shrink = within_prop max_dimen g.shrink.0 x.shrink y.shrink i;
}

size_prop : (size : BoxSize) → IsProp (IsSize size)
size_prop sizes.Natural = Unit-prop
size_prop (sizes.To d) = within_prop max_dimen d.0
size_prop (sizes.Spread d) = within_prop max_dimen d.0

pub bounded_prop : (value : Value) → IsProp (IsWithinBounds value)
bounded_prop (values.Integer n) = within_prop max_int n
bounded_prop (values.Dimen d) = within_prop max_int d.0
bounded_prop (values.Glue g) = dimens_prop g
bounded_prop (values.Toks list) = Unit-prop
bounded_prop values.Equals = Unit-prop
bounded_prop (values.BoxSize size) = size_prop size
bounded_prop (values.Keyword there) = Unit-prop
bounded_prop (values.FileName name) = Unit-prop
