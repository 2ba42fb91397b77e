-- How far from 0 the integers of quantities lie.
use Rattle.std.proofs.Common.{arith}
use Rattle.std.proofs.lemmas.Int.{ints}
use Rattle.std.specs.Prelude.{◌≤ℤ◌, pos, neg_ℤ}
use Rattle.env_groups.specs.Bounds.{max_int}
use Rattle.scan_numbers.specs.declared.quantity.Quantity.{Quantity}
use Rattle.scan_numbers.specs.declared.quantity.Quantity.TheVariants as quantities
use Rattle.scan_numbers.specs.Quantities.{integer_of}
use Rattle.scan_numbers.specs.Bounds.{IsBounded}

pub comes_low : (q : Quantity) → IsBounded q → neg_ℤ (pos max_int) ≤ℤ integer_of q
comes_low (quantities.Integer n) bounded = bounded.0
comes_low (quantities.Dimen d) bounded = bounded.0
comes_low (quantities.Glue g) bounded = let low = bounded.0.0 in omega (arith, ints, low)

pub comes_high : (q : Quantity) → IsBounded q → integer_of q ≤ℤ pos max_int
comes_high (quantities.Integer n) bounded = bounded.1
comes_high (quantities.Dimen d) bounded = bounded.1
comes_high (quantities.Glue g) bounded = let high = bounded.0.1 in omega (arith, ints, high)
