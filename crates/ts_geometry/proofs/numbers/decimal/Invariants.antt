use Rattle.std.proofs.Common.{◌≡◌, ◌<◌, ◌^◌, drop, take}
use Rattle.ts_geometry.specs.Numbers.{half_units}
use Rattle.ts_geometry.proofs.numbers.decimal.Given as goal

abbrev pub invariant-loop-k : goal.invariant-loop-k
invariant-loop-k l = (l.half_units ≡ half_units (drop l.k (take 17 l.digits))) × (l.half_units < 2 ^ 17)
