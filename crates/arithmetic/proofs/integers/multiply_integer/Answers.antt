use Rattle.std.proofs.Common.{rules, arith, ◌≤◌, ◌*ℤ◌, FitsSigned, w64}
use Rattle.std.specs.Prelude.{unsigned_abs}
use Rattle.std.proofs.lemmas.Int.{ints, to_z-of_z, fits_signed_mul}
use Rattle.arithmetic.proofs.integers.multiply_integer.Goals as goal

pub returns-clause-value : goal.returns-clause-value
returns-clause-value c =
    let old_fits : FitsSigned w64 c.args.old = search rules in
    let by_fits : FitsSigned w64 c.args.by = search rules in
    let old_few : unsigned_abs c.args.old ≤ 2147483647 = omega (arith, ints, c.requires.old) in
    let by_few : unsigned_abs c.args.by ≤ 2147483647 = omega (arith, ints, c.requires.by) in
    let fits = fits_signed_mul w64 c.args.old c.args.by 2147483647 2147483647 old_few by_few (omega arith) in
    rw (to_z-of_z w64 c.args.old old_fits, to_z-of_z w64 c.args.by by_fits, to_z-of_z w64 (c.args.old *ℤ c.args.by) fits) at c.in_range.ensures.value
