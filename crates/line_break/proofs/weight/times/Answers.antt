use Rattle.std.proofs.Common.{◌*◌, ◌^◌, ◌≤◌, FitsSigned, unsigned_abs, arith, rules, w64}
use Rattle.std.proofs.lemmas.Int.{ints, to_z-of_z, fits_signed_mul}
use Rattle.line_break.proofs.weight.times.Goals as goal

pub overflow_mul-result : goal.overflow_mul-result
overflow_mul-result c =
    let from_fits : FitsSigned w64 c.from.result = search rules in
    let length_fits : FitsSigned w64 c.args.length = c.ranges.length in
    let few : unsigned_abs c.from.result ≤ 1291 = omega (arith, ints, c.from.ensures, c.requires.few) in
    let near : unsigned_abs c.args.length ≤ 24 * 2 ^ 48 = omega (arith, ints, c.requires.near) in
    let fits = fits_signed_mul w64 c.from.result c.args.length 1291 (24 * 2 ^ 48) few near (omega arith) in
    rw (to_z-of_z w64 c.from.result from_fits, to_z-of_z w64 c.args.length length_fits) fits
