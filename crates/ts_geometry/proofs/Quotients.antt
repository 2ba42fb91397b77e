-- Floors and rounded quotients.
use Rattle.std.proofs.Common.{◌*◌, ◌<◌, pos, negsuc, arith}
use Rattle.std.proofs.lemmas.Int.{ints}
use Rattle.ts_geometry.specs.Laws.{FloorsAreGreatest, NearestIsWithinHalf}

pub nearest_is_within_half : NearestIsWithinHalf
nearest_is_within_half n d h =
    let positive : 0 < 2 * d = omega arith in
    (omega arith, omega arith)

pub floors_are_greatest : FloorsAreGreatest
floors_are_greatest (pos a) n h = (omega (arith, ints), omega (arith, ints))
floors_are_greatest (negsuc a) n h = (omega (arith, ints), omega (arith, ints))
