use Rattle.std.proofs.Common.{◌^◌, arith, rules, SFits, w32, w64}
use Rattle.std.proofs.lemmas.Int.{ints, to_z-of_z}
use Rattle.ts_geometry.specs.Numbers.{IsWithin}
use Rattle.line_break.specs.Codes.{found_list}
use Rattle.line_break.proofs.ByClass.{lowest_within, near_kept}
use Rattle.line_break.proofs.states.kept.Goals as goal

pub limit_above-limit-requires : goal.limit_above-limit-requires
limit_above-limit-requires c =
    let w : IsWithin (2 ^ 61) c.in-Some.least = lowest_within (2 ^ 61) c.in-Some.least (found_list c.args.found.now) c.in-Some.ensures c.requires in
    (omega (arith, ints), omega (arith, ints))

pub returns-in_ok-kept_below-in-Some : goal.returns-in_ok-kept_below-in-Some
returns-in_ok-kept_below-in-Some c =
    let w : IsWithin (2 ^ 61) c.in-Some.least = lowest_within (2 ^ 61) c.in-Some.least (found_list c.args.found.now) c.in-Some.ensures c.requires in
    let least_fits : SFits w64 c.in-Some.least = search rules in
    let limit_fits : SFits w64 c.limit_above-limit.result = search rules in
    let adj_fits : SFits w32 c.args.adj = c.ranges.adj in
    let at = simp to_z-of_z at c.limit_above-limit.ensures in
    let is = simp to_z-of_z at c.in_ok-kept_below-in-Some.ensures in
    near_kept c.args.found.now c.args.adj c.in-Some.least c.limit_above-limit.result c.kept_below.new.new.items is c.in-Some.ensures at
