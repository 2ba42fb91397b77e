use Rattle.std.proofs.Common.{ℤ, to_z, of_z, ◌≡◌, ℕ, ◌+◌, ◌-◌, ◌/◌, true, pos, int_lt, sym, subst, ◌∙◌, arith, SFits, w32}
use Rattle.std.proofs.lemmas.Int.{to_z-of_z}
use Rattle.ts_geometry.specs.Numbers.{badness_of_ratio}
use Rattle.line_break.specs.Loose.{IsLimit}
use Rattle.line_break.proofs.Loose.{still_below}
use Rattle.line_break.proofs.weight.limit_above.Goals as goal

pub loop-low-init : goal.loop-low-init
loop-low-init c = record { order = omega arith; high = omega arith; below = λ n h. absurd (omega (arith, h)); above = λ e. e }

pub loop-low-preserved-then-is_above : goal.loop-low-preserved-then-is_above
loop-low-preserved-then-is_above c =
    let inv = c.loop-low.invariant in
    record {
      order = omega arith;
      high = let h = inv.high in let lt = c.loop-low-test.true in omega (arith, h, lt);
      below = inv.below;
      above = λ _. sym c.is_above.ensures ∙ c.if-is_above.true;
    }

pub loop-low-preserved : goal.loop-low-preserved
loop-low-preserved c =
    let inv = c.loop-low.invariant in
    record {
      order = let lt = c.loop-low-test.true in omega (arith, lt);
      high = inv.high;
      below = λ n h. still_below (to_z w32 (of_z w32 c.args.threshold)) n (c.loop-low.low + (c.loop-low.high - c.loop-low.low) / 2) (omega (arith, h)) (sym c.is_above.ensures ∙ c.if-is_above.false);
      above = inv.above;
    }

pub returns : goal.returns
returns c =
    let inv = c.loop-low.invariant in
    let z = to_z w32 (of_z w32 c.args.threshold) in
    let fits : SFits w32 c.args.threshold = c.ranges.threshold in
    let e : c.loop-low.high ≡ c.loop-low.low = let o = inv.order in let f = c.loop-low-test.false in omega (arith, o, f) in
    let P : ℕ → Type 0 = λ n. int_lt z (pos 10000) ≡ true → int_lt z (pos (badness_of_ratio n)) ≡ true in
    let Q : ℤ → Type 0 = λ x. IsLimit x c.loop-low.low in
    let all : Q z = record { high = let h = inv.high in omega (arith, e, h); below = inv.below; above = subst P e inv.above } in
    subst Q (to_z-of_z w32 c.args.threshold fits) all
