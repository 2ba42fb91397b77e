use Rattle.std.proofs.Common.{rules, arith, ◌≡◌, ◌≤◌, length, take, w32}
use Rattle.std.proofs.lemmas.Int.{to_z-of_z}
use Rattle.std.proofs.lemmas.List.{take_all}
use mir.Val.{SFits}
use Rattle.dvi_writer.proofs.Pieces.{wrote_bop, all_fit_word}
use Rattle.dvi_writer.proofs.ends.put_bop.Goals as goal

pub returns-clause-bytes : goal.returns-clause-bytes
returns-clause-bytes c =
    let f : SFits w32 c.args.back = search rules in
    let long : length c.args.counts.now ≤ c.loop-count.count-index = rw c.told-counts c.loop-count-test.false in
    let whole : take c.loop-count.count-index c.args.counts.now ≡ c.args.counts.now = take_all _ _ long in
    let front = rw whole at c.loop-count.invariant.bytes in
    let last = simp to_z-of_z at c.in_ok-put_signed-2.ensures.bytes in
    wrote_bop c.args.counts.now c.args.back _ _ _ front last

pub returns-clause-counts_fit : goal.returns-clause-counts_fit
returns-clause-counts_fit c =
    let long : length c.args.counts.now ≤ c.loop-count.count-index = rw c.told-counts c.loop-count-test.false in
    all_fit_word c.args.counts.now (λ k lt. c.loop-count.invariant.fit k (omega (arith, long)))
