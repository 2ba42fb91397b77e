use Rattle.std.proofs.Common.{◌≤◌, arith, subst, refl}
use Rattle.box_tree.specs.Weights.{weight, most_weight}
use Rattle.box_marks.specs.Placing.{box_placed}
use Rattle.dvi_writer.specs.Wrote.{Refuses}
use Rattle.dvi_writer.proofs.Walks.{framed, first_near, runs_start, naturals_near, parts_near, next_sound, next_near, next_runs, next_refuses, placed_is, item_falls, handed_on}
use Rattle.dvi_writer.proofs.walk.+walk.Goals as goal

pub put_box-loop-item-init : goal.put_box-loop-item-init
put_box-loop-item-init t c =
    let light : weight c.args.node.now ≤ most_weight = rw (c.weight-weight.ensures.value) at c.weight-weight.ensures.most in
    let all = framed c.args.node.now c.get-list.result.now c.args.at c.new-frame.result c.as_slice-item-items.result.now c.get-list.ensures c.new-frame.ensures c.as_slice-item-items.ensures c.requires.sound c.requires.near light c.each_item_weighs_something.ensures in
    record { runs = runs_start _ _ _ _ refl c.requires.reach (first_near _ _ _ _ all c.requires.near) all.sound; framed = all }

pub put_box-offset-requires-clause-natural_near : goal.put_box-offset-requires-clause-natural_near
put_box-offset-requires-clause-natural_near t c = naturals_near _ _ _ _ _ _ _ _ c.loop-item.invariant.framed c.loop-item.invariant.runs c.sums_are_near.ensures.extents

pub put_box-offset-requires-clause-part_near : goal.put_box-offset-requires-clause-part_near
put_box-offset-requires-clause-part_near t c = parts_near _ _ _ _ _ _ _ _ c.loop-item.invariant.framed c.loop-item.invariant.runs c.sums_are_near.ensures.parts

pub put_box-after-sums-requires-clause-natural_near : goal.put_box-after-sums-requires-clause-natural_near
put_box-after-sums-requires-clause-natural_near t c = naturals_near _ _ _ _ _ _ _ _ c.loop-item.invariant.framed c.loop-item.invariant.runs c.sums_are_near.ensures.extents

pub put_box-after-sums-requires-clause-part_near : goal.put_box-after-sums-requires-clause-part_near
put_box-after-sums-requires-clause-part_near t c = parts_near _ _ _ _ _ _ _ _ c.loop-item.invariant.framed c.loop-item.invariant.runs c.sums_are_near.ensures.parts

pub put_box-put_item-requires : goal.put_box-put_item-requires
put_box-put_item-requires t c =
    let r = c.loop-item.invariant.runs in
    let w = item_falls _ _ _ _ _ _ c.loop-item.invariant.framed c.loop-item-test.true c.item-item.is in (
      omega arith,
      (
        r.writes.near,
        (
          c.loop-item.invariant.framed.size,
          (
            next_sound _ _ _ _ _ _ _ c.loop-item-test.true c.item-item.is r,
            rw (c.item_point-at.ensures, c.offset.ensures.value) (next_near _ _ _ _ _ _ _ c.loop-item-test.true c.item-item.is r),
          ),
        ),
      ),
    )

pub put_box-returns-in_err-put_item-clause-err : goal.put_box-returns-in_err-put_item-clause-err
put_box-returns-in_err-put_item-clause-err t c =
    let refused = rw (c.item_point-at.ensures, c.offset.ensures.value) at (c.in_err-put_item.ensures {u = tt}).err in
    let whole = next_refuses _ _ _ _ _ _ _ c.loop-item-test.true c.item-item.is c.loop-item.invariant.runs _ refused in
    handed_on c.from_residual.result _ (λ fault. Refuses fault (box_placed c.args.node.now c.args.at)) c.from_residual.ensures.1
    (subst (Refuses c.in_err-put_item.field-0.0) (placed_is _ _ _ _ c.loop-item.invariant.framed) whole)

pub put_box-loop-item-preserved : goal.put_box-loop-item-preserved
put_box-loop-item-preserved t c =
    record {
      runs = rw c.after-sums.ensures (next_runs _ _ _ _ _ _ _ c.loop-item-test.true c.item-item.is c.loop-item.invariant.runs c.sums_run.ensures.extents c.sums_run.ensures.parts _
          (rw (c.item_point-at.ensures, c.offset.ensures.value) at (c.in_ok-put_item.ensures.ok)));
      framed = c.loop-item.invariant.framed;
    }
