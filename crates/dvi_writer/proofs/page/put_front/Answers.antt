use Rattle.std.proofs.Common.{◌≡◌, ◌-◌, length, take, drop, arith, length-drop}
use Rattle.std.proofs.lemmas.List.{take_all}
use Rattle.dvi_writer.proofs.Pieces.{wrote_front}
use Rattle.dvi_writer.proofs.page.put_front.Goals as goal

pub returns-clause-bytes : goal.returns-clause-bytes
returns-clause-bytes c =
    let rest : take (length c.args.table.now - c.args.defined) (drop c.args.defined c.args.table.now) ≡ drop c.args.defined c.args.table.now = take_all _ _ (omega (arith, length-drop c.args.defined c.args.table.now)) in
    let put = rw rest at c.in_ok-put_definitions.ensures.bytes in
    wrote_front c.args.kept.now c.args.counts.now c.args.defined c.args.table.now _ _ _ _ c.in_ok-put_opening.ensures c.in_ok-put_bop_after.ensures.bytes put
