use Rattle.dvi_writer.proofs.Puts.{wrote_four}
use Rattle.dvi_writer.proofs.Said.{on_page}
use Rattle.dvi_writer.proofs.pen.put_said.Goals as goal

pub along-requires-clause-to_near : goal.along-requires-clause-to_near
along-requires-clause-to_near c = on_page c.args.p c.requires.fit

pub across-requires-clause-to_near : goal.across-requires-clause-to_near
across-requires-clause-to_near c = on_page c.args.p c.requires.fit

pub returns-clause-wrote : goal.returns-clause-wrote
returns-clause-wrote c =
    let right = rw c.along.ensures.value at c.in_ok-put_right.ensures in
    let down = rw c.across.ensures.value at c.in_ok-put_down.ensures in
    wrote_four _ _ _ _ _ _ _ _ _ c.in_ok-put_turn.ensures right down c.in_ok-put_piece.ensures.wrote
