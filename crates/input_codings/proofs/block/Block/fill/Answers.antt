use Rattle.std.proofs.Common.{◌≡◌, ◌++◌, ◌∙◌, ◌-◌, take, drop, ap, List, ℕ}
use Rattle.input_codings.proofs.Blocks.{added, same_front, moves_bytes, moves_end, moves_failed, ends_end}
use Rattle.input_codings.proofs.block.Block.fill.Goals as goal

pub returns-in-Bytes-clause-moves : goal.returns-in-Bytes-clause-moves
returns-in-Bytes-clause-moves g c =
    let s = c.make_room-start.result.0 in
    let e = c.make_room-start.result.1 in
    let old : take (e - s) (drop s c.make_room-start.new.bytes.items) ≡ c.args.self.now = c.make_room-start.ensures.same ∙ c.self.view_is in
    moves_bytes c.args.self.now _ (drop e c.read_after.new.bytes.items) c.in-Bytes.n _ _
    (added c.make_room-start.new.bytes.items c.read_after.new.bytes.items s e c.in-Bytes.n c.make_room-start.ensures.order c.read_after.ensures.before ∙ ap (λ (ys : List ℕ). ys ++ take c.in-Bytes.n (drop e c.read_after.new.bytes.items)) old)
    c.in-Bytes.ensures.gives

pub returns-in-End-clause-adds : goal.returns-in-End-clause-adds
returns-in-End-clause-adds g c =
    same_front c.make_room-start.new.bytes.items c.read_after.new.bytes.items c.make_room-start.result.0 c.make_room-start.result.1 c.make_room-start.ensures.order c.read_after.ensures.before
    ∙ (c.make_room-start.ensures.same ∙ c.self.view_is)

pub returns-in-End-clause-moves : goal.returns-in-End-clause-moves
returns-in-End-clause-moves g c =
    moves_end c.args.self.now _ (drop c.make_room-start.result.1 c.read_after.new.bytes.items) _ _ (returns-in-End-clause-adds g c) c.in-End.ensures.gives

pub returns-in-End-clause-ends : goal.returns-in-End-clause-ends
returns-in-End-clause-ends g c =
    ends_end (drop c.make_room-start.result.1 c.read_after.new.bytes.items) _ _ c.in-End.ensures.gives

pub returns-in-Failed-clause-adds : goal.returns-in-Failed-clause-adds
returns-in-Failed-clause-adds g c =
    same_front c.make_room-start.new.bytes.items c.read_after.new.bytes.items c.make_room-start.result.0 c.make_room-start.result.1 c.make_room-start.ensures.order c.read_after.ensures.before
    ∙ (c.make_room-start.ensures.same ∙ c.self.view_is)

pub returns-in-Failed-clause-moves : goal.returns-in-Failed-clause-moves
returns-in-Failed-clause-moves g c =
    moves_failed c.args.self.now _ (drop c.make_room-start.result.1 c.read_after.new.bytes.items) _ _ (returns-in-Failed-clause-adds g c) c.in-Failed.ensures.gives
