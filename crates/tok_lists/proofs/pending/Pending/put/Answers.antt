use Rattle.std.proofs.Common.{arith}
use Rattle.tok_lists.proofs.Rests.{put_last, counted_last}
use Rattle.tok_lists.proofs.pending.Pending.put.Goals as goal

pub invariant_of-self-2 : goal.invariant_of-self-2
invariant_of-self-2 c =
    rw (c.in_ok-push.ensures.items, c.len-more.ensures) (counted_last _ _ _ c.self.invariant c.requires.no_param (omega (arith, c.len-more.ensures)) (rw c.self.view_is c.requires.room))

pub returns-clause-answer : goal.returns-clause-answer
returns-clause-answer c = put_last _ _ _ _ c.in_ok-push.ensures.items c.self.view_is c.requires.room
