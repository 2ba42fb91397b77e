use Rattle.tok_lists.proofs.pending.Pending.push_list.Goals as goal

pub returns-clause-answer : goal.returns-clause-answer
returns-clause-answer c = rw (← c.of_list.ensures) c.put-2.ensures.answer
