use Rattle.expander.proofs.conditionals.put_back.Goals as goal

pub returns-clause-exact : goal.returns-clause-exact
returns-clause-exact c = rw c.in_ok-list.ensures at c.push.ensures.exact
