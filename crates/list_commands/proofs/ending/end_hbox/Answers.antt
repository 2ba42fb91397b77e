use Rattle.list_commands.proofs.Situated.{situated_fits}
use Rattle.list_commands.proofs.ending.end_hbox.Goals as goal

pub returns-in_err-closed-clause-fit : goal.returns-in_err-closed-clause-fit
returns-in_err-closed-clause-fit c names was =
    situated_fits names c.change_group-closed.new.env c.set_situation.new.self c.situation.result c.set_situation.ensures (c.change_group-closed.ensures.fit names was)

pub returns-in_err-ended-clause-fit : goal.returns-in_err-ended-clause-fit
returns-in_err-ended-clause-fit c names was =
    situated_fits names c.change_group-closed.new.env c.set_situation.new.self c.situation.result c.set_situation.ensures (c.change_group-closed.ensures.fit names was)

pub returns-clause-fit : goal.returns-clause-fit
returns-clause-fit c names was =
    situated_fits names c.change_group-closed.new.env c.set_situation.new.self c.situation.result c.set_situation.ensures (c.change_group-closed.ensures.fit names was)
