use Rattle.list_commands.proofs.Fonts.{begun_keeps}
use Rattle.list_commands.proofs.Situated.{situated_fits}
use Rattle.list_commands.proofs.beginning.begin_list.Goals as goal

pub returns-clause-of_fonts : goal.returns-clause-of_fonts
returns-clause-of_fonts c = λ fonts k.
    begun_keeps c.glyphs_stay_of_fonts.ensures.begun fonts c.args.lists.now c.begin_hbox.new.self c.args.plan c.in_default.field-0 c.in_default.ensures.exact k

pub returns-clause-fit : goal.returns-clause-fit
returns-clause-fit c names was =
    situated_fits names c.change_group.new.env c.set_situation.new.self c.situation.result c.set_situation.ensures (c.change_group.ensures.fit names was)
