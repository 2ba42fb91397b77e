use Rattle.open_lists.specs.EndCodes.{codes_in}
use Rattle.list_commands.proofs.Fonts.{end_keeps, box_ended}
use Rattle.list_commands.proofs.ending.end_list.Goals as goal

pub returns-clause-of_fonts : goal.returns-clause-of_fonts
returns-clause-of_fonts g c = λ fonts k.
    end_keeps c.glyphs_stay_of_fonts.ensures.ended fonts c.args.lists.now c.end_hbox.new.self c.end_hbox.ensures.left k

pub returns-clause-box_of_fonts : goal.returns-clause-box_of_fonts
returns-clause-box_of_fonts g c = λ fonts whole k.
    box_ended (λ fonts nest. c.boxes_are_of_fonts.ensures.ended fonts (codes_in nest)) fonts c.args.env.now c.args.lists.now c.end_hbox.result whole c.end_hbox.ensures.exact k
