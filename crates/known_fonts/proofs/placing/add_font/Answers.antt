use Rattle.known_fonts.proofs.Numbering.{numbered_as}
use Rattle.known_fonts.proofs.Defining.{one_defined_as}
use Rattle.known_fonts.proofs.placing.add_font.Goals as goal

pub returns-clause-defined : goal.returns-clause-defined
returns-clause-defined c =
    let number = c.in_ok-number.number in
    let is = numbered_as c.args.env.now c.args.fonts.now number c.requires.numbered c.in_ok-number.ensures.exact in
    rw (c.in_ok-push.ensures.ok, c.in_ok-add.ensures.added, c.definition.ensures)
    (one_defined_as c.args.table.now c.args.fonts.now _ number.0 c.requires.defined is)
