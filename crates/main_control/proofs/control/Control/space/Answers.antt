use Rattle.main_control.proofs.Sets.{space_stands}
use Rattle.main_control.proofs.control.Control.space.Goals as goal

pub returns-else-is_in_hbox-clause-exact : goal.returns-else-is_in_hbox-clause-exact
returns-else-is_in_hbox-clause-exact c state entries stand =
    space_stands c.args.self.now state entries (c.if-is_in_hbox.ensures.lists state entries) stand
