use Rattle.main_control.specs.Worlds.{scene_of}
use Rattle.main_control.specs.Lists.{char_added}
use Rattle.main_control.proofs.Sets.{outside_is}
use Rattle.main_control.proofs.control.Control.put_in_box.Goals as goal

pub returns-else-is_in_hbox-clause-exact : goal.returns-else-is_in_hbox-clause-exact
returns-else-is_in_hbox-clause-exact c state entries stand =
    outside_is (char_added c.args.c) (scene_of c.args.self.now state entries) (c.if-is_in_hbox.ensures.lists state entries)
