use Rattle.main_control.specs.Worlds.{scene_of}
use Rattle.main_control.proofs.Joins.{ended_idle, ended_busy}
use Rattle.main_control.proofs.control.Control.end_halt.Goals as goal

pub returns-then-is_idle-clause-exact : goal.returns-then-is_idle-clause-exact
returns-then-is_idle-clause-exact c state entries boxes =
    ended_idle (scene_of c.args.self.now state entries) boxes (c.if-is_in_hbox.ensures.lists state entries) c.if-is_idle.ensures

pub returns-else-is_idle-clause-exact : goal.returns-else-is_idle-clause-exact
returns-else-is_idle-clause-exact c state entries boxes =
    ended_busy (scene_of c.args.self.now state entries) boxes (c.if-is_in_hbox.ensures.lists state entries) c.if-is_idle.ensures
