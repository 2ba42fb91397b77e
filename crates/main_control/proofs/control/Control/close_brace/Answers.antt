use Rattle.std.proofs.Common.{◌≡◌, Ok, Err, refl}
use Rattle.env_groups.specs.declared.group.GroupKind.TheVariants.{Simple}
use Rattle.env_groups.specs.Environments.{group_closed}
use Rattle.mouth.specs.Keeping.{reading, place_in}
use Rattle.mouth.specs.Reading.{at_place}
use Rattle.expander.specs.Worlds.{world as text}
use Rattle.control_faults.specs.TurnFaults.{read_cause, of_env}
use Rattle.assignments.specs.Worlds.{stopped as fault_at}
use Rattle.main_control.specs.Bodies.{Body}
use Rattle.main_control.specs.Worlds.{Quiet, in_scene, scene_of}
use Rattle.main_control.specs.Standing.{Holds}
use Rattle.main_control.proofs.Sets.{stands_so}
use Rattle.main_control.proofs.Joins.{calm_goes, calm_ends, agrees_itself}
use Rattle.main_control.proofs.Boxing.{brace_closes, brace_boxes, brace_refused, sure_fault, sure_by}
use Rattle.main_control.proofs.control.Control.close_brace.Goals as goal

pub returns-in-Ok-clause-exact : goal.returns-in-Ok-clause-exact
returns-in-Ok-clause-exact g c =
    let old : Body = record { gullet = c.self.inside.gullet; nest = c.self.inside.env; fonts = c.self.inside.fonts; table = c.self.inside.table; lists = c.self.inside.lists } in
    let new : Body = record { gullet = c.self.inside.gullet; nest = c.close.new.self; fonts = c.self.inside.fonts; table = c.self.inside.table; lists = c.self.inside.lists } in
    rw (← c.self.view_is) (λ state held met entries stand boxes holds.
    let quiet : Quiet = in_scene (scene_of old state entries) (Ok (text (reading old.gullet state) new.nest)) in
    rw (brace_closes (scene_of old state entries) boxes c.close.new.self c.in-Ok.ensures.exact)
    (calm_goes (Holds (g.P.Shipper.stands c.args.shipper.now) held) new state boxes quiet (stands_so new state entries quiet refl stand) holds))

pub returns-in-Err-clause-exact : goal.returns-in-Err-clause-exact
returns-in-Err-clause-exact g c =
    let old : Body = record { gullet = c.self.inside.gullet; nest = c.self.inside.env; fonts = c.self.inside.fonts; table = c.self.inside.table; lists = c.self.inside.lists } in
    rw (← c.self.view_is) (λ state held met entries stand boxes holds.
    let is = sure_fault (group_closed old.nest Simple) c.in-Err.field-0 c.in-Err.ensures.exact (sure_by c.in-Err.field-0 c.in-Err.ensures.memory) in
    let ends = rw c.in-Err.ensures.refused at (c.end_box.ensures.exact state held met entries stand boxes holds) in
    rw (brace_boxes (scene_of old state entries) boxes c.in-Err.field-0 is (c.if-is_in_hbox.ensures.lists state entries)) ends)

pub returns-in-Err-2-clause-exact : goal.returns-in-Err-2-clause-exact
returns-in-Err-2-clause-exact g c =
    let old : Body = record { gullet = c.self.inside.gullet; nest = c.self.inside.env; fonts = c.self.inside.fonts; table = c.self.inside.table; lists = c.self.inside.lists } in
    rw (← c.self.view_is) (λ state held met entries stand boxes holds.
    let s = scene_of old state entries in
    let fault = c.in-Err.field-0 in
    let is = sure_fault (group_closed old.nest Simple) fault c.in-Err.ensures.exact (sure_by fault c.in-Err.ensures.memory) in
    let quiet : Quiet = Err (fault_at s.text (of_env fault)) in
    rw (c.from.ensures, brace_refused s boxes fault is (c.if-is_in_hbox.ensures.lists state entries))
    (calm_ends (Holds (g.P.Shipper.stands c.args.shipper.now) held) boxes (place_in old.gullet) (of_env fault) quiet (agrees_itself (read_cause (of_env fault)) (at_place (place_in old.gullet) (of_env fault)) quiet refl) holds))
