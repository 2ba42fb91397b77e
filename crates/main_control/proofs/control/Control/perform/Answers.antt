use Rattle.std.proofs.Common.{refl}
use Rattle.assignments.specs.Assignments.{carried_out}
use Rattle.main_control.specs.Bodies.{Body}
use Rattle.main_control.specs.Fonts.{prepared_done}
use Rattle.main_control.specs.Worlds.{text_of, scene_of}
use Rattle.main_control.proofs.Sets.{text_sets, rest_done}
use Rattle.main_control.proofs.control.Control.perform.Goals as goal

pub returns-in-LoadFont-clause-exact : goal.returns-in-LoadFont-clause-exact
unfolding prepared_done
returns-in-LoadFont-clause-exact g c told entries stand = rw c.in-LoadFont.is (c.load.ensures.exact told entries stand)

pub returns-in-SelectFont-clause-exact : goal.returns-in-SelectFont-clause-exact
unfolding prepared_done
returns-in-SelectFont-clause-exact g c told entries stand = rw c.in-SelectFont.is (c.select.ensures.exact (g.F.Files.state c.args.files.now) entries stand)

pub returns-in_default-clause-exact : goal.returns-in_default-clause-exact
returns-in_default-clause-exact g c =
    let before = g.F.Files.state c.args.files.now in
    let old : Body = record { gullet = c.self.inside.gullet; nest = c.self.inside.env; fonts = c.self.inside.fonts; table = c.self.inside.table; lists = c.self.inside.lists } in
    let new : Body = record { gullet = c.carry_out.new.gullet; nest = c.carry_out.new.env; fonts = c.self.inside.fonts; table = c.self.inside.table; lists = c.self.inside.lists } in
    rw (← c.self.view_is) (λ told entries stand.
    rw (rest_done c.args.prefixes c.args.assignment (scene_of old before entries) c.in_default.not-LoadFont c.in_default.not-SelectFont)
    (text_sets old new before (g.F.Files.state c.carry_out.new.files) entries c.carry_out.result (carried_out c.args.prefixes c.args.assignment (text_of old before)) (c.carry_out.ensures.exact told) (record { fonts = refl; table = refl; lists = refl }) stand))
