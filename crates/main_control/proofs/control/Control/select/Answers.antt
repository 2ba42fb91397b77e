use Rattle.std.proofs.Common.{refl}
use Rattle.main_control.specs.Bodies.{Body}
use Rattle.main_control.proofs.Sets.{used_sets}
use Rattle.main_control.proofs.control.Control.select.Goals as goal

pub returns-clause-exact : goal.returns-clause-exact
returns-clause-exact c =
    let old : Body = record { gullet = c.self.inside.gullet; nest = c.self.inside.env; fonts = c.self.inside.fonts; table = c.self.inside.table; lists = c.self.inside.lists } in
    let new : Body = record { gullet = c.self.inside.gullet; nest = c.use_font.new.env; fonts = c.self.inside.fonts; table = c.self.inside.table; lists = c.self.inside.lists } in
    rw (← c.self.view_is) (λ state entries stand.
    rw c.if-prefixes.false (used_sets old new state entries c.use_font.result c.args.font c.args.prefixes.is_global c.use_font.ensures.exact refl (record { fonts = refl; table = refl; lists = refl }) stand))
