use Rattle.std.proofs.Common.{refl}
use Rattle.mouth.specs.Keeping.{held_in}
use Rattle.main_control.specs.Bodies.{Body}
use Rattle.main_control.specs.Worlds.{text_of}
use Rattle.font_commands.specs.Fonts.{font_defined}
use Rattle.main_control.proofs.Sets.{font_sets, some_held}
use Rattle.main_control.proofs.Going.{loaded_going}
use Rattle.main_control.proofs.control.Control.load_font.Goals as goal

pub returns-clause-exact : goal.returns-clause-exact
returns-clause-exact g c =
    let before = g.F.Files.state c.args.files.now in
    let old : Body = record { gullet = c.self.inside.gullet; nest = c.self.inside.env; fonts = c.self.inside.fonts; table = c.self.inside.table; lists = c.self.inside.lists } in
    let new : Body = record { gullet = c.define_font.new.gullet; nest = c.define_font.new.env; fonts = c.define_font.new.fonts; table = c.define_font.new.table; lists = c.self.inside.lists } in
    rw (← c.self.view_is) (λ told entries stand.
    font_sets old new before (g.F.Files.state c.define_font.new.files) entries c.define_font.result (font_defined (held_in before.held) c.args.is_global old.fonts (text_of old before))
    (c.define_font.ensures.exact (held_in before.held) (some_held before.held told.0) told) refl stand)

pub returns-clause-going : goal.returns-clause-going
returns-clause-going g c =
    let was = rw (← c.self.view_is) at c.requires.going in
    let old : Body = record { gullet = c.self.inside.gullet; nest = c.self.inside.env; fonts = c.self.inside.fonts; table = c.self.inside.table; lists = c.self.inside.lists } in
    let new : Body = record { gullet = c.define_font.new.gullet; nest = c.define_font.new.env; fonts = c.define_font.new.fonts; table = c.define_font.new.table; lists = c.self.inside.lists } in
    loaded_going c.define_font.result old new c.glyphs_stay_of_fonts.ensures.grown was c.define_font.ensures.readable c.define_font.ensures.fit c.define_font.ensures.situation c.define_font.ensures.numbered c.define_font.ensures.defined
    c.define_font.ensures.definable c.define_font.ensures.whole c.define_font.ensures.grown refl
