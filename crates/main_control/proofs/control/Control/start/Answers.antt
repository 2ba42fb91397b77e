use Rattle.std.proofs.Common.{[], refl}
use Rattle.main_control.specs.Bodies.{Body}
use Rattle.main_control.proofs.Going.{start_stands, start_going}
use Rattle.main_control.proofs.control.Control.start.Goals as goal

pub returns-in-Ok-start-clause-begun : goal.returns-in-Ok-start-clause-begun
returns-in-Ok-start-clause-begun g c = record {
  fonts = c.new-in-Ok-start.ensures;
  table = c.new-in-Ok-start-2.ensures;
  lists = start_stands c.new-in-Ok-start-3.result (c.new-in-Ok-start-3.ensures []);
}

pub returns-in-Ok-start-clause-going : goal.returns-in-Ok-start-clause-going
returns-in-Ok-start-clause-going g c =
    let new : Body = record { gullet = c.in-Ok-start.gullet; nest = c.in-Ok.env; fonts = c.new-in-Ok-start.result; table = c.new-in-Ok-start-2.result; lists = c.new-in-Ok-start-3.result } in
    start_going new c.in-Ok-start.ensures.readable (rw (c.in-Ok-start.ensures.names, c.in-Ok.ensures) c.environments_stay_fit.ensures.start) c.in-Ok.ensures c.new-in-Ok-start.ensures c.new-in-Ok-start-2.ensures (c.new-in-Ok-start-3.ensures [])
    c.fonts_begin_so.ensures.numbered c.fonts_begin_so.ensures.definable c.fonts_begin_so.ensures.whole (c.glyphs_stay_of_fonts.ensures.start [])
